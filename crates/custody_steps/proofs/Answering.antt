-- Acknowledgements that were given to chunks, after a message was sent or acknowledged.
use Rattle.std.proofs.Common.{◌≡◌, ℕ, zero, suc, ◌≤◌, ◌==◌, ◌&&◌, ◌||◌, Bool, true, false, cond, List, [], ◌∷◌, ◌++◌, length, Some, slice_get, slice_set, refl, sym, ap, ◌∙◌, arith, inl, inr}
use Rattle.std.specs.List.{list_any}
use Rattle.std.proofs.lemmas.Bool.{and_parts, eqb-true, ne_eqb, cases_eq}
use Rattle.std.proofs.lemmas.List.Folds.{list_any-append}
use Rattle.custody_store.specs.Contents.{Contents, flag_at, buffer_of, IsAnsweredToo}
use Rattle.custody_store.specs.Places.{contents_at, closed_at, IsChangedAt}
use Rattle.custody_store.specs.declared.places.Places.{Places}
use Rattle.custody_store.specs.Book.{Message, Book, changed_at, acknowledged_message}
use Rattle.custody_store.specs.declared.sender.Sender.{Sender}
use Rattle.custody_store.specs.declared.sender.Sender.TheVariants as sender
use Rattle.custody_steps.specs.Answers.{is_from, is_answer}
use Rattle.custody_steps.specs.WorldFrom.{world_from, deliveries_from}
use Rattle.custody_steps.proofs.Delivered.{changed_at-there}
use Rattle.custody_steps.proofs.Views.{KnowAnswers}

or_false : (a : Bool) → (a || false) ≡ a
or_false true = refl
or_false false = refl

and_false : (a : Bool) → (a && false) ≡ false
and_false true = refl
and_false false = refl

or_swap : (a t r : Bool) → (a || (t || r)) ≡ (t || (a || r))
or_swap true true r = refl
or_swap true false r = refl
or_swap false t r = refl

or_within : (a t r : Bool) → ((t || a) || r) ≡ (t || (a || r))
or_within a true r = refl
or_within a false r = refl

-- A message that isn't acknowledged was sent.
pub answers-sent : {A : Type 0} (places : Places A) (messages : List Message) (m : Message) → m.acknowledged ≡ false → KnowAnswers places messages → KnowAnswers places (messages ++ m ∷ [])
answers-sent places messages m e know p b s =
    know p b s ∙ sym
    (list_any-append (is_answer p b s) messages (m ∷ [])
    ∙ ap (λ (t : Bool). list_any (is_answer p b s) messages || (t || false)) (ap (λ (t : Bool). is_from p b s m.sender && t) e ∙ and_false (is_from p b s m.sender))
    ∙ or_false (list_any (is_answer p b s) messages))

any_set : {X : Type 0} (test : X → Bool) (t : Bool) (xs : List X) (n : ℕ) (x new : X) → slice_get xs n ≡ Some x → test new ≡ (t || test x) → list_any test (slice_set xs n new) ≡ (t || list_any test xs)
any_set test t [] n x new at e = absurd (cc)
any_set test t (y ∷ xs) zero x new at e =
    let same : y ≡ x = cc in
    ap (λ (c : Bool). c || list_any test xs) (e ∙ ap (λ z. t || test z) (sym same)) ∙ or_within (test y) t (list_any test xs)
any_set test t (y ∷ xs) (suc n) x new at e = ap (λ (c : Bool). test y || c) (any_set test t xs n x new at e) ∙ or_swap (test y) t (list_any test xs)

marked : (t a : Bool) → (t && true) ≡ (t || (t && a))
marked true a = refl
marked false a = refl

-- the answers after a message was acknowledged
any_marked : (messages : List Message) (n : ℕ) (m : Message) (p b s : ℕ) → slice_get messages n ≡ Some m
    → list_any (is_answer p b s) (changed_at messages n acknowledged_message) ≡ (is_from p b s m.sender || list_any (is_answer p b s) messages)
any_marked messages n m p b s at =
    ap (list_any (is_answer p b s)) (changed_at-there acknowledged_message messages n m at)
    ∙ any_set (is_answer p b s) (is_from p b s m.sender) messages n m (acknowledged_message m) at (marked (is_from p b s m.sender) m.acknowledged)

-- A client's message was acknowledged.
pub answers-client : {A : Type 0} (places : Places A) (messages : List Message) (n : ℕ) (m : Message) (client : ℕ) → slice_get messages n ≡ Some m → m.sender ≡ sender.Client client → KnowAnswers places messages
    → KnowAnswers places (changed_at messages n acknowledged_message)
answers-client places messages n m client at e know p b s =
    know p b s ∙ sym (any_marked messages n m p b s at ∙ ap (λ (x : Sender). is_from p b s x || list_any (is_answer p b s) messages) e)

eqb_turned : (a b : ℕ) → (a == b) ≡ (b == a)
eqb_turned a b = elim (cases_eq a b) as (λ _. (a == b) ≡ (b == a)) [
  | inl e ↦ rw e refl
  | inr apart ↦ ne_eqb a b apart ∙ sym (ne_eqb b a (λ e. apart (sym e)))
]

and_regrouped : (x y z : Bool) → (x && (y && z)) ≡ ((x && y) && z)
and_regrouped true y z = refl
and_regrouped false y z = refl

same_id : (p b s p0 b0 s0 : ℕ) → is_from p b s (sender.Chunk p0 b0 s0) ≡ (((p == p0) && (b == b0)) && (s == s0))
same_id p b s p0 b0 s0 =
    ap (λ (x : Bool). x && ((b0 == b) && (s0 == s))) (eqb_turned p0 p)
    ∙ ap (λ (x : Bool). (p == p0) && (x && (s0 == s))) (eqb_turned b0 b)
    ∙ ap (λ (x : Bool). (p == p0) && ((b == b0) && x)) (eqb_turned s0 s)
    ∙ and_regrouped (p == p0) (b == b0) (s == s0)

or_if : (u r : Bool) → cond u true r ≡ (u || r)
or_if true r = refl
or_if false r = refl

-- An acknowledgement was given to a chunk, or it wasn't for want of memory.
module _ {A : Type 0} (before after : Places A) (place buffer serial : ℕ) (is : IsChangedAt before after place buffer (contents_at after place buffer)) where
  at_key : (p b : ℕ) → ((p == place) && (b == buffer)) ≡ true → (p ≡ place) × (b ≡ buffer)
  at_key p b e = let parts = and_parts (p == place) (b == buffer) e in (eqb-true p place parts.0, eqb-true b buffer parts.1)

  -- but for the flags nothing changed
  pub flagged_world : (contents_at after place buffer).chunks ≡ (contents_at before place buffer).chunks → (contents_at after place buffer).sink ≡ (contents_at before place buffer).sink
      → (book : Book) → world_from after book ≡ world_from before book
  flagged_world chunks sink book = λ i. record {
    buffers = λ p b. (ap buffer_of (is.contents p b) ∙ kept p b ((p == place) && (b == buffer)) (at_key p b)) i;
    messages = book.messages;
    deliveries = deliveries_from (λ p. is.closed p i) 0 book.deliveries;
    acknowledged = book.acknowledged;
  }
    where
      kept : (p b : ℕ) (t : Bool) → (t ≡ true → (p ≡ place) × (b ≡ buffer)) → buffer_of (cond t (contents_at after place buffer) (contents_at before p b)) ≡ buffer_of (contents_at before p b)
      kept p b true key = let k = key refl in rw k.0 (rw k.1 (λ i. record {
        chunks = λ s. Rattle.custody_store.specs.Contents.chunk_at (chunks i) s;
        next = length (chunks i);
        sink = sink i;
      }))
      kept p b false key = refl

  -- no flag changed
  pub flags_kept : ((s : ℕ) → flag_at (contents_at after place buffer).answered s ≡ flag_at (contents_at before place buffer).answered s) → (messages : List Message) → KnowAnswers before messages → KnowAnswers after messages
  flags_kept same messages know p b s = ap (λ (c : Contents). flag_at c.answered s) (is.contents p b) ∙ kept p b s ((p == place) && (b == buffer)) (at_key p b) ∙ know p b s
    where
      kept : (p b s : ℕ) (t : Bool) → (t ≡ true → (p ≡ place) × (b ≡ buffer)) → flag_at (cond t (contents_at after place buffer) (contents_at before p b)).answered s ≡ flag_at (contents_at before p b).answered s
      kept p b s true key = let k = key refl in rw k.0 (rw k.1 (same s))
      kept p b s false key = refl

  pub flagged_closed : (n : ℕ) → ((p : ℕ) → closed_at before p ≤ n) → (p : ℕ) → closed_at after p ≤ n
  flagged_closed n most p = let e = is.closed p in let m = most p in omega arith

  -- the flag of the chunk that sent the message
  pub answers-chunk : IsAnsweredToo (contents_at before place buffer).answered serial (contents_at after place buffer).answered → (messages : List Message) (n : ℕ) (m : Message) → slice_get messages n ≡ Some m → m.sender ≡ sender.Chunk place buffer serial
      → KnowAnswers before messages → KnowAnswers after (changed_at messages n acknowledged_message)
  answers-chunk too messages n m at e know p b s =
      ap (λ (c : Contents). flag_at c.answered s) (is.contents p b)
      ∙ told ((p == place) && (b == buffer)) (at_key p b)
      ∙ ap (λ (r : Bool). (((p == place) && (b == buffer)) && (s == serial)) || r) (know p b s)
      ∙ ap (λ (f : Bool). f || list_any (is_answer p b s) messages) (sym (ap (is_from p b s) e ∙ same_id p b s place buffer serial))
      ∙ sym (any_marked messages n m p b s at)
    where
      told : (t : Bool) → (t ≡ true → (p ≡ place) × (b ≡ buffer)) → flag_at (cond t (contents_at after place buffer) (contents_at before p b)).answered s ≡ ((t && (s == serial)) || flag_at (contents_at before p b).answered s)
      told true key = let k = key refl in rw k.0 (rw k.1 (too s ∙ or_if (s == serial) (flag_at (contents_at before place buffer).answered s)))
      told false key = refl
