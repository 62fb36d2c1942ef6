-- What an append answers at each of its ends.
use Rattle.std.proofs.Common.{◌≡◌, ◌≢◌, ◌⊎◌, ⊎_elim, inl, inr, ◌↔◌, ℕ, ◌+◌, ◌-◌, ◌^◌, ◌<◌, ◌≤◌, Bool, true, false, cond, List, length, Option, Some, None, refl, sym, ap, subst, ◌∙◌, arith}
use Rattle.std.specs.Prelude.{Result, Ok, Err, OnErr, All, IfSome, is_err, is_some, if◌then◌else◌, slice_get}
use Rattle.std.specs.Result.{IsErrAnd}
use Rattle.std.specs.Ordering.{nat_cmp}
use Rattle.std.specs.BTreeMap.{is_at}
use Rattle.std.proofs.lemmas.Bool.{true≢false}
use Rattle.std.proofs.lemmas.Option.{slice_get_within}
use Rattle.std.proofs.lemmas.Result.{err_from_is_err_and}
use Rattle.book_audit.specs.Audits.{Pages, SameLines, Writes, open_at}
use Rattle.book_audit.specs.declared.line.Line.{Line}
use Rattle.buffer_state.proofs.Serials.{at_itself, at_same}
use Rattle.buffer_state.specs.State.{State}
use Rattle.buffer_state.specs.Steps.{planned}
use Rattle.buffer_store.specs.Buffers.{Held}
use Rattle.buffer_store.specs.Logs.{Flags}
use Rattle.buffer_store.specs.Refusals.{of_plan}
use Rattle.buffer_store.specs.declared.fault.BufferFault.{BufferFault}
use Rattle.buffer_store.specs.declared.fault.BufferFault.TheVariants as fault
use Rattle.ack_receipt.specs.declared.past.Written.{Written}
use Rattle.event_modes.specs.Message.{longest_tag}
use Rattle.ack_receipt.specs.Books.{Book, IsAccounted, IsSound, RefusesAppend, Steady, Unchanged, book_of, waiting_at}
use Rattle.ack_receipt.proofs.Answered.{err_of, some_long}
use Rattle.ack_receipt.proofs.Sound.{pages_same}

-- what a `?` answers
pub told : {T : Type 0} (e : BufferFault) (r : Result T BufferFault) → IsErrAnd r (λ y. y ≡ e) → r ≡ Err e
told e r is = let p = err_from_is_err_and r is in p.1 ∙ ap Err p.2

pub on_err : {T : Type 0} (r : Result T BufferFault) (P : Type 0) → P → OnErr r P
on_err (Ok x) P p = tt
on_err (Err e) P p = p

pub kept_at : {T E : Type 0} (r : Result T E) (P : Type 0) → is_err r ≡ true → OnErr r P → P
kept_at (Ok x) P e p = absurd (cc e)
kept_at (Err x) P e p = p

-- ---- why it is refused

abbrev Says : {D T : Type 0} → Book D → Result T BufferFault → Type 0
Says b q = (q ≡ Err fault.Memory) ⊎ ((q ≡ Err fault.Fault) ⊎ ((q ≡ Err fault.LastSerial) × (2 ^ 64 - 1 ≤ length b.appends)))

module _ {D T U : Type 0} (tag : List ℕ) (entries : List (List ℕ)) (b : Book D) where
  -- the plan's error
  pub refuses_as : (e : BufferFault) (r : Result T BufferFault) (s : Result U BufferFault) → r ≡ Err e → s ≡ Err e → RefusesAppend tag entries b r → RefusesAppend tag entries b s
  refuses_as e r s one other h = record {
    long = λ going long. err_of r s e fault.TooLarge one other (h.long going long);
    refused = λ going short f at. err_of r s e (of_plan f) one other (h.refused going short f at);
    accepted = λ going short n at. on_err s (Says b s) (says (subst (λ (q : Result T BufferFault). OnErr q (Says b r)) one (h.accepted going short n at)));
  }
    where
      says : Says b r → Says b s
      says it = ⊎_elim (λ m. inl (err_of r s e fault.Memory one other m)) (⊎_elim (λ f. inr (inl (err_of r s e fault.Fault one other f))) (λ l. inr (inr (err_of r s e fault.LastSerial one other l.0, l.1)))) it

  -- after a plan, want of memory or a fault
  pub refuses_after : (x : T) (s : Result U BufferFault) → (s ≡ Err fault.Memory) ⊎ (s ≡ Err fault.Fault) → RefusesAppend {T = T} tag entries b (Ok x) → RefusesAppend tag entries b s
  refuses_after x s is h = record {
    long = λ going long. absurd (let q = h.long going long in cc q);
    refused = λ going short f at. absurd (let q = h.refused going short f at in cc q);
    accepted = λ going short n at. on_err s (Says b s) (⊎_elim (λ m. inl m) (λ f. inr (inl f)) is);
  }

  -- after a plan, all went well
  pub refuses_none : (x : T) (y : U) → RefusesAppend {T = T} tag entries b (Ok x) → RefusesAppend {T = U} tag entries b (Ok y)
  refuses_none x y h = record {
    long = λ going long. absurd (let q = h.long going long in cc q);
    refused = λ going short f at. absurd (let q = h.refused going short f at in cc q);
    accepted = λ going short n at. tt;
  }

-- what has its place in a plan isn't refused
pub refuses_not : {D : Type 0} (tag : List ℕ) (entries : List (List ℕ)) (b now : Book D) (serial : ℕ) → b ≡ now → length tag ≤ longest_tag → planned b.buffer.limits b.buffer.chunks tag entries ≡ Ok serial
    → RefusesAppend {T = ℕ} tag entries now (Ok serial)
refuses_not {D} tag entries b now serial there short at = subst (λ (k : Book D). RefusesAppend {T = ℕ} tag entries k (Ok serial)) there (record {
  long = λ going long. absurd (let z = long in omega (arith, short));
  refused = λ going fits f is. absurd (let q = sym at ∙ is in cc q);
  accepted = λ going fits n is. tt;
})

-- ---- the buffer

module _ {D T U : Type 0} where
  -- the error of a call that left the buffer alone
  pub steady_as : (b : Held D) (e : BufferFault) (r : Result T BufferFault) (s : Result U BufferFault) → r ≡ Err e → s ≡ Err e → (r ≡ Err fault.Failed) ↔ (b.failed ≡ true) → r ≢ Err fault.Fault → Steady b b s
  steady_as b e r s one other failed quiet = record {
    failed = ((λ q. failed.0 (err_of s r e fault.Failed other one q)), (λ t. err_of r s e fault.Failed one other (failed.1 t)));
    flags = record { fails = λ f. absurd (quiet (err_of s r e fault.Fault other one f)); stays = λ _. refl };
    limits = refl;
  }

  -- the error of a call of the buffer
  pub steady_err : (b c : Held D) (e : BufferFault) (r : Result T BufferFault) (s : Result U BufferFault) → r ≡ Err e → s ≡ Err e → (r ≡ Err fault.Failed) ↔ (b.failed ≡ true) → Flags b.failed c.failed r → c.limits ≡ b.limits → Steady b c s
  steady_err b c e r s one other failed flags limits = record {
    failed = ((λ q. failed.0 (err_of s r e fault.Failed other one q)), (λ t. err_of r s e fault.Failed one other (failed.1 t)));
    flags = record { fails = λ f. flags.fails (err_of s r e fault.Fault other one f); stays = λ n. flags.stays (λ f. n (err_of r s e fault.Fault one other f)) };
    limits = limits;
  }

  -- all went well
  pub steady_ok : (b c : Held D) (x : T) (r : Result T BufferFault) (y : U) → r ≡ Ok x → (r ≡ Err fault.Failed) ↔ (b.failed ≡ true) → Flags b.failed c.failed r → c.limits ≡ b.limits → Steady {T = U} b c (Ok y)
  steady_ok b c x r y is failed flags limits = record {
    failed = ((λ q. absurd (cc q)), (λ t. absurd (let q = sym is ∙ failed.1 t in cc q)));
    flags = record { fails = λ f. absurd (cc f); stays = λ _. flags.stays (λ f. absurd (let q = sym is ∙ f in cc q)) };
    limits = limits;
  }

-- want of memory
pub steady_memory : {D T : Type 0} (b : Held D) (s : Result T BufferFault) → s ≡ Err fault.Memory → b.failed ≡ false → Steady b b s
steady_memory b s is going = record {
  failed = ((λ q. absurd (let e = sym is ∙ q in cc e)), (λ t. absurd (true≢false (sym t ∙ going))));
  flags = record { fails = λ f. absurd (let e = sym is ∙ f in cc e); stays = λ _. refl };
  limits = refl;
}

-- ---- the book

pub same_lines : (p : Pages) → SameLines p p
same_lines p = record { count = refl; each = λ _. refl }

pub unchanged : {D : Type 0} (b : Book D) → Unchanged b b
unchanged b = record {
  book = record { first = refl; appends = refl; lines = refl; pages = same_lines b.pages; waiting = λ _. refl; removed = refl };
  chunks = refl;
  synced = refl;
}

module _ {D : Type 0} (b : Held D) (f : List (ℕ × ℕ)) (a : List Line) (l : List Written) (p : Pages) (w : List (ℕ × Line)) (s : ℕ) (r : List ℕ) where
  -- more room, and the same that waits
  pub unchanged_parts : (c : Held D) (q : Pages) (v : List (ℕ × Line)) → c.chunks ≡ b.chunks → SameLines p q → ((n : ℕ) → waiting_at v n ≡ waiting_at w n) → Unchanged (book_of b f a l p w s r) (book_of c f a l q v s r)
  unchanged_parts c q v chunks same waits = record {
    book = record { first = refl; appends = refl; lines = refl; pages = same; waiting = waits; removed = refl };
    chunks = chunks;
    synced = refl;
  }

  pub sound_roomy : (q : Pages) → SameLines p q → p.room ≤ q.room → IsSound (book_of b f a l p w s r) → IsSound (book_of b f a l q w s r)
  sound_roomy q same kept h = record {
    accounted = h.accounted;
    receipted = h.receipted;
    on_pages = pages_same p q l same h.on_pages;
    waits = record { each = h.waits.each; room = omega (arith, h.waits.room, kept); few = h.waits.few };
  }

  -- behind the appends none waits
  pub none_behind : IsSound (book_of b f a l p w s r) → waiting_at w (length a) ≡ None
  none_behind h = by (waiting_at w (length a)) (h.waits.each (length a))
    where
      by : (o : Option Line) → IfSome o (λ append. (slice_get a (length a) ≡ Some append) × All (λ (written : Written). written.place ≢ length a) l) → o ≡ None
      by None is = refl
      by (Some x) is = let less : length a < length a = slice_get_within a (length a) x is.0 in absurd (omega (arith, less))

-- one is put where none was, and taken out again
pub gone_again : (w v u : List (ℕ × Line)) (k : ℕ) (x : Line) → ((n : ℕ) → waiting_at v n ≡ cond (is_at (nat_cmp k) n) (Some x) (waiting_at w n)) → ((n : ℕ) → waiting_at u n ≡ cond (is_at (nat_cmp k) n) None (waiting_at v n)) → waiting_at w k ≡ None
    → (n : ℕ) → waiting_at u n ≡ waiting_at w n
gone_again w v u k x put out none n = by (is_at (nat_cmp k) n) refl
  where
    by : (t : Bool) → is_at (nat_cmp k) n ≡ t → waiting_at u n ≡ waiting_at w n
    by true e = out n ∙ ap (λ (t : Bool). cond t None (waiting_at v n)) e ∙ sym (subst (λ (m : ℕ). waiting_at w m ≡ None) (at_same k n e) none)
    by false e = out n ∙ ap (λ (t : Bool). cond t None (waiting_at v n)) e ∙ put n ∙ ap (λ (t : Bool). cond t (Some x) (waiting_at w n)) e

-- so the book stays sound, with more room for its lines
pub sound_again : {D : Type 0} (b : Held D) (f : List (ℕ × ℕ)) (a : List Line) (l : List Written) (p : Pages) (w : List (ℕ × Line)) (s : ℕ) (r : List ℕ) → IsSound (book_of b f a l p w s r)
    → (c : Held D) (q : Pages) (v u : List (ℕ × Line)) (k : ℕ) (x : Line) (out : Option Line) → c.chunks ≡ b.chunks → SameLines p q → p.room ≤ q.room → k ≡ length a
    → ((n : ℕ) → waiting_at v n ≡ cond (is_at (nat_cmp k) n) (Some x) (waiting_at w n)) → length v ≤ length w + 1
    → out ≡ waiting_at v k → ((n : ℕ) → waiting_at u n ≡ cond (is_at (nat_cmp k) n) None (waiting_at v n)) → length u + (if is_some out then 1 else 0) ≡ length v
    → IsSound (book_of c f a l q u s r)
sound_again b f a l p w s r h c q v u k x out chunks same kept is put long found gone len = record {
  accounted = subst (λ (z : State). IsAccounted z f a r) (sym chunks) h.accounted;
  receipted = h.receipted;
  on_pages = pages_same p q l same h.on_pages;
  waits = record {
    each = λ n. subst (λ (o : Option Line). IfSome o (λ append. (slice_get a n ≡ Some append) × All (λ (written : Written). written.place ≢ n) l)) (sym (as_before n)) (h.waits.each n);
    room = omega (arith, h.waits.room, kept, short);
    few = omega (arith, h.waits.few, short);
  };
}
  where
    as_before : (n : ℕ) → waiting_at u n ≡ waiting_at w n
    as_before = gone_again w v u k x put gone (subst (λ (m : ℕ). waiting_at w m ≡ None) (sym is) (none_behind b f a l p w s r h))

    one : length u + 1 ≡ length v
    one = some_long out x (length u) (length v) (found ∙ put k ∙ ap (λ (t : Bool). cond t (Some x) (waiting_at w k)) (at_itself k)) len

    short : length u ≤ length w
    short = omega (arith, one, long)

-- a line is written where the same lines were open before
pub writes_on : (x : Line) (p q v : Pages) → SameLines p q → Writes x q v → Writes x p v
writes_on x p q v same wrote = record {
  count = wrote.count ∙ ap (λ (n : ℕ). n + 1) same.count;
  new_line = subst (λ (n : ℕ). open_at v n ≡ Some x) same.count wrote.new_line;
  kept = λ n other. wrote.kept n (λ is. other (is ∙ same.count)) ∙ same.each n;
}
