-- Appends that wait, one after another.
use Rattle.std.proofs.Common.{◌≡◌, ◌≢◌, ◌+◌, ◌<◌, ◌≤◌, ℕ, zero, suc, Bool, true, false, cond, List, [], ◌∷◌, ◌++◌, length, map, get_or, take, None, refl, sym, ap, subst, ◌∙◌, arith, append-nil}
use Rattle.std.specs.Prelude.{All}
use Rattle.std.specs.Ordering.{nat_cmp}
use Rattle.std.specs.BTreeMap.{is_at}
use Rattle.std.proofs.lemmas.List.{take_more}
use Rattle.std.proofs.lemmas.List.Elements.{All-push, All-weaker, All-get_or}
use Rattle.std.proofs.lemmas.List.Quantifiers.{all_pairs_push}
use Rattle.buffer_state.proofs.Serials.{at_same}
use Rattle.book_audit.specs.declared.line.Leaf.{Leaf}
use Rattle.book_audit.specs.declared.line.Line.{Line}
use Rattle.ack_receipt.specs.Books.{waiting_at}
use Rattle.ack_receipt.specs.declared.past.Written.{Written}
use Rattle.ack_receipt.specs.Deliveries.{Appended, Pended}
use Rattle.ack_receipt.specs.Redeeming.{AreApart, AreBefore, AreReceiptsOf, AreWritten, IsRedeemable, numbers_from, origin_of, origin_of_pending, written_of}

abbrev Apart : Pended → Pended → Type 0
Apart one other = one.place ≢ other.place

-- one in front of others
pub apart_cons : (p : Pended) (ps : List Pended) → All (λ (q : Pended). p.place ≢ q.place) ps → AreApart ps → AreApart (p ∷ ps)
apart_cons p ps first rest i zero d lt inside = absurd (let z = lt in omega arith)
apart_cons p ps first rest zero (suc j) d lt inside = All-get_or (λ (q : Pended). p.place ≢ q.place) ps j d (let z = inside in omega arith) first
apart_cons p ps first rest (suc i) (suc j) d lt inside = rest i j d (let z = lt in omega arith) (let z = inside in omega arith)

pub apart_tail : (p : Pended) (ps : List Pended) → AreApart (p ∷ ps) → AreApart ps
apart_tail p ps h i j d lt inside = h (suc i) (suc j) d (let z = lt in omega arith) (let z = inside in omega arith)

pub apart_head : (p : Pended) (ps : List Pended) → AreApart (p ∷ ps) → All (λ (q : Pended). p.place ≢ q.place) ps
apart_head p ps h = λ k d inside. h zero (suc k) d (omega arith) (let z = inside in omega arith)

-- what waits goes on to wait when another has its receipt
pub waits_on : (leaf : Leaf) (w v : List (ℕ × Line)) (p : Pended) (ps : List Pended) → ((q : ℕ) → waiting_at v q ≡ cond (is_at (nat_cmp p.place) q) None (waiting_at w q))
    → All (λ (q : Pended). p.place ≢ q.place) ps → All (IsRedeemable leaf w) ps → All (IsRedeemable leaf v) ps
waits_on leaf w v p ps out others h = λ k d inside. one (get_or ps k d) (others k d inside) (h k d inside)
  where
    one : (q : Pended) → p.place ≢ q.place → IsRedeemable leaf w q → IsRedeemable leaf v q
    one q ne r = record { own = r.own; waits = out q.place ∙ ap (λ (t : Bool). cond t None (waiting_at w q.place)) (differs (is_at (nat_cmp p.place) q.place) refl) ∙ r.waits }
      where
        differs : (t : Bool) → is_at (nat_cmp p.place) q.place ≡ t → t ≡ false
        differs true e = absurd (ne (at_same p.place q.place e))
        differs false e = refl

-- a place above all before it
pub rises_more : (ps : List Pended) (i : ℕ) (d : Pended) (next : ℕ) → i < length ps → next ≤ (get_or ps i d).place → AreApart (take i ps) → AreBefore next (take i ps)
    → AreApart (take (i + 1) ps) × AreBefore ((get_or ps i d).place + 1) (take (i + 1) ps)
rises_more ps i d next less above apart before =
    let p = get_or ps i d in
    let more : take (i + 1) ps ≡ take i ps ++ p ∷ [] = take_more ps i d less in (
      subst AreApart (sym more) (all_pairs_push Apart (take i ps) p apart (λ k e inside same. let b = All-get_or (λ (q : Pended). q.place < next) (take i ps) k e inside before in absurd (let z = same in omega arith))),
      subst (AreBefore (p.place + 1)) (sym more) (All-push (λ (q : Pended). q.place < p.place + 1) (take i ps) p (All-weaker (λ (q : Pended). q.place < next) (λ (q : Pended). q.place < p.place + 1) (λ q b. omega arith) (take i ps) before) (omega arith)),
    )

-- a receipt of each was made
pub all_made : (leaf : Leaf) (waiting : List (ℕ × Line)) (pendings rest : List Pended) (receipts : List Appended) → rest ≡ []
    → map origin_of receipts ++ map origin_of_pending rest ≡ map origin_of_pending pendings → All (IsRedeemable leaf waiting) pendings → AreReceiptsOf leaf pendings receipts
all_made leaf waiting pendings rest receipts none made can = record {
  same = sym (append-nil (map origin_of receipts)) ∙ ap (λ (ps : List Pended). map origin_of receipts ++ map origin_of_pending ps) (sym none) ∙ made;
  own = All-weaker (IsRedeemable leaf waiting) (λ (p : Pended). p.leaf ≡ leaf) (λ p r. r.own) pendings can;
}

-- and a line
pub all_written : (old new : List Written) (pendings rest : List Pended) (receipts : List Appended) → rest ≡ []
    → new ++ map written_of rest ≡ old ++ map written_of pendings
    → map (λ receipt. receipt.line) receipts ++ numbers_from (length new) rest ≡ numbers_from (length old) pendings → AreWritten pendings receipts old new
unfolding numbers_from
all_written old new pendings rest receipts none lines named = record {
  lines = sym (append-nil new) ∙ ap (λ (ps : List Pended). new ++ map written_of ps) (sym none) ∙ lines;
  named = sym (append-nil (map (λ (r : Appended). r.line) receipts))
      ∙ ap (λ (ps : List Pended). map (λ (r : Appended). r.line) receipts ++ numbers_from (length new) ps) (sym none) ∙ named;
}

-- there is room for all where none was made
pub room_first : {X : Type 0} (items : List X) (len count given room : ℕ) → len ≡ length items → items ≡ [] → count ≡ given → given ≤ room → len + count ≤ room
room_first items len count given room is none same fits =
    let empty : length items ≡ 0 = ap (λ xs. length xs) none in
    omega arith
