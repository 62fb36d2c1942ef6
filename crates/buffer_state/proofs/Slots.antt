-- Slots by serial, and the chunks in them.
use Rattle.std.proofs.Common.{◌≡◌, ℕ, Bool, true, false, cond, List, [], ◌∷◌, ◌++◌, Option, Some, None, option_map, refl, sym, ap, ◌∙◌, IsSome}
use Rattle.std.specs.Prelude.{filter, IfSome, nat_eq}
use Rattle.std.specs.Option.{option_map_or}
use Rattle.std.specs.Ordering.{nat_cmp, eq_by_cmp}
use Rattle.std.specs.BTreeMap.{is_at}
use Rattle.std.specs.List.{AllByRecursion, IsDistinct}
use Rattle.std.specs.List.Sorted.{IsStrictlySortedBy}
use Rattle.std.specs.Map.{lookup, set_value, remove_entry, keys_of}
use Rattle.std.proofs.lemmas.Cmp.{nat_cmp_total, eq_by_cmp_equiv}
use Rattle.std.proofs.lemmas.Map.{lookup-set_value, lookup-remove_entry}
use Rattle.std.proofs.lemmas.Map.Keys.{IsDistinct-from_sorted}
use Rattle.std.proofs.lemmas.Bool.{eq-eqb, true≢false}
use Rattle.buffer_state.specs.declared.chunk.Stage.{Stage}
use Rattle.buffer_state.specs.declared.chunk.Stage.TheVariants.{Queued}
use Rattle.buffer_state.specs.State.{is_queued}
use Rattle.buffer_state.specs.Slots.{Slot, Slots, slot_at, chunks_in}
use Rattle.buffer_state.specs.Views.{passes_at, IsFree}
use Rattle.buffer_state.proofs.Serials.{at_same, apart, if_some}

-- The chunks in the slots

pub lookup_chunks : (slots : Slots) (s : ℕ) → lookup (is_at (nat_cmp s)) (chunks_in slots) ≡ option_map (λ slot. slot.chunk) (slot_at slots s)
lookup_chunks [] s = refl
lookup_chunks (e ∷ es) s = by (is_at (nat_cmp s) e.0) (lookup_chunks es s)
  where
    by : (b : Bool) → lookup (is_at (nat_cmp s)) (chunks_in es) ≡ option_map (λ slot. slot.chunk) (slot_at es s)
        → cond b (Some e.1.chunk) (lookup (is_at (nat_cmp s)) (chunks_in es)) ≡ option_map (λ slot. slot.chunk) (cond b (Some e.1) (slot_at es s))
    by true rest = refl
    by false rest = rest

pub set_chunks : (slots : Slots) (s : ℕ) (w : Slot) → chunks_in (set_value (is_at (nat_cmp s)) slots w) ≡ set_value (is_at (nat_cmp s)) (chunks_in slots) w.chunk
set_chunks [] s w = refl
set_chunks (e ∷ es) s w = by (is_at (nat_cmp s) e.0) (set_chunks es s w)
  where
    by : (b : Bool) → chunks_in (set_value (is_at (nat_cmp s)) es w) ≡ set_value (is_at (nat_cmp s)) (chunks_in es) w.chunk
        → chunks_in (cond b ((e.0, w) ∷ es) (e ∷ set_value (is_at (nat_cmp s)) es w)) ≡ cond b ((e.0, w.chunk) ∷ chunks_in es) ((e.0, e.1.chunk) ∷ set_value (is_at (nat_cmp s)) (chunks_in es) w.chunk)
    by true rest = refl
    by false rest = ap (λ r. (e.0, e.1.chunk) ∷ r) rest

pub removed_chunks : (slots : Slots) (s : ℕ) → chunks_in (remove_entry (is_at (nat_cmp s)) slots) ≡ remove_entry (is_at (nat_cmp s)) (chunks_in slots)
removed_chunks [] s = refl
removed_chunks (e ∷ es) s = by (is_at (nat_cmp s) e.0) (removed_chunks es s)
  where
    by : (b : Bool) → chunks_in (remove_entry (is_at (nat_cmp s)) es) ≡ remove_entry (is_at (nat_cmp s)) (chunks_in es)
        → chunks_in (cond b es (e ∷ remove_entry (is_at (nat_cmp s)) es)) ≡ cond b (chunks_in es) ((e.0, e.1.chunk) ∷ remove_entry (is_at (nat_cmp s)) (chunks_in es))
    by true rest = refl
    by false rest = ap (λ r. (e.0, e.1.chunk) ∷ r) rest

-- What a serial has after a change

pub same_test : (s x y : ℕ) → is_at (nat_cmp s) x ≡ true → is_at (nat_cmp s) y ≡ eq_by_cmp nat_cmp x y
same_test s x y h = ap (λ (t : ℕ). is_at (nat_cmp t) y) (at_same s x h)

pub there : {X : Type 0} (o : Option X) (v : X) → o ≡ Some v → IsSome o
there None v e = absurd (cc e)
there (Some x) v e = refl

module _ {X : Type 0} where
  pub set_at : (es : List (ℕ × X)) (s q : ℕ) (v w : X) → lookup (is_at (nat_cmp s)) es ≡ Some v
      → lookup (is_at (nat_cmp q)) (set_value (is_at (nat_cmp s)) es w) ≡ cond (is_at (nat_cmp s) q) (Some w) (lookup (is_at (nat_cmp q)) es)
  set_at es s q v w at = lookup-set_value (eq_by_cmp_equiv nat_cmp_total) (is_at (nat_cmp s)) (same_test s) q w es (there _ v at)

  pub removed_at : (es : List (ℕ × X)) (s q : ℕ) → IsStrictlySortedBy nat_cmp (keys_of es)
      → lookup (is_at (nat_cmp q)) (remove_entry (is_at (nat_cmp s)) es) ≡ cond (is_at (nat_cmp s) q) None (lookup (is_at (nat_cmp q)) es)
  removed_at es s q rising = lookup-remove_entry (eq_by_cmp_equiv nat_cmp_total) (is_at (nat_cmp s)) (same_test s) q es (IsDistinct-from_sorted nat_cmp _ rising)

  pub last_at : (es : List (ℕ × X)) (s q : ℕ) (w : X)
      → lookup (is_at (nat_cmp q)) (es ++ (s, w) ∷ []) ≡ option_map_or Some (lookup (is_at (nat_cmp q)) es) (cond (is_at (nat_cmp q) s) (Some w) None)
  last_at [] s q w = refl
  last_at (e ∷ es) s q w = by (is_at (nat_cmp q) e.0) (last_at es s q w)
    where
      by : (b : Bool) → lookup (is_at (nat_cmp q)) (es ++ (s, w) ∷ []) ≡ option_map_or Some (lookup (is_at (nat_cmp q)) es) (cond (is_at (nat_cmp q) s) (Some w) None)
          → cond b (Some e.1) (lookup (is_at (nat_cmp q)) (es ++ (s, w) ∷ [])) ≡ option_map_or Some (cond b (Some e.1) (lookup (is_at (nat_cmp q)) es)) (cond (is_at (nat_cmp q) s) (Some w) None)
      by true rest = refl
      by false rest = rest

-- What passes a test after a change

pub passes_itself : (test : Stage → Bool) (slots : Slots) (s : ℕ) (v : Slot) → slot_at slots s ≡ Some v → passes_at test slots s ≡ test v.chunk.stage
passes_itself test slots s v at = ap (λ o. option_map_or (λ slot. test slot.chunk.stage) o false) at

pub passes_set : (test : Stage → Bool) (slots : Slots) (s q : ℕ) (v w : Slot) → slot_at slots s ≡ Some v
    → passes_at test (set_value (is_at (nat_cmp s)) slots w) q ≡ cond (is_at (nat_cmp s) q) (test w.chunk.stage) (passes_at test slots q)
passes_set test slots s q v w at = rw (set_at slots s q v w at) (by (is_at (nat_cmp s) q))
  where
    by : (b : Bool) → option_map_or (λ slot. test slot.chunk.stage) (cond b (Some w) (slot_at slots q)) false ≡ cond b (test w.chunk.stage) (passes_at test slots q)
    by true = refl
    by false = refl

pub passes_same : (test : Stage → Bool) (slots : Slots) (s q : ℕ) (v w : Slot) → slot_at slots s ≡ Some v → test w.chunk.stage ≡ test v.chunk.stage
    → passes_at test (set_value (is_at (nat_cmp s)) slots w) q ≡ passes_at test slots q
passes_same test slots s q v w at same = passes_set test slots s q v w at ∙ by (is_at (nat_cmp s) q) refl
  where
    by : (b : Bool) → is_at (nat_cmp s) q ≡ b → cond b (test w.chunk.stage) (passes_at test slots q) ≡ passes_at test slots q
    by false e = refl
    by true e = same ∙ sym (passes_itself test slots s v at) ∙ ap (passes_at test slots) (at_same s q e)

pub passes_removed : (test : Stage → Bool) (slots : Slots) (s q : ℕ) → IsStrictlySortedBy nat_cmp (keys_of slots)
    → passes_at test (remove_entry (is_at (nat_cmp s)) slots) q ≡ cond (is_at (nat_cmp s) q) false (passes_at test slots q)
passes_removed test slots s q rising = rw (removed_at slots s q rising) (by (is_at (nat_cmp s) q))
  where
    by : (b : Bool) → option_map_or (λ slot. test slot.chunk.stage) (cond b None (slot_at slots q)) false ≡ cond b false (passes_at test slots q)
    by true = refl
    by false = refl

pub passes_last : (test : Stage → Bool) (slots : Slots) (s q : ℕ) (w : Slot) → test w.chunk.stage ≡ false → passes_at test (slots ++ (s, w) ∷ []) q ≡ passes_at test slots q
passes_last test slots s q w off = rw (last_at slots s q w) (by (slot_at slots q) (is_at (nat_cmp q) s))
  where
    by : (o : Option Slot) (b : Bool) → option_map_or (λ slot. test slot.chunk.stage) (option_map_or Some o (cond b (Some w) None)) false ≡ option_map_or (λ slot. test slot.chunk.stage) o false
    by (Some x) b = refl
    by None true = off
    by None false = refl

-- what holds of each slot
pub if_set : (P : Slot → Type 0) (slots : Slots) (s q : ℕ) (v w : Slot) → slot_at slots s ≡ Some v → (is_at (nat_cmp s) q ≡ true → P w) → IfSome (slot_at slots q) P
    → IfSome (slot_at (set_value (is_at (nat_cmp s)) slots w) q) P
if_set P slots s q v w at new old = rw (set_at slots s q v w at) (by (is_at (nat_cmp s) q) refl)
  where
    by : (b : Bool) → is_at (nat_cmp s) q ≡ b → IfSome (cond b (Some w) (slot_at slots q)) P
    by true e = new e
    by false e = old

pub if_removed : (P : Slot → Type 0) (slots : Slots) (s q : ℕ) → IsStrictlySortedBy nat_cmp (keys_of slots) → IfSome (slot_at slots q) P → IfSome (slot_at (remove_entry (is_at (nat_cmp s)) slots) q) P
if_removed P slots s q rising old = rw (removed_at slots s q rising) (by (is_at (nat_cmp s) q))
  where
    by : (b : Bool) → IfSome (cond b None (slot_at slots q)) P
    by true = tt
    by false = old

pub if_last : (P : Slot → Type 0) (slots : Slots) (s q : ℕ) (w : Slot) → P w → IfSome (slot_at slots q) P → IfSome (slot_at (slots ++ (s, w) ∷ []) q) P
if_last P slots s q w new old = rw (last_at slots s q w) (by (slot_at slots q) (is_at (nat_cmp q) s) old)
  where
    by : (o : Option Slot) (b : Bool) → IfSome o P → IfSome (option_map_or Some o (cond b (Some w) None)) P
    by (Some x) b old = old
    by None true old = new
    by None false old = tt

-- The queue

-- none of the serials is this one
abbrev pub Without : ℕ → List ℕ → Type 0
Without s xs = AllByRecursion (λ q. is_at (nat_cmp s) q ≡ false) xs

pub all_map : (P Q : ℕ → Type 0) → ((q : ℕ) → P q → Q q) → (xs : List ℕ) → AllByRecursion P xs → AllByRecursion Q xs
all_map P Q f [] h = tt
all_map P Q f (x ∷ xs) h = (f x h.0, all_map P Q f xs h.1)

pub all_last : (P : ℕ → Type 0) (xs : List ℕ) (s : ℕ) → AllByRecursion P xs → P s → AllByRecursion P (xs ++ s ∷ [])
all_last P [] s h p = (p, tt)
all_last P (x ∷ xs) s h p = (h.0, all_last P xs s h.1 p)

pub all_both : (P Q R : ℕ → Type 0) → ((q : ℕ) → P q → Q q → R q) → (xs : List ℕ) → AllByRecursion P xs → AllByRecursion Q xs → AllByRecursion R xs
all_both P Q R f [] h k = tt
all_both P Q R f (x ∷ xs) h k = (f x h.0 k.0, all_both P Q R f xs h.1 k.1)

not_queued : (stage : Stage) → stage ≡ Queued → is_queued stage ≡ true
not_queued stage e = ap is_queued e

-- a chunk that isn't queued isn't in the queue
pub without_free : (slots : Slots) (next s : ℕ) (v : Slot) (xs : List ℕ) → slot_at slots s ≡ Some v → is_queued v.chunk.stage ≡ false → AllByRecursion (IsFree slots next) xs → Without s xs
without_free slots next s v xs at off h = all_map (IsFree slots next) (λ q. is_at (nat_cmp s) q ≡ false) (λ q free. by q (is_at (nat_cmp s) q) refl free) xs h
  where
    by : (q : ℕ) (b : Bool) → is_at (nat_cmp s) q ≡ b → IsFree slots next q → b ≡ false
    by q false e free = refl
    by q true e free = absurd (true≢false (
        sym (not_queued v.chunk.stage (if_some (slot_at slots q) (λ slot. slot.chunk.stage ≡ Queued) v free.1 (ap (slot_at slots) (sym (at_same s q e)) ∙ at))) ∙ off))

from_nat : (s q : ℕ) → nat_eq s q ≡ false → is_at (nat_cmp s) q ≡ false
from_nat s q e = by (is_at (nat_cmp s) q) refl
  where
    by : (b : Bool) → is_at (nat_cmp s) q ≡ b → b ≡ false
    by false f = refl
    by true f = absurd (true≢false (sym (eq-eqb s q (at_same s q f)) ∙ e))

pub without_rest : (s : ℕ) (xs : List ℕ) → IsDistinct nat_eq (s ∷ xs) → Without s xs
unfolding IsDistinct
without_rest s xs h = all_map (λ q. nat_eq s q ≡ false) (λ q. is_at (nat_cmp s) q ≡ false) (from_nat s) xs h.0

pub distinct_rest : (s : ℕ) (xs : List ℕ) → IsDistinct nat_eq (s ∷ xs) → IsDistinct nat_eq xs
unfolding IsDistinct
distinct_rest s xs h = h.1

pub distinct_last : (xs : List ℕ) (s : ℕ) → IsDistinct nat_eq xs → Without s xs → IsDistinct nat_eq (xs ++ s ∷ [])
unfolding IsDistinct
distinct_last [] s h w = (tt, tt)
distinct_last (x ∷ xs) s h w = (all_last (λ q. nat_eq x q ≡ false) xs s h.0 (apart s x w.0), distinct_last xs s h.1 w.1)

-- a filter by a test that differs at another serial alone
pub filter_without : (p t : ℕ → Bool) (s : ℕ) (b : Bool) → ((q : ℕ) → t q ≡ cond (is_at (nat_cmp s) q) b (p q)) → (xs : List ℕ) → Without s xs → filter t xs ≡ filter p xs
filter_without p t s b says [] w = refl
filter_without p t s b says (x ∷ xs) w = rw (says x, w.0) (ap (λ r. cond (p x) (x ∷ r) r) (filter_without p t s b says xs w.1))
