-- What is said of a place.
use Rattle.std.proofs.Common.{ℕ, ◌≡◌, ◌≤◌, List, get_or, Bool, true, false, Option, Some, None, sym, subst, ap, ◌∙◌, arith, IsTrue}
use Rattle.std.specs.Prelude.{is_some, nat_le, ◌&&◌, slice_get, slice_set}
use Rattle.std.proofs.lemmas.Bool.Decides.{nat_tests}
use Rattle.std.proofs.lemmas.Option.{get_or_from_slice_get}
use Rattle.relay_notices.specs.declared.slot.Pending.{Pending}
use Rattle.relay_notices.specs.declared.slot.Slot.{Slot}
use Rattle.relay_notices.specs.Telling.{is_due, said, IsSaid}

-- a place of which something is to be said now waits no longer
waits_no_more : (some : Bool) (due now : ℕ) → IsTrue (some && nat_le due now) → due ≤ now
waits_no_more true due now t = grind (arith, nat_tests)
waits_no_more false due now t = absurd (cc)

-- and something was told of it
told_before : (pending : Option Pending) (waits : Bool) → pending ≡ None → IsTrue (is_some pending && waits) → ⊥
told_before None waits e t = absurd (cc)
told_before (Some pending) waits e t = absurd (cc)

-- the place that is picked is the one that was found
same_slot : (read slots : List Slot) (place : ℕ) (slot picked : Slot) → read ≡ slots → slice_get read place ≡ Some slot → picked ≡ get_or slots place picked → picked ≡ slot
same_slot read slots place slot picked e at is = is ∙ get_or_from_slice_get slots place slot picked (subst (λ (xs : List Slot). slice_get xs place ≡ Some slot) e at)

pub said_is : (now place : ℕ) (pending : Pending) (read slots old : List Slot) (slot picked made : Slot) → read ≡ slots → slots ≡ old → slice_get read place ≡ Some slot → picked ≡ get_or slots place picked
    → picked.pending ≡ Some pending → IsTrue (is_due now slot) → made ≡ said now picked → IsSaid now (record { place = place; pending = pending }) old (slice_set slots place made)
said_is now place pending read slots old slot picked made e v at pick told due is =
    let same = same_slot read slots place slot picked e at pick in
    record {
      slot = slot;
      at = subst (λ (xs : List Slot). slice_get xs place ≡ Some slot) (e ∙ v) at;
      told = ap (λ (s : Slot). s.pending) (sym same) ∙ told;
      waited = waits_no_more (is_some slot.pending) slot.due now due;
      after = ap (λ (xs : List Slot). slice_set xs place made) v ∙ ap (λ (s : Slot). slice_set old place s) (is ∙ ap (λ (s : Slot). said now s) same);
    }

pub never_untold : (now place : ℕ) (read slots : List Slot) (slot picked : Slot) → read ≡ slots → slice_get read place ≡ Some slot → picked ≡ get_or slots place picked → picked.pending ≡ None → IsTrue (is_due now slot) → ⊥
never_untold now place read slots slot picked e at pick none due =
    let same = same_slot read slots place slot picked e at pick in
    told_before slot.pending (nat_le slot.due now) (ap (λ (s : Slot). s.pending) (sym same) ∙ none) due
