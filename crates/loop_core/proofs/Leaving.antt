-- Staged chunks that are queued.
use Rattle.std.proofs.Common.{ℕ, ◌≡◌, ◌∙◌, Bool, true, false, List, [], ◌∷◌, ◌++◌, drop, refl, ap, subst, sym, append_assoc, None, Some}
use Rattle.std.specs.Prelude.{if◌then◌else◌}
use Rattle.std.proofs.lemmas.List.Elements.{All-push}
use Rattle.std.proofs.lemmas.Option.{none-some}
use Rattle.relay_conf.specs.declared.buffer.FlushMode.{FlushMode}
use Rattle.loop_core.specs.declared.schedule.Staged.{Staged}
use Rattle.loop_core.specs.Schedules.{AreLeft, due_in, is_due}

-- the first of these is to be queued, and the others are left
first_less : (mode : FlushMode) (interval now : ℕ) (before more left : List Staged) (staged : Staged) → AreLeft mode interval now (staged ∷ more) before
    → is_due mode interval now staged ≡ true → left ≡ drop 1 (staged ∷ more) → AreLeft mode interval now left before
first_less mode interval now before more left staged first due next = record {
  gone = first.gone ++ staged ∷ [];
  is = first.is ∙ sym (append_assoc first.gone (staged ∷ []) more) ∙ ap (λ (l : List Staged). (first.gone ++ staged ∷ []) ++ l) (sym next);
  due = All-push (λ one. is_due mode interval now one ≡ true) first.gone staged first.due due;
}

-- one less is left, which was to be queued
pub one_less : (mode : FlushMode) (interval now serial : ℕ) (before between left : List Staged) → AreLeft mode interval now between before
    → due_in mode interval now between ≡ Some serial → left ≡ drop 1 between → AreLeft mode interval now left before
one_less mode interval now serial before [] left first due next = absurd (none-some serial due)
one_less mode interval now serial before (staged ∷ more) left first due next = by (is_due mode interval now staged) refl
  where
    by : (b : Bool) → is_due mode interval now staged ≡ b → AreLeft mode interval now left before
    by true e = first_less mode interval now before more left staged first e next
    by false e = absurd (none-some serial (subst (λ (b : Bool). (if b then Some staged.serial else None) ≡ Some serial) e due))
