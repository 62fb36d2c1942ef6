-- What holds of each plan, whatever its text is.
use Rattle.std.specs.Prelude.{◌≡◌}
use Rattle.loss_rules.specs.Breaks.{Subject, IsAnswer}
use Rattle.loss_rules.specs.declared.answer.Answer.{Answer}

-- A plan has one answer: a yes, or a no with one rule and one place.
abbrev pub HasOneAnswer : Type 0 → Type 0
HasOneAnswer A = (plan : Subject A) (one two : Answer) → IsAnswer plan one → IsAnswer plan two
    → one ≡ two
