-- How many of the rules hold.
use Rattle.std.specs.Prelude.{◌<◌, ℕ}
use Rattle.loss_rules.specs.Breaks.{Subject, IsKept, rule_number}
use Rattle.loss_rules.specs.declared.answer.Rule.{Rule}

-- The rules with lower numbers than this one hold.
abbrev pub AreKeptBefore : {A : Type 0} → Subject A → ℕ → Type 0
AreKeptBefore subject number = (rule : Rule) → rule_number rule < number → IsKept subject rule
