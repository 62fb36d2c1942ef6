use Rattle.std.specs.Prelude.{◌≡◌, take}
use Rattle.loss_rules.specs.Everywhere.{plan_places}
use Rattle.loss_rules.proofs.ordered.plan_places.Given as goal

abbrev pub invariant-loop-line : goal.invariant-loop-line
invariant-loop-line g l = l.places.items ≡ plan_places (take l.line-index l.lines)
