use Rattle.std.specs.Prelude.{◌≡◌, ◌++◌, take}
use Rattle.loss_rules.specs.Everywhere.{conf_places}
use Rattle.loss_rules.proofs.ordered.put_conf_places.Given as goal

abbrev pub invariant-loop-line : goal.invariant-loop-line
invariant-loop-line g l = l.places.items ≡ l.fn.places.items ++ conf_places l.relay (take l.line-index l.lines)
