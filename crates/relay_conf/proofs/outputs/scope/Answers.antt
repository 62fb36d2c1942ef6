use Rattle.std.proofs.Common.{◌∙◌}
use Rattle.relay_conf.proofs.outputs.scope.Goals as goal

pub returns : goal.returns
returns g c = record {
  name = c.in_ok-from_str.ensures.ok ∙ c.argument_of.ensures;
  matches = rw c.children_of.ensures at c.in_ok-matches_in.ensures;
}
