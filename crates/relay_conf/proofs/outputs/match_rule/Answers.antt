use Rattle.conf_text.specs.Views.{tree_of}
use Rattle.relay_conf.proofs.Copies.{outputs_are}
use Rattle.relay_conf.proofs.outputs.match_rule.Goals as goal

pub returns : goal.returns
returns g c = record {
  patterns = rw c.argument_of.ensures at c.in_ok-patterns.ensures;
  outputs = rw (← outputs_are c.args.first (tree_of c.args.element.now)) c.in_ok-outputs.ensures;
  line = c.line_of.ensures;
}
