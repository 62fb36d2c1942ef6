use Rattle.std.proofs.Common.{◌++◌, ◌∷◌, [], ap, sym, ◌∙◌}
use Rattle.label_plan.proofs.Clashing.{found_free}
use Rattle.label_plan.proofs.sink.own_sink.Goals as goal

pub returns-then-is_free : goal.returns-then-is_free
returns-then-is_free g c = record {
  sink = c.in_ok-sink.sink;
  outputs_are = c.in_ok-push.ensures.items ∙ ap (λ outputs. outputs ++ c.in_ok-sink.sink ∷ []) c.new-outputs.ensures.items;
  keeps = c.in_ok-sink.ensures;
  free = found_free c.args.relay.now c.in_ok-sink.sink (sym c.is_free.ensures ∙ c.if-is_free.true);
}
