use Rattle.std.proofs.Common.{refl, arith}
use Rattle.relay_net.specs.Index.{among_outputs, among_rules}
use Rattle.relay_net.proofs.Passing.{one_turn}
use Rattle.relay_net.proofs.index.OutputIndex.add_rules.Goals as goal

pub loop-place-preserved : goal.loop-place-preserved
loop-place-preserved g c = λ buffer.
    one_turn (λ place rules. among_rules c.args.scope place rules buffer) (λ place rule. among_outputs c.args.scope place 0 rule.outputs.items buffer) (λ place rule rules. refl)
    c.args.rules.now c.loop-place.place c.index-rules-place.result (omega arith) c.index-rules-place.is _ _ _
    (rw (← c.deref.ensures.value) (c.in_ok-add_outputs.ensures buffer)) (c.loop-place.invariant buffer)
