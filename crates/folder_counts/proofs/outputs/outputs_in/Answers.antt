use Rattle.std.proofs.Common.{◌∙◌}
use Rattle.folder_counts.proofs.Said.{all_first, first_more, none_first}
use Rattle.folder_counts.proofs.outputs.outputs_in.Goals as goal

pub loop-state-init : goal.loop-state-init
loop-state-init g c = none_first c.deref-state-items.result.now c.new-outputs.result.items c.new-outputs.ensures.items

pub loop-state-preserved : goal.loop-state-preserved
loop-state-preserved g c =
    first_more c.deref-state-items.result.now c.loop-state.state-index c.state-item.result c.loop-state.outputs.items c.push.new.self.items c.of.result c.loop-state-test.true c.loop-state.invariant
    (c.of.ensures.state ∙ c.state-item.is) c.of.ensures.last c.in_ok-push.ensures.items

pub returns : goal.returns
returns g c = all_first c.args.text.now c.deref-state-items.result.now c.loop-state.state-index c.loop-state.outputs.items (c.deref-state-items.ensures.value ∙ c.in_ok-states.ensures) c.loop-state-test.false c.loop-state.invariant
