use Rattle.std.proofs.Common.{refl, arith}
use Rattle.loss_rules.proofs.Seeks.{not_true, found_any, none_more, no_any}
use Rattle.loss_rules.specs.Rules.{KeepsOrRelabels}
use Rattle.loss_rules.proofs.outputs.keep_or_relabel.Goals as goal

pub returns-then-keeps_or_relabels : goal.returns-then-keeps_or_relabels
returns-then-keeps_or_relabels g c = found_any KeepsOrRelabels c.args.outputs.now c.loop-output.output-index c.output-item.result (omega arith) c.output-item.is (c.if-keeps_or_relabels.ensures.0 refl)

pub loop-output-preserved : goal.loop-output-preserved
loop-output-preserved g c = none_more KeepsOrRelabels c.args.outputs.now c.loop-output.output-index c.output-item.result (omega arith) c.output-item.is c.loop-output.invariant (λ p. not_true (c.if-keeps_or_relabels.ensures.1 p))

pub returns : goal.returns
returns g c = no_any KeepsOrRelabels c.args.outputs.now c.loop-output.output-index (omega arith) c.loop-output.invariant
