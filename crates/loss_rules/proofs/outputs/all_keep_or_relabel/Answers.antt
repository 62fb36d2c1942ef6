use Rattle.std.proofs.Common.{refl, arith}
use Rattle.loss_rules.proofs.Seeks.{not_true, broken_all, all_more, all_of}
use Rattle.loss_rules.specs.Rules.{KeepsOrRelabels}
use Rattle.loss_rules.proofs.outputs.all_keep_or_relabel.Goals as goal

pub returns-then-not-keeps_or_relabels : goal.returns-then-not-keeps_or_relabels
returns-then-not-keeps_or_relabels g c = broken_all KeepsOrRelabels c.args.outputs.now c.loop-output.output-index c.output-item.result (omega arith) c.output-item.is (λ p. not_true (c.if-not-keeps_or_relabels.ensures.1 p))

pub loop-output-preserved : goal.loop-output-preserved
loop-output-preserved g c = all_more KeepsOrRelabels c.args.outputs.now c.loop-output.output-index c.output-item.result (omega arith) c.output-item.is c.loop-output.invariant (c.if-not-keeps_or_relabels.ensures.0 refl)

pub returns : goal.returns
returns g c = all_of KeepsOrRelabels c.args.outputs.now c.loop-output.output-index (omega arith) c.loop-output.invariant
