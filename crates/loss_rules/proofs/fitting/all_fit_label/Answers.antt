use Rattle.std.proofs.Common.{refl, arith}
use Rattle.loss_rules.proofs.Seeks.{not_true, broken_all, all_more, all_of}
use Rattle.loss_rules.specs.Labels.{FitsLabelWith}
use Rattle.std.specs.Option.{option_copied}
use Rattle.loss_rules.proofs.fitting.all_fit_label.Goals as goal

pub returns-then-not-fits_label : goal.returns-then-not-fits_label
returns-then-not-fits_label g c = broken_all (FitsLabelWith c.args.labels.now c.args.scope.relay c.args.scope.scope (option_copied c.args.prefix)) c.args.patterns.now c.loop-pattern.pattern-index c.pattern-item.result (omega arith) c.pattern-item.is (λ p. not_true (c.if-not-fits_label.ensures.1 p))

pub loop-pattern-preserved : goal.loop-pattern-preserved
loop-pattern-preserved g c = all_more (FitsLabelWith c.args.labels.now c.args.scope.relay c.args.scope.scope (option_copied c.args.prefix)) c.args.patterns.now c.loop-pattern.pattern-index c.pattern-item.result (omega arith) c.pattern-item.is c.loop-pattern.invariant (c.if-not-fits_label.ensures.0 refl)

pub returns : goal.returns
returns g c = all_of (FitsLabelWith c.args.labels.now c.args.scope.relay c.args.scope.scope (option_copied c.args.prefix)) c.args.patterns.now c.loop-pattern.pattern-index (omega arith) c.loop-pattern.invariant
