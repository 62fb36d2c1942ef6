use Rattle.std.proofs.Common.{refl}
use Rattle.std.specs.Option.{option_copied}
use Rattle.tag_pattern.specs.Patterns.{Fits}
use Rattle.tag_pattern.specs.Prefixes.{entered_items}
use Rattle.loss_rules.proofs.Seeks.{not_true, found_any, none_more, no_any}
use Rattle.loss_rules.proofs.fitting.fits_any_entered.Goals as goal

pub returns-then-fits_entered : goal.returns-then-fits_entered
returns-then-fits_entered g c = found_any (Fits (entered_items (option_copied c.args.prefix) c.args.pattern.now)) c.args.others.now c.loop-other.other-index c.other-item.result c.loop-other-test.true c.other-item.is (c.if-fits_entered.ensures.0 refl)

pub loop-other-preserved : goal.loop-other-preserved
loop-other-preserved g c = none_more (Fits (entered_items (option_copied c.args.prefix) c.args.pattern.now)) c.args.others.now c.loop-other.other-index c.other-item.result c.loop-other-test.true c.other-item.is c.loop-other.invariant (λ fits. not_true (c.if-fits_entered.ensures.1 fits))

pub returns : goal.returns
returns g c = no_any (Fits (entered_items (option_copied c.args.prefix) c.args.pattern.now)) c.args.others.now c.loop-other.other-index c.loop-other-test.false c.loop-other.invariant
