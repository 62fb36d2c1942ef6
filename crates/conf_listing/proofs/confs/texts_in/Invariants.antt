use Rattle.std.proofs.Common.{take}
use Rattle.plan_lines.specs.Plans.{texts}
use Rattle.conf_listing.specs.Networks.{AreTextsOf}
use Rattle.conf_listing.proofs.confs.texts_in.Given as goal

abbrev pub invariant-loop-outcome : goal.invariant-loop-outcome
invariant-loop-outcome g l = AreTextsOf (take l.outcome-index l.outcomes) (texts l.texts.items)
