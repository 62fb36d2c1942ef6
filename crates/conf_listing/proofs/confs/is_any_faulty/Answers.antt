use Rattle.std.proofs.Common.{sym, ◌∙◌}
use Rattle.conf_listing.specs.Networks.{is_faulty}
use Rattle.conf_listing.proofs.Accepting.{none_more, none_passes, one_passes}
use Rattle.conf_listing.proofs.confs.is_any_faulty.Goals as goal

pub returns-then-has_fault : goal.returns-then-has_fault
returns-then-has_fault g c =
    one_passes is_faulty c.args.outcomes.now c.loop-outcome.outcome-index c.outcome-item.result c.loop-outcome-test.true c.outcome-item.is (sym c.has_fault.ensures ∙ c.if-has_fault.true)

pub loop-outcome-preserved : goal.loop-outcome-preserved
loop-outcome-preserved g c =
    none_more is_faulty c.args.outcomes.now c.loop-outcome.outcome-index c.outcome-item.result c.loop-outcome-test.true c.outcome-item.is (sym c.has_fault.ensures ∙ c.if-has_fault.false) c.loop-outcome.invariant

pub returns : goal.returns
returns g c = none_passes is_faulty c.args.outcomes.now c.loop-outcome.outcome-index c.loop-outcome-test.false c.loop-outcome.invariant
