use Rattle.relayctl.specs.Checking.{AreExplained}
use Rattle.relayctl.proofs.listing.explain_each.Given as goal

abbrev pub invariant-loop-one : goal.invariant-loop-one
invariant-loop-one g l = AreExplained l.plan l.one-index l.explained.items
