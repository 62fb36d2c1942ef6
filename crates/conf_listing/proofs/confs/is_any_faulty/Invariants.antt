use Rattle.std.proofs.Common.{◌≡◌, drop}
use Rattle.std.specs.List.{list_any}
use Rattle.conf_listing.specs.Networks.{is_faulty}
use Rattle.conf_listing.proofs.confs.is_any_faulty.Given as goal

abbrev pub invariant-loop-outcome : goal.invariant-loop-outcome
invariant-loop-outcome g l = list_any is_faulty (drop l.outcome-index l.outcomes) ≡ list_any is_faulty l.outcomes
