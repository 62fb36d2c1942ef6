use Rattle.std.proofs.Common.{map, take}
use Rattle.std.specs.Prelude.{string_bytes}
use Rattle.plan_lines.specs.Plans.{texts}
use Rattle.conf_listing.specs.Networks.{AreOutcomes}
use Rattle.conf_listing.proofs.confs.adapt_each.Given as goal

abbrev pub invariant-loop-conf : goal.invariant-loop-conf
invariant-loop-conf g l = AreOutcomes g.row.A.Denot (texts (take l.conf-index l.confs)) (map string_bytes l.accepted) l.outcomes.items
