use Rattle.std.proofs.Common.{map, take}
use Rattle.conf_listing.specs.Networks.{AreListed}
use Rattle.conf_listing.proofs.confs.stopped.Given as goal

abbrev pub invariant-loop-at : goal.invariant-loop-at
invariant-loop-at g l = AreListed (map (λ name. name.now) (take l.at l.names)) (take l.at l.outcomes) l.lines.items
