use Rattle.std.proofs.Common.{◌++◌, take}
use Rattle.relayctl.specs.Dropping.{drops_head}
use Rattle.relayctl.proofs.Dropping.{AreSaid}
use Rattle.relayctl.proofs.drops.put_drops.Given as goal

abbrev pub invariant-loop-name : goal.invariant-loop-name
invariant-loop-name g l = AreSaid l.plan (take l.name-index l.names) (l.fn.lines.items ++ drops_head) l.lines.items
