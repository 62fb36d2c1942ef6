use Rattle.std.proofs.Common.{take}
use Rattle.relayctl.specs.Faults.{IsBlanked}
use Rattle.relayctl.proofs.blanks.blanked.Given as goal

abbrev pub invariant-loop-byte : goal.invariant-loop-byte
invariant-loop-byte g l = IsBlanked (take l.byte-index l.text) l.all.items
