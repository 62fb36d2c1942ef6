use Rattle.std.proofs.Common.{◌≡◌, map, take}
use Rattle.relay_ports.specs.Leaves.{leaf_of}
use Rattle.relay_ports.proofs.inlet.Inlet.branches_to.Given as goal

abbrev pub invariant-loop-buffer : goal.invariant-loop-buffer
invariant-loop-buffer g l = l.leaves.items ≡ map (leaf_of l.self.number) (take l.buffer-index l.fn.buffers.items)
