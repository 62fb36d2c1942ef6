use Rattle.std.proofs.Common.{◌≡◌, take}
use Rattle.std.specs.Prelude.{None}
use Rattle.std.specs.List.{find}
use Rattle.relay_conf.specs.Buffers.{buffer_number}
use Rattle.relay_net.specs.Outputs.{is_numbered}
use Rattle.way_listing.proofs.outputs.among.Given as goal

abbrev pub invariant-loop-output : goal.invariant-loop-output
invariant-loop-output g l = find (λ output. is_numbered (buffer_number output) l.buffer.0) (take l.output-index l.outputs) ≡ None
