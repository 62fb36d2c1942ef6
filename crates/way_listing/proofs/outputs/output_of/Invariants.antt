use Rattle.std.proofs.Common.{◌≡◌, take}
use Rattle.std.specs.Prelude.{None}
use Rattle.std.specs.List.{find, flat_map}
use Rattle.relay_conf.specs.Buffers.{buffer_number}
use Rattle.relay_net.specs.Outputs.{is_numbered}
use Rattle.way_listing.specs.Outputs.{outputs_in}
use Rattle.way_listing.proofs.outputs.output_of.Given as goal

abbrev pub invariant-loop-scope : goal.invariant-loop-scope
invariant-loop-scope g l = find (λ output. is_numbered (buffer_number output) l.buffer.0) (flat_map outputs_in (take l.scope-index l.relay.scopes.items)) ≡ None
