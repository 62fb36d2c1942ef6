use Rattle.std.proofs.Common.{◌≡◌, drop}
use Rattle.std.specs.Option.{option_or}
use Rattle.relay_net.specs.Addresses.{Address}
use Rattle.relay_net.specs.Sources.{first_place, among_nodes}
use Rattle.relay_net.proofs.sources.SourceIndex.new.Given as goal

abbrev pub invariant-loop-place : goal.invariant-loop-place
invariant-loop-place g l = (address : Address) → option_or (first_place l.index address) (among_nodes l.place (drop l.place l.nodes) address) ≡ among_nodes 0 l.nodes address
