use Rattle.std.proofs.Common.{◌≡◌, drop}
use Rattle.std.specs.Prelude.{string_bytes}
use Rattle.std.specs.Option.{option_or}
use Rattle.relay_net.specs.Addresses.{Address}
use Rattle.relay_net.specs.Sources.{first_place}
use Rattle.relay_net.proofs.Entries.{among_sources}
use Rattle.relay_net.proofs.sources.SourceIndex.add_node.Given as goal

abbrev pub invariant-loop-source : goal.invariant-loop-source
invariant-loop-source g l = (other : Address) →
    option_or (first_place l.self other) (among_sources l.place (string_bytes l.node.host) (drop l.source-index l.node.relay.sources.items) other)
    ≡ option_or (first_place l.initial.self other) (among_sources l.place (string_bytes l.node.host) l.node.relay.sources.items other)
