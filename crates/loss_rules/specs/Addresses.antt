-- Who has an address.
use Rattle.std.specs.Prelude.{◌≡◌, ℕ, List, string_bytes, Any}
use Rattle.relay_net.specs.declared.node.Node.{Node}

-- The relay has a source with this address.
abbrev pub HasAddress : {A : Type 0} → List ℕ → ℕ → Node A → Type 0
HasAddress host port node = (string_bytes node.host ≡ host)
    × Any (λ source. source.port ≡ port) node.relay.sources.items
