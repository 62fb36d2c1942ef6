-- Where an event goes from an entrance of the network.
use Rattle.std.specs.Prelude.{◌≢◌, ℕ, List, []}
use Rattle.std.specs.Option.{option_map_or}
use Rattle.route_graph.specs.Table.{Table, table_of}
use Rattle.route_graph.specs.Ways.{IsLeaf, IsLoop}
use Rattle.relay_net.specs.Network.{Network, relay_at}
use Rattle.relay_net.specs.declared.address.Entrance.{Entrance}

-- the table of the relay at this place; one that isn't there has no scopes
abbrev pub table_at : {A : Type 0} → Network A → ℕ → Table
table_at net place = option_map_or table_of (relay_at net place) []

-- A message with these entries that came in there has the buffer as a leaf. Without entries it has
-- none.
abbrev pub HasLeaf : {A : Type 0} → Network A → Entrance → List ℕ → List (List ℕ) → ℕ → Type 0
HasLeaf net at tag entries buffer = (entries ≢ [])
    × IsLeaf (table_at net at.relay) tag at.scope buffer

-- The way of such a message is a loop. Without entries it is none.
abbrev pub HasLoop : {A : Type 0} → Network A → Entrance → List ℕ → List (List ℕ) → Type 0
HasLoop net at tag entries = (entries ≢ []) × IsLoop (table_at net at.relay) tag at.scope
