-- Where the messages go that come into a relay.
use Rattle.std.specs.Prelude.{ℕ, ◌≡◌, ◌<◌, ◌⊎◌, List, [], map, Option}
use Rattle.book_audit.specs.declared.line.Leaf.{Leaf}
use Rattle.ack_receipt.specs.Reservations.{Asked}
use Rattle.tag_pattern.specs.Prefixes.{entered_tag}
use Rattle.route_graph.specs.Table.{Table}
use Rattle.route_graph.specs.Ways.{IsLoop}
use Rattle.route_graph.specs.Listing.{AreFirstReached, numbers_of}
use Rattle.relay_conf.specs.declared.output.BufferNo.{BufferNo}

-- a source: the relay's number, where its events go, the scope that the source's come into, and the
-- prefix that their tags get
pub record Entry : Type 0 where
  pub number : ℕ
  pub table : Table
  pub scope : ℕ
  pub prefix : Option (List ℕ)

-- the buffer of the relay as a leaf of a delivery
abbrev pub leaf_of : ℕ → BufferNo → Leaf
leaf_of relay buffer = record { relay = relay; buffer = buffer.0 }

-- These are the leaves of an event with this tag that comes in: its way is no loop, and they are
-- the buffers that it reaches, each once.
abbrev pub AreLeavesOf : Entry → List ℕ → List Leaf → Type 0
AreLeavesOf entry tag leaves = (¬ IsLoop entry.table tag entry.scope)
    × ((buffers : List BufferNo) × AreFirstReached entry.table tag entry.scope (numbers_of buffers)
    × (leaves ≡ map (leaf_of entry.number) buffers))

-- These are the buffers that have to store a message before it is answered: none where it has no
-- entries, and else the leaves of this tag.
abbrev pub AreLeavesFor : Entry → Asked → List ℕ → List Leaf → Type 0
AreLeavesFor entry asked tag leaves = ((asked.count ≡ 0) × (leaves ≡ []))
    ⊎ ((0 < asked.count) × AreLeavesOf entry tag leaves)

-- The message is stored under its tag as it enters at the source, in the buffers that have to store
-- it.
pub record IsRoutedTo (entry : Entry) (asked : Asked) (tag : List ℕ)
    (leaves : List Leaf) : Type 0 where
  pub entered : tag ≡ entered_tag entry.prefix asked.tag
  pub reached : AreLeavesFor entry asked tag leaves
