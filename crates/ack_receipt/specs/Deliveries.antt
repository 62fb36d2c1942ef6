-- A message on its way to the buffers that have to store it.
use Rattle.std.specs.Prelude.{ℕ, ◌≡◌, List, All, Any, Contains, Option, None, Some}
use Rattle.event_modes.specs.Message.{Parts}
use Rattle.book_audit.specs.declared.line.Leaf.{Leaf}
use Rattle.book_audit.specs.declared.line.Part.{Part}

-- an append that is stored: of which delivery, in which buffer, in which chunk, and its line in the
-- buffer's book
pub record Appended : Type 0 where
  pub delivery : ℕ
  pub leaf : Leaf
  pub serial : ℕ
  pub line : ℕ

-- an append that waits for its sync: of which delivery, in which buffer, in which chunk, of how
-- many entries, and its place among the buffer's appends
pub record Pended : Type 0 where
  pub delivery : ℕ
  pub leaf : Leaf
  pub serial : ℕ
  pub count : ℕ
  pub place : ℕ

-- a delivery that is neither acknowledged nor abandoned; the tag is that which its entries are
-- appended under
pub record OpenDelivery : Type 0 where
  pub number : ℕ
  pub message : Parts
  pub tag : List ℕ
  pub leaves : List Leaf
  pub receipts : List Appended

-- the append stored this delivery in this buffer
abbrev pub IsReceiptOf : ℕ → Leaf → Appended → Type 0
IsReceiptOf number leaf receipt = (receipt.delivery ≡ number) × (receipt.leaf ≡ leaf)

-- one of the appends stored this delivery in this buffer
pub record IsReceived (number : ℕ) (receipts : List Appended) (leaf : Leaf) : Type 0 where
  pub one : Any (IsReceiptOf number leaf) receipts

-- the append stored this delivery in one of the buffers that it goes to
pub record IsFor (d : OpenDelivery) (receipt : Appended) : Type 0 where
  pub number : receipt.delivery ≡ d.number
  pub leaf : Contains d.leaves receipt.leaf

-- the delivery holds a receipt of this one's buffer
abbrev pub IsAdded : OpenDelivery → Appended → Type 0
IsAdded d receipt = IsReceived d.number d.receipts receipt.leaf

-- the delivery holds a receipt of each of its leaves
abbrev pub HasEachReceipt : OpenDelivery → Type 0
HasEachReceipt d = All (IsReceived d.number d.receipts) d.leaves

-- what a receipt leaves behind
abbrev pub part_of : Appended → Part
part_of a = record {
  relay = a.leaf.relay;
  buffer = a.leaf.buffer;
  serial = a.serial;
  line = a.line;
}

-- the tag that a message's entries are appended under: this one, or its own
abbrev pub tag_or : Parts → Option (List ℕ) → List ℕ
tag_or message None = message.tag
tag_or message (Some tag) = tag
