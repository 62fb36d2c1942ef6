-- A delivery that waits for its receipts.
use Rattle.std.specs.Prelude.{ℕ, ◌≡◌, ◌<◌, ◌⊎◌, List, [], length, map}
use Rattle.book_audit.specs.declared.line.Leaf.{Leaf}
use Rattle.book_audit.specs.Stubs.{Left}
use Rattle.relay_conf.specs.declared.output.BufferNo.{BufferNo}
use Rattle.ack_receipt.specs.Deliveries.{Appended, OpenDelivery, part_of}
use Rattle.ack_receipt.specs.Reservations.{Asked, asked_of}

-- a delivery's number, what its message asked for, the tag that its entries are stored under, and
-- the buffers that have to store it
pub record Awaited : Type 0 where
  pub number : ℕ
  pub asked : Asked
  pub tag : List ℕ
  pub leaves : List Leaf

-- what a delivery waits for
abbrev pub awaited_by : OpenDelivery → Awaited
awaited_by d = record {
  number = d.number;
  asked = asked_of d.message;
  tag = d.tag;
  leaves = d.leaves;
}

-- a delivery with the receipts that it took so far
pub record Gathers : Type 0 where
  pub awaited : Awaited
  pub receipts : List Appended

-- a delivery with the receipts that it took so far, and the buffers whose receipts weren't there
-- yet
pub record Waits : Type 0 where
  pub awaited : Awaited
  pub receipts : List Appended
  pub buffers : List BufferNo

-- what is left of the delivery with this number, which took these receipts: a part of each
abbrev pub left_of : ℕ → List Appended → Left
left_of number receipts = record { delivery = number; parts = map part_of receipts }

-- a delivery without entries goes nowhere
abbrev pub HasEntries : {B : Type 0} → OpenDelivery → List B → Type 0
HasEntries d buffers = (0 < length d.message.entries) ⊎ (buffers ≡ [])
