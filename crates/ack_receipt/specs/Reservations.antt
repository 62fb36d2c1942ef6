-- Room for the answer to a message (Forward Protocol Specification v1, "Response").
use Rattle.std.specs.Prelude.{ℕ, List, [], length, Option, Some, None}
use Rattle.event_modes.specs.Message.{Parts}
use Rattle.event_modes.specs.Acknowledgement.{acknowledgement_of}
use Rattle.book_audit.specs.declared.line.Leaf.{Leaf}
use Rattle.ack_receipt.specs.Deliveries.{OpenDelivery}

-- what an answer is for: a message's tag, how many entries it has, and the item that is to be
-- repeated
pub record Asked : Type 0 where
  pub tag : List ℕ
  pub count : ℕ
  pub ack : Option (List ℕ)

-- what an answer to this message is for
abbrev pub asked_of : Parts → Asked
asked_of message = record { tag = message.tag; count = length message.entries; ack = message.ack }

-- the bytes of an answer: none where the sender asked for none
abbrev pub answer_to : Option (List ℕ) → List ℕ
answer_to None = []
answer_to (Some item) = acknowledgement_of item

-- an answer, the tag under which what it acknowledges is stored, and the buffers that store it
pub record Answer : Type 0 where
  pub bytes : List ℕ
  pub tag : List ℕ
  pub leaves : List Leaf

-- the answer to a delivery
abbrev pub answer_of : OpenDelivery → Answer
answer_of d = record { bytes = answer_to d.message.ack; tag = d.tag; leaves = d.leaves }

-- what the room is for, and the answer once it is there
pub record Reservation : Type 0 where
  pub asked : Asked
  pub filled : Option Answer
