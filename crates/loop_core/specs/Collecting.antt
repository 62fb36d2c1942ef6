-- What becomes of a delivery that waits for its receipts.
use Rattle.std.specs.Prelude.{◌≡◌, ◌≢◌, ◌⊎◌, All, Bool, true, false, List, [], filter, IsSomeAnd}
use Rattle.book_audit.specs.Stubs.{Left}
use Rattle.ack_receipt.specs.Deliveries.{Appended, IsReceived}
use Rattle.ack_receipt.specs.Reservations.{Reservation, answer_to}
use Rattle.relay_conf.specs.declared.output.BufferNo.{BufferNo}
use Rattle.loop_core.specs.declared.waiting.Collected.{Collected}
use Rattle.loop_core.specs.declared.waiting.Collected.TheVariants.{Answered, Abandoned, Later}
use Rattle.loop_core.specs.Lanes.{later_at}
use Rattle.loop_core.specs.Waits.{Awaited, Gathers, left_of}

-- the answer to the message, which these buffers store under this tag
abbrev pub IsAnswerTo : Awaited → Reservation → Type 0
IsAnswerTo awaited reserved = (reserved.asked ≡ awaited.asked)
    × IsSomeAnd reserved.filled (λ answer. (answer.bytes ≡ answer_to awaited.asked.ack)
    × (answer.tag ≡ awaited.tag) × (answer.leaves ≡ awaited.leaves))

-- what is left of the delivery has a part of each receipt that it took, and it took one of each of
-- its buffers
pub record IsAcknowledged (awaited : Awaited) (left : Left) : Type 0 where
  pub receipts : List Appended
  pub each : All (IsReceived awaited.number receipts) awaited.leaves
  pub is : left ≡ left_of awaited.number receipts

-- what is left of the delivery has a part of each receipt that it took, and one of its buffers gave
-- none
pub record IsAbandoned (awaited : Awaited) (left : Left) : Type 0 where
  pub receipts : List Appended
  pub missing : ¬ All (IsReceived awaited.number receipts) awaited.leaves
  pub is : left ≡ left_of awaited.number receipts

-- An answer is that to the message, and each buffer gave a receipt for it; it is abandoned where
-- one of them gave none; what waits on is the same delivery.
abbrev pub IsCollected : {A : Type 0} → Awaited → Collected A → Type 0
IsCollected awaited (Answered reserved stub) = IsAnswerTo awaited reserved
    × IsAcknowledged awaited stub
IsCollected awaited (Abandoned stub) = IsAbandoned awaited stub
IsCollected awaited (Later waiting) = waiting.awaited ≡ awaited

-- what is left of a delivery that ended has a part of each receipt that it took
abbrev pub IsLeftOf : {A : Type 0} → Gathers → Collected A → Type 0
IsLeftOf gathers (Answered reserved left) = left ≡ left_of gathers.awaited.number gathers.receipts
IsLeftOf gathers (Abandoned left) = left ≡ left_of gathers.awaited.number gathers.receipts
IsLeftOf gathers (Later waiting) = Unit {0}

-- those of the buffers whose receipts come later
abbrev pub those_later : List Bool → List BufferNo → List BufferNo
those_later later buffers = filter (later_at later) buffers

-- The delivery waits on exactly where it is held or a buffer's receipts come later, and then for
-- these buffers alone.
abbrev pub WaitsOnFor : {A : Type 0} → Bool → List BufferNo → Collected A → Type 0
WaitsOnFor held left (Answered reserved stub) = (held ≡ false) × (left ≡ [])
WaitsOnFor held left (Abandoned stub) = (held ≡ false) × (left ≡ [])
WaitsOnFor held left (Later waiting) = (waiting.buffers ≡ left) × ((held ≡ true) ⊎ (left ≢ []))
