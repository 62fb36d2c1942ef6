-- What is read as an acknowledgement.
use Rattle.std.specs.Prelude.{ℕ, ◌≡◌, ◌≤◌, ◌+◌, List, ◌++◌, length, take, slice_range}
use Rattle.std.specs.List.{concat}
use Rattle.msgpack_bytes.specs.Item.{IsItemWithin, IsOpen}
use Rattle.msgpack_bytes.specs.Fault.{IsFaulty}
use Rattle.event_modes.specs.declared.acks.AckRead.{AckRead}
use Rattle.event_modes.specs.declared.acks.AckRead.TheVariants as ack
use Rattle.event_modes.specs.declared.fault.ModeFault.{ModeFault}
use Rattle.event_modes.specs.declared.fault.ModeFault.TheVariants.{NotAMessage, Bytes}
use Rattle.msgpack_bytes.specs.Containers.{pair_items}
use Rattle.event_modes.specs.Acknowledgement.{IsAcknowledgement}

-- the first `next` bytes acknowledge a chunk, whose content is start..end of the value that counts
pub record IsAckAt (bytes : List ℕ) (start end next : ℕ) : Type 0 where
  pub fits : next ≤ length bytes
  pub is : IsAcknowledgement (take next bytes) (slice_range bytes start end)
  pub starts : start ≤ end
  pub ends : end + length (concat (pair_items is.last.after)) ≡ next

-- the bytes begin with an item that acknowledges nothing
pub record AcknowledgesNothing (bytes : List ℕ) : Type 0 where
  pub item : List ℕ
  pub more : List ℕ
  pub is_item : IsItemWithin item
  pub none : (content : List ℕ) → IsAcknowledgement item content → ⊥
  pub whole : bytes ≡ item ++ more

-- why bytes do not begin with an acknowledgement, however they go on
abbrev pub AckFault : List ℕ → ModeFault → Type 0
AckFault bytes NotAMessage = AcknowledgesNothing bytes
AckFault bytes (Bytes fault) = IsFaulty fault bytes
AckFault bytes _ = ⊥

-- an acknowledgement and where it lies, or the bytes are open, or there is a fault
abbrev pub AnswersAck : List ℕ → AckRead → Type 0
AnswersAck bytes (ack.Value start end next) = IsAckAt bytes start end next
AnswersAck bytes ack.Need = IsOpen bytes
AnswersAck bytes (ack.Bad fault) = AckFault bytes fault
