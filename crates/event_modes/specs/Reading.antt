-- What the bytes begin with.
use Rattle.std.specs.Prelude.{ℕ, ◌≡◌, ◌≤◌, List, ◌∷◌, length, take, option_map}
use Rattle.msgpack_bytes.specs.Item.{IsOpen}
use Rattle.msgpack_bytes.specs.Kinds.{IsNil}
use Rattle.event_modes.specs.declared.fault.ModeFault.{ModeFault}
use Rattle.event_modes.specs.declared.message.Message.{Message}
use Rattle.event_modes.specs.declared.message.Read.{Read}
use Rattle.event_modes.specs.declared.message.Read.TheVariants as read
use Rattle.event_modes.specs.Message.{Parts, IsMessage}
use Rattle.event_modes.specs.Faults.{ItemFault, StreamFault}

-- what a message in memory says
abbrev pub meaning : {A : Type 0} → Message A → Parts
meaning m = record {
  tag = m.tag.items;
  entries = m.entries;
  ack = option_map (λ item. item.items) m.ack;
}

-- an answer without where it lies in memory
pub data Answer : Type 0 where
  Means : (parts : Parts) (n : ℕ) → Answer
  Beats : (n : ℕ) → Answer
  Wants : Answer
  Refuses : (fault : ModeFault) → Answer

-- what was read, without where it lies in memory
abbrev pub answer_of : {A : Type 0} → Read A → Answer
answer_of (read.Message m n) = Means (meaning m) n
answer_of (read.Heartbeat n) = Beats n
answer_of read.Need = Wants
answer_of (read.Bad fault) = Refuses fault

-- the first n bytes are a message, or the first byte is a nil, or the bytes are open, or there is a
-- fault
abbrev pub Answers : List ℕ → Answer → Type 0
Answers bytes (Means parts n) = (n ≤ length bytes) × IsMessage (take n bytes) parts
Answers bytes (Beats n) = (n ≡ 1) × ((rest : List ℕ) × (bytes ≡ 0xc0 ∷ rest))
Answers bytes Wants = IsOpen bytes
Answers bytes (Refuses fault) = StreamFault bytes fault

-- what a whole item is answered by
abbrev pub AnswersItem : List ℕ → Answer → Type 0
AnswersItem item (Means parts n) = (n ≡ length item) × IsMessage item parts
AnswersItem item (Beats n) = (n ≡ 1) × IsNil item
AnswersItem item Wants = ⊥
AnswersItem item (Refuses fault) = ItemFault item fault
