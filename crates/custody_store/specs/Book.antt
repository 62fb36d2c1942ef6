-- What was ever sent in a network, delivered and acknowledged, and what happens to that.
use Rattle.std.specs.Prelude.{ℕ, ◌-◌, ◌<◌, Bool, true, false, max, List, [], ◌∷◌, ◌++◌, map, slice_get, slice_set, IsSomeAnd}
use Rattle.std.specs.Option.{option_map_or}
use Rattle.custody_store.specs.Buffers.{Event}
use Rattle.custody_store.specs.Contents.{event_of}
use Rattle.relay_net.specs.Addresses.{Address}
use Rattle.relay_net.specs.declared.address.Entrance.{Entrance}
use Rattle.custody_store.specs.declared.message.Acknowledged.{Acknowledged}
use Rattle.custody_store.specs.declared.sender.Sender.{Sender}
use Rattle.custody_store.specs.declared.sender.Sender.TheVariants.{Client}

-- A message that was sent to an address. An acknowledgement of it was given to its sender, or not
-- yet.
pub record Message : Type 0 where
  pub sender : Sender
  pub address : Address
  pub tag : List ℕ
  pub entries : List (List ℕ)
  pub acknowledged : Bool

-- a delivery of the message with this number, under the tag that its events bear where it came in,
-- with the buffers of its relay that it was appended to, in that order
pub record Delivery : Type 0 where
  pub message : ℕ
  pub entrance : Entrance
  pub tag : List ℕ
  pub appended : List ℕ
  pub is_open : Bool

-- a delivery, and to how many more buffers it may be appended without new memory
pub record Opened : Type 0 where
  pub delivery : Delivery
  pub room : ℕ

-- An event that was acknowledged to this client, under the tag that the client sent.
pub record Told : Type 0 where
  pub client : ℕ
  pub event : Event

-- these entries, under the client's tag
abbrev pub told_to : ℕ → List ℕ → List (List ℕ) → List Told
told_to client tag entries =
    map (λ entry. record { client = client; event = record { tag = tag; entry = entry } }) entries

-- What was ever sent, delivered and acknowledged.
pub record Book : Type 0 where
  pub messages : List Message  -- all that were ever sent, in that order
  pub deliveries : List Delivery  -- all that were ever opened, in that order
  pub acknowledged : List Told  -- the events that were acknowledged to clients, in that order
  pub room : List ℕ  -- for each delivery, how many more appends need no new memory

-- the book of these messages, of these deliveries with the room that they have, and of these events
abbrev pub book_from : List Message → List Opened → List Told → Book
book_from messages opened acknowledged = record {
  messages = messages;
  deliveries = map (λ d. d.delivery) opened;
  acknowledged = acknowledged;
  room = map (λ d. d.room) opened;
}

-- nothing was ever sent
abbrev pub empty_book : Book
empty_book = record { messages = []; deliveries = []; acknowledged = []; room = [] }

-- the list after this happened to its element of this number, if it has one
abbrev pub changed_at : {X : Type 0} → List X → ℕ → (X → X) → List X
changed_at xs number change = option_map_or (λ x. slice_set xs number (change x))
    (slice_get xs number) xs

-- the message, acknowledged to its sender
abbrev pub acknowledged_message : Message → Message
acknowledged_message message = record message { acknowledged = true }

-- the events that become acknowledged to a client where a message is acknowledged: once each, at
-- the first time
abbrev pub newly_acknowledged : Sender → Bool → List ℕ → List (List ℕ) → List Told
newly_acknowledged (Client number) false tag entries = told_to number tag entries
newly_acknowledged _ before tag entries = []

-- the same of a message
abbrev pub events_told : Message → List Told
events_told message =
    newly_acknowledged message.sender message.acknowledged message.tag message.entries

-- the delivery after it was appended to this buffer too
abbrev pub appended_to_buffer : ℕ → Delivery → Delivery
appended_to_buffer buffer delivery = record delivery { appended = delivery.appended ++ buffer ∷ [] }

-- the delivery, ended
abbrev pub ended : Delivery → Delivery
ended delivery = record delivery { is_open = false }

-- room for one more
abbrev pub with_room : ℕ → ℕ
with_room room = max room 1

-- room for one less
abbrev pub less_room : ℕ → ℕ
less_room room = room - 1

-- The delivery of this number may be appended to one more buffer without new memory.
abbrev pub HasRoom : Book → ℕ → Type 0
HasRoom book number = IsSomeAnd (slice_get book.room number) (λ room. 0 < room)

-- an acknowledged event without where it lies in memory
abbrev pub told_of : {A : Type 0} → Acknowledged A → Told
told_of told = record { client = told.client; event = event_of told.event }

-- the same of each of a list
abbrev pub told_events : {A : Type 0} → List (Acknowledged A) → List Told
told_events events = map told_of events
