-- What may happen in a network, step by step.
use Rattle.std.specs.Prelude.{◌≡◌, ℕ, ◌+◌, ◌<◌, ◌≤◌, ◌==◌, Bool, true, false, cond, List, [], ◌∷◌, ◌++◌, length, map, take, Option, Some, None, Result, Ok, Err, slice_get, slice_set, Any, Contains, IsSome, IsSomeAnd, ◌⊎◌}
use Rattle.std.specs.Option.{option_and_then, option_map_or}
use Rattle.custody_store.specs.Buffers.{Event, Chunk, BufferState, with_chunk, events_of, CanTake, appended_to, without_oldest, started_again}
use Rattle.custody_store.specs.declared.chunk.Stage.{Stage}
use Rattle.custody_store.specs.declared.chunk.Stage.TheVariants.{Staged, Queued, Claimed}
use Rattle.custody_store.specs.Book.{Message, Delivery, ended, newly_acknowledged}
use Rattle.custody_store.specs.declared.sender.Sender.{Sender}
use Rattle.custody_store.specs.declared.sender.Sender.TheVariants as sender
use Rattle.relay_conf.specs.declared.buffer.OverflowAction.TheVariants.{DropOldestChunk}
use Rattle.relay_conf.specs.declared.output.Output.{Output}
use Rattle.relay_conf.specs.declared.output.Output.TheVariants as output
use Rattle.relay_conf.specs.declared.output.Server.{Server}
use Rattle.relay_net.specs.Network.{Network, place_of, entrance, tag_at, address_of_client, address_of_server, output_at, is_in_memory}
use Rattle.relay_net.specs.Outputs.{settings_of, servers_of}
use Rattle.relay_net.specs.Ways.{HasLeaf, HasLoop}
use Rattle.route_graph.specs.Ways.{HaveTag}
use Rattle.step_lines.specs.declared.step.ChunkName.{ChunkName}
use Rattle.step_lines.specs.declared.step.Step.{Step}
use Rattle.step_lines.specs.declared.step.Step.TheVariants as step
use Rattle.custody_steps.specs.declared.fault.StepFault.{StepFault}
use Rattle.custody_steps.specs.declared.fault.StepFault.TheVariants as fault
use Rattle.custody_steps.specs.World.{World, initial_world, with_buffer}
use Rattle.tag_pattern.specs.Parts.{most_tag_bytes}

-- What a step names.

-- the live chunk of this name
abbrev pub chunk_named : {A : Type 0} → Network A → World → ChunkName → Option Chunk
chunk_named net w name = option_and_then (λ place. (w.buffers place name.buffer).chunks name.serial)
    (place_of net name.relay)

-- the output to whose buffer the name belongs
abbrev pub output_named : {A : Type 0} → Network A → ChunkName → Option (Output A)
output_named net name = option_and_then (λ place. output_at net place name.buffer)
    (place_of net name.relay)

-- what is in the sink of the output with this buffer (nothing where the relay isn't there)
abbrev pub sink_named : {A : Type 0} → Network A → World → ℕ → ℕ → List Event
sink_named net w relay buffer = option_map_or (λ place. (w.buffers place buffer).sink)
    (place_of net relay) []

-- What a step asks for.

-- an output to further relays, and whether it asks for acknowledgements
abbrev pub Forwards : {A : Type 0} → Bool → Output A → Type 0
Forwards asks (output.Forward settings line) = settings.require_ack_response ≡ asks
Forwards asks _ = ⊥

-- an output into a sink
abbrev pub Stores : {A : Type 0} → Output A → Type 0
Stores (output.File settings line) = Unit {0}
Stores _ = ⊥

-- the output gives a chunk up in the end
abbrev pub GivesUp : {A : Type 0} → Output A → Type 0
GivesUp o = IsSomeAnd (settings_of o) (λ settings. settings.retry.forever ≡ false)

-- the output lets its oldest chunk go where its buffer is full
abbrev pub DropsOldest : {A : Type 0} → Output A → Type 0
DropsOldest o = IsSomeAnd (settings_of o) (λ settings. settings.overflow_action ≡ DropOldestChunk)

-- the tag that the message's events bear where it comes in
abbrev pub tag_of : {A : Type 0} → Network A → Message → List ℕ
tag_of net message = tag_at net message.address message.tag

-- A message may be taken where it comes in, if the tag that its events bear there is one, and its
-- way ends.
abbrev pub CanBegin : {A : Type 0} → Network A → Message → Type 0
CanBegin net message = IsSomeAnd (entrance net message.address)
    (λ at. (length (tag_of net message) ≤ most_tag_bytes)
    × ¬ HasLoop net at (tag_of net message) message.entries)

-- An open delivery of the message may be appended there: to a leaf that it wasn't appended to.
pub record CanAppend {A : Type 0} (net : Network A) (w : World) (delivery : Delivery)
    (message : Message) (buffer serial : ℕ) : Type 0 where
  pub is_open : delivery.is_open ≡ true
  pub is_leaf : HasLeaf net delivery.entrance delivery.tag message.entries buffer
  pub is_new : ¬ Contains delivery.appended buffer
  pub can_take : CanTake (w.buffers delivery.entrance.relay buffer) delivery.tag serial

-- An open delivery of the message may be acknowledged: it was appended to each leaf.
pub record CanAcknowledge {A : Type 0} (net : Network A) (delivery : Delivery)
    (message : Message) : Type 0 where
  pub is_open : delivery.is_open ≡ true
  pub is_whole : (buffer : ℕ) → HasLeaf net delivery.entrance delivery.tag message.entries buffer
      → Contains delivery.appended buffer

-- of this delivery and its message
abbrev pub OfDelivery : World → ℕ → (Delivery → Message → Type 0) → Type 0
OfDelivery w number P = IsSomeAnd (slice_get w.deliveries number)
    (λ delivery. IsSomeAnd (slice_get w.messages delivery.message) (P delivery))

-- a message was sent from the chunk with this id, and acknowledged
abbrev pub IsAnswered : World → ℕ → ℕ → ℕ → Type 0
IsAnswered w place buffer serial =
    Any (λ message. (message.sender ≡ sender.Chunk place buffer serial)
    × (message.acknowledged ≡ true)) w.messages

-- one of the buffer's chunks is queued
abbrev pub HasQueued : BufferState → Type 0
HasQueued state = (serial : ℕ) × IsSomeAnd (state.chunks serial) (λ chunk. chunk.stage ≡ Queued)

-- the chunk of this name is at this stage, and this holds of it
abbrev pub OfChunk : {A : Type 0} → Network A → World → ChunkName → Stage → (Chunk → Type 0)
    → Type 0
OfChunk net w name stage P = IsSomeAnd (chunk_named net w name)
    (λ chunk. (chunk.stage ≡ stage) × P chunk)

-- What a step leaves.

-- the world after a relay of the plan acknowledged a message to its sender
abbrev pub answered : World → ℕ → Message → World
answered w number message = record w {
  messages = slice_set w.messages number (record message { acknowledged = true });
  acknowledged = w.acknowledged
      ++ newly_acknowledged message.sender message.acknowledged message.tag message.entries;
}

-- the world after somebody outside of the network acknowledged a message to its sender
abbrev pub with_answered : World → ℕ → World
with_answered w number =
    option_map_or
    (λ m. record w { messages = slice_set w.messages number (record m { acknowledged = true }) })
    (slice_get w.messages number) w

-- the world with the live chunk of this name changed
abbrev pub with_named : {A : Type 0} → Network A → World → ChunkName → (Chunk → Option Chunk)
    → World
with_named net w name change = option_map_or
    (λ place. with_buffer w place name.buffer
    (λ state. with_chunk name.serial (option_and_then change (state.chunks name.serial)) state))
    (place_of net name.relay) w

-- the world after so many first entries of the chunk of this name were stored in the sink of its
-- output
abbrev pub with_stored : {A : Type 0} → Network A → World → ChunkName
    → (List (List ℕ) → List (List ℕ)) → World
with_stored net w name those = option_map_or
    (λ place. with_buffer w place name.buffer (λ state. record state {
      sink = state.sink ++ option_map_or (λ chunk. events_of chunk.tag (those chunk.entries))
          (state.chunks name.serial) [];
    })) (place_of net name.relay) w

-- the messages after the chunk was sent to the server, if that is there
abbrev pub forwarded_to : {A : Type 0} → List Message → Sender → Chunk → Option (Server A)
    → List Message
forwarded_to messages sender chunk server = option_map_or
    (λ to. messages ++ record {
      sender = sender;
      address = address_of_server to;
      tag = chunk.tag;
      entries = chunk.entries;
      acknowledged = false;
    } ∷ []) server messages

-- the world after this happened to an open delivery and its message
abbrev pub with_delivery : World → ℕ → (Delivery → Message → World) → World
with_delivery w number change =
    option_map_or (λ delivery. option_map_or (change delivery)
    (slice_get w.messages delivery.message) w) (slice_get w.deliveries number) w

-- the world after a delivery was appended to a buffer of its relay at this serial
abbrev pub with_appended : World → ℕ → ℕ → ℕ → World
with_appended w delivery buffer serial = with_delivery w delivery (λ d m. record w {
  buffers = (with_buffer w d.entrance.relay buffer (appended_to d.tag m.entries serial)).buffers;
  deliveries = slice_set w.deliveries delivery (record d { appended = d.appended ++ buffer ∷ [] });
})

-- The steps.

-- A step: everything that it names is there; what it asks for holds; and the world after it, which
-- says something where both are so.
pub record StepRule : Type 1 where
  pub names : Type 0
  pub allowed : Type 0
  pub after : World

-- a step that names a live chunk and nothing else: it asks for that stage of it and for this, and
-- leaves this world
abbrev pub chunk_rule : {A : Type 0} → Network A → World → ChunkName → Stage → (Chunk → Type 0)
    → World → StepRule
chunk_rule net w name stage P after = record {
  names = IsSome (chunk_named net w name);
  allowed = OfChunk net w name stage P;
  after = after;
}

-- what each step names, asks for and does
abbrev pub rule_of_step : {A : Type 0} → Network A → World → Step A → StepRule
rule_of_step net w (step.Send client tag entries) = record {
  names = client < length net.clients;
  allowed = IsSomeAnd (slice_get net.clients client) (λ found. HaveTag found.patterns.items tag);
  after = option_map_or
      (λ found. record w {
        messages = w.messages
            ++ record {
              sender = sender.Client client;
              address = address_of_client net found;
              tag = tag;
              entries = map (λ entry. entry.items) entries.items;
              acknowledged = false;
            } ∷ [];
      }) (slice_get net.clients client) w;
}
rule_of_step net w (step.Begin message) = record {
  names = message < length w.messages;
  allowed = IsSomeAnd (slice_get w.messages message) (CanBegin net);
  after = option_map_or
      (λ m. option_map_or
      (λ at. record w {
        deliveries = w.deliveries
            ++ record {
              message = message;
              entrance = at;
              tag = tag_of net m;
              appended = [];
              is_open = true;
            } ∷ [];
      }) (entrance net m.address) w) (slice_get w.messages message) w;
}
rule_of_step net w (step.Append delivery buffer serial) = record {
  names = IsSomeAnd (slice_get w.deliveries delivery)
      (λ d. IsSome (output_at net d.entrance.relay buffer));
  allowed = OfDelivery w delivery (λ d m. CanAppend net w d m buffer serial);
  after = with_appended w delivery buffer serial;
}
rule_of_step net w (step.Ack delivery) = record {
  names = delivery < length w.deliveries;
  allowed = OfDelivery w delivery (CanAcknowledge net);
  after = with_delivery w delivery (λ d m. record w {
    messages = (answered w d.message m).messages;
    acknowledged = (answered w d.message m).acknowledged;
    deliveries = slice_set w.deliveries delivery (ended d);
  });
}
rule_of_step net w (step.Abandon delivery) = record {
  names = delivery < length w.deliveries;
  allowed = IsSomeAnd (slice_get w.deliveries delivery) (λ d. d.is_open ≡ true);
  after = option_map_or
      (λ d. record w { deliveries = slice_set w.deliveries delivery (ended d) })
      (slice_get w.deliveries delivery) w;
}
rule_of_step net w (step.Foreign message) = record {
  names = message < length w.messages;
  allowed = IsSomeAnd (slice_get w.messages message) (λ m. entrance net m.address ≡ None);
  after = with_answered w message;
}
rule_of_step net w (step.Enqueue name) = chunk_rule net w name Staged (λ _. Unit {0})
    (with_named net w name (λ chunk. Some (record chunk { stage = Queued })))
rule_of_step net w (step.Claim name) = chunk_rule net w name Queued (λ _. Unit {0})
    (with_named net w name (λ chunk. Some (record chunk { stage = Claimed })))
rule_of_step net w (step.Back name) = chunk_rule net w name Claimed (λ _. Unit {0})
    (with_named net w name (λ chunk. Some (record chunk { stage = Queued })))
rule_of_step net w (step.Forward name server) = record {
  names = IsSome (chunk_named net w name)
      × IsSomeAnd (output_named net name) (λ o. server < length (servers_of o));
  allowed = OfChunk net w name Claimed (λ _. IsSomeAnd (output_named net name)
      (λ o. Forwards true o ⊎ Forwards false o));
  after = option_map_or
      (λ place. option_map_or
      (λ chunk. record (with_named net w name (λ c. Some (record c { forwarded = true }))) {
        messages = forwarded_to w.messages (sender.Chunk place name.buffer name.serial) chunk
            (option_and_then (λ o. slice_get (servers_of o) server) (output_named net name));
      }) (chunk_named net w name) w) (place_of net name.relay) w;
}
rule_of_step net w (step.Seen name) = chunk_rule net w name Claimed
    (λ _. IsSomeAnd (output_named net name) (Forwards true)
    × IsSomeAnd (place_of net name.relay) (λ place. IsAnswered w place name.buffer name.serial))
    (with_named net w name (λ chunk. Some (record chunk { evidence = true })))
rule_of_step net w (step.Write name) = chunk_rule net w name Claimed
    (λ _. IsSomeAnd (output_named net name) Stores)
    (with_named net (with_stored net w name (λ entries. entries)) name
    (λ chunk. Some (record chunk { evidence = true })))
rule_of_step net w (step.Part name count) = chunk_rule net w name Claimed
    (λ chunk. IsSomeAnd (output_named net name) Stores × (count ≤ length chunk.entries))
    (with_stored net w name (take count))
rule_of_step net w (step.Purge name) = chunk_rule net w name Claimed
    (λ chunk. chunk.evidence ≡ true) (with_named net w name (λ chunk. None))
rule_of_step net w (step.Done name) = chunk_rule net w name Claimed
    (λ chunk. IsSomeAnd (output_named net name) (Forwards false) × (chunk.forwarded ≡ true))
    (with_named net w name (λ chunk. None))
rule_of_step net w (step.Discard name) = chunk_rule net w name Claimed
    (λ _. IsSomeAnd (output_named net name) GivesUp) (with_named net w name (λ chunk. None))
rule_of_step net w (step.Oldest relay buffer) = record {
  names = IsSomeAnd (place_of net relay) (λ place. IsSome (output_at net place buffer));
  allowed = IsSomeAnd (place_of net relay) (λ place.
      IsSomeAnd (output_at net place buffer) DropsOldest × HasQueued (w.buffers place buffer));
  after = option_map_or (λ place. with_buffer w place buffer without_oldest) (place_of net relay)
      w;
}
rule_of_step net w (step.Restart relay) = record {
  names = IsSome (place_of net relay);
  allowed = Unit {0};
  after = option_map_or
      (λ place. record w {
        buffers = λ p b. cond (p == place) (started_again (is_in_memory net p b) (w.buffers p b))
            (w.buffers p b);
        deliveries = map (λ d. cond (d.entrance.relay == place) (ended d) d) w.deliveries;
      }) (place_of net relay) w;
}

-- Whole runs.

-- Where each step of the list is taken, what it names is there and what it asks for holds, and they
-- lead from the one world to the other.
abbrev pub Steps : {A : Type 0} → Network A → World → List (Step A) → World → Type 0
Steps net before [] after = after ≡ before
Steps net before (first ∷ steps) after = (rule_of_step net before first).names
    × (rule_of_step net before first).allowed
    × Steps net (rule_of_step net before first).after steps after

-- Memory may run out in this step. Where an event goes is looked for in memory, so that it may
-- before it is known whether the way, or the length of the tag with its prefix, allows the step;
-- all else that the step asks for holds.
abbrev pub MayRunOut : {A : Type 0} → Network A → World → Step A → Type 0
MayRunOut net w (step.Begin message) = IsSomeAnd (slice_get w.messages message)
    (λ m. IsSome (entrance net m.address))
MayRunOut net w (step.Append delivery buffer serial) =
    OfDelivery w delivery (λ d m. (d.is_open ≡ true) × (¬ Contains d.appended buffer)
    × CanTake (w.buffers d.entrance.relay buffer) d.tag serial)
MayRunOut net w (step.Ack delivery) = OfDelivery w delivery (λ d m. d.is_open ≡ true)
MayRunOut net w other = (rule_of_step net w other).allowed

-- The step is refused for this reason: it names what isn't there, or else isn't allowed, or memory
-- ran out.
abbrev pub IsRefused : {A : Type 0} → Network A → World → Step A → StepFault → Type 0
IsRefused net w s fault.NoSuch = ¬ (rule_of_step net w s).names
IsRefused net w s fault.NotAllowed = (rule_of_step net w s).names
    × (¬ (rule_of_step net w s).allowed)
IsRefused net w s fault.Memory = (rule_of_step net w s).names × MayRunOut net w s

-- The step of this number, counted from 1, is the first of the list that is refused, for this
-- reason.
pub record IsRefusedAt {A : Type 0} (net : Network A) (steps : List (Step A)) (number : ℕ)
    (fault : StepFault) : Type 0 where
  pub before : List (Step A)
  pub refused : Step A
  pub others : List (Step A)
  pub steps_are : steps ≡ before ++ refused ∷ others
  pub number_is : number ≡ length before + 1
  pub world : World
  pub taken : Steps net initial_world before world
  pub is_refused : IsRefused net world refused fault

-- The reason is that these names aren't there, or else that this condition fails.
abbrev pub Refuses : (names allowed : Type 0) → StepFault → Type 0
Refuses names allowed fault.NoSuch = ¬ names
Refuses names allowed fault.NotAllowed = names × (¬ allowed)
Refuses names allowed fault.Memory = ⊥

-- What a refusal or a success must mean, of a step with these names, this condition, a part of it
-- that is known where memory runs out, and this effect. A refusal changes nothing.
abbrev pub Answer : (names allowed known : Type 0) → World → World → World
    → Result (Unit {0}) StepFault → Type 0
Answer names allowed known before after effect (Ok done) = names × allowed × (after ≡ effect)
Answer names allowed known before after effect (Err fault.NoSuch) = (¬ names) × (after ≡ before)
Answer names allowed known before after effect (Err fault.NotAllowed) = names × (¬ allowed)
    × (after ≡ before)
Answer names allowed known before after effect (Err fault.Memory) = names × known × (after ≡ before)

-- what an answer to the step must mean
abbrev pub Answers : {A : Type 0} → Network A → World → Step A → World → Result (Unit {0}) StepFault
    → Type 0
Answers net before s after result = Answer (rule_of_step net before s).names
    (rule_of_step net before s).allowed (MayRunOut net before s) before after
    (rule_of_step net before s).after result
