-- After every list of steps whatever a sink holds a client sent, under a tag of which its tag is a
-- routed one.
use Rattle.std.proofs.Common.{◌≡◌, ℕ, ◌≤◌, ◌==◌, ◌&&◌, Bool, true, false, cond, List, [], ◌∷◌, ◌++◌, length, take, map, Option, Some, None, slice_get, slice_set, refl, sym, ap, ◌∙◌, inl, inr, arith, Contains}
use Rattle.std.proofs.lemmas.Option.{same_Some}
use Rattle.std.proofs.lemmas.Bool.{and_parts, eqb-true}
use Rattle.std.specs.Option.{option_and_then, option_map_or}
use Rattle.std.proofs.lemmas.List.Elements.{All-contains_itself}
use Rattle.relay_conf.specs.declared.output.Server.{Server}
use Rattle.custody_store.specs.declared.chunk.Stage.TheVariants.{Queued, Claimed}
use Rattle.relay_net.specs.Addresses.{Address}
use Rattle.relay_net.specs.Network.{Network, place_of, entrance, tag_at, address_of_client, address_of_server, output_at, is_in_memory}
use Rattle.relay_net.specs.Outputs.{servers_of}
use Rattle.relay_net.specs.Ways.{HasLoop}
use Rattle.relay_net.specs.Routed.{SendsTo, Follows, sent}
use Rattle.relay_net.proofs.Sending.{sends_by}
use Rattle.custody_store.specs.Buffers.{Event, Chunk, BufferState, with_chunk, events_of, started_again, without_oldest, appended_to}
use Rattle.custody_store.proofs.Members.{get-contains}
use Rattle.custody_store.specs.Book.{Message, Delivery, Told, ended}
use Rattle.custody_steps.specs.World.{World, initial_world, with_buffer}
use Rattle.custody_steps.specs.Rules.{Allowed, effect}
use Rattle.custody_steps.specs.Steps.{Steps, CanBegin, CanAppend, tag_of, with_named, with_stored, with_delivery, forwarded_to, chunk_named}
use Rattle.custody_core.specs.Custody.{NothingIsMadeUp}
use Rattle.custody_store.specs.declared.sender.Sender.TheVariants as sender
use Rattle.step_lines.specs.declared.step.ChunkName.{ChunkName}
use Rattle.step_lines.specs.declared.step.Step.{Step}
use Rattle.step_lines.specs.declared.step.Step.TheVariants as step
use Rattle.custody_core.proofs.Borne.{IsBorne, borne_first, borne_on, borne_onward, borne_routed}
use Rattle.custody_core.proofs.Lists.{get-push, get-more, get-set, get-after_set, get-map, contains-take}
use Rattle.custody_core.proofs.Sendings.{Follow}
use Rattle.custody_core.proofs.Deliverings.{server_of}
use Rattle.custody_core.proofs.Sourced.{AllSent, IsSourced, sourced_more, chunk_changes, sink_takes, takes_sent, oldest_goes, starts_again}
use Rattle.tag_pattern.specs.Parts.{most_tag_bytes}

-- A client sent this entry with one of these messages, which may go on in one with this tag to this
-- address.
pub record IsFrom {A : Type 0} (net : Network A) (messages : List Message) (address : Address) (tag entry : List ℕ) : Type 0 where
  pub number : ℕ
  pub message : Message
  pub there : slice_get messages number ≡ Some message
  pub client : (number : ℕ) × (message.sender ≡ sender.Client number)
  pub among : Contains message.entries entry
  pub follows : Follows net message.address message.tag address tag

-- A client sent this event's entry with one of these messages, whose events may bear its tag in
-- this buffer.
pub record IsBorneFrom {A : Type 0} (net : Network A) (messages : List Message) (place buffer : ℕ) (event : Event) : Type 0 where
  pub number : ℕ
  pub message : Message
  pub there : slice_get messages number ≡ Some message
  pub client : (number : ℕ) × (message.sender ≡ sender.Client number)
  pub among : Contains message.entries event.entry
  pub borne : IsBorne net message.address message.tag place buffer event.tag

-- so it is with each of these entries
abbrev AllFrom : {A : Type 0} → Network A → List Message → Address → List ℕ → List (List ℕ) → Type 0
AllFrom net messages address tag entries = (entry : List ℕ) → Contains entries entry → IsFrom net messages address tag entry

-- A delivery is of a message that came in there, under this tag, whose way ends.
pub record IsOpened {A : Type 0} (net : Network A) (messages : List Message) (delivery : Delivery) : Type 0 where
  pub message : Message
  pub there : slice_get messages delivery.message ≡ Some message
  pub enters : entrance net message.address ≡ Some delivery.entrance
  pub tag_is : delivery.tag ≡ tag_at net message.address message.tag
  pub short : length delivery.tag ≤ most_tag_bytes
  pub ends : ¬ HasLoop net delivery.entrance delivery.tag message.entries

-- A client sent each entry of every message, and whatever is in a buffer or a sink, under tags that
-- lead there.
pub record IsHonest {A : Type 0} (net : Network A) (w : World) : Type 0 where
  pub messages : (k : ℕ) (m : Message) → slice_get w.messages k ≡ Some m → AllFrom net w.messages m.address m.tag m.entries
  pub deliveries : (k : ℕ) (d : Delivery) → slice_get w.deliveries k ≡ Some d → IsOpened net w.messages d
  pub buffers : (place buffer : ℕ) → IsSourced (IsBorneFrom net w.messages place buffer) (w.buffers place buffer)

-- an option's value leads to such a world, if the world is one
honest_or : {A X : Type 0} (net : Network A) (w : World) (f : X → World) (o : Option X) → IsHonest net w → ((x : X) → o ≡ Some x → IsHonest net (f x)) → IsHonest net (option_map_or f o w)
honest_or net w f None is each = is
honest_or net w f (Some x) is each = each x refl

chosen_buffer : (Sent : Event → Type 0) (b : Bool) (x y : BufferState) → IsSourced Sent x → IsSourced Sent y → IsSourced Sent (cond b x y)
chosen_buffer Sent true x y is other = is
chosen_buffer Sent false x y is other = other

last-get : {X : Type 0} (xs : List X) (x : X) → slice_get (xs ++ x ∷ []) (length xs) ≡ Some x
last-get [] x = refl
last-get (y ∷ xs) x = last-get xs x

follow_more : (messages more : List Message) → Follow messages (messages ++ more)
follow_more messages more number m at = record { message = m; there = get-more messages more m number at; sender = refl; address = refl; tag = refl; entries = refl }

follow_answered : (messages : List Message) (number : ℕ) (message : Message) → slice_get messages number ≡ Some message → Follow messages (slice_set messages number (record message { acknowledged = true }))
follow_answered messages number message at k old there = elim (get-after_set messages (record message { acknowledged = true }) old number k there) [
  | inl h ↦ record { message = old; there = h; sender = refl; address = refl; tag = refl; entries = refl }
  | inr h ↦ (let same : message ≡ old = same_Some message old (sym at ∙ ap (slice_get messages) (sym h.0) ∙ there) in record {
    message = record message { acknowledged = true };
    there = h.1;
    sender = ap (λ (m : Message). m.sender) same;
    address = ap (λ (m : Message). m.address) same;
    tag = ap (λ (m : Message). m.tag) same;
    entries = ap (λ (m : Message). m.entries) same;
  })
]

module _ {A : Type 0} (net : Network A) (old new : List Message) (follow : Follow old new) where
  from_more : (address : Address) (tag entry : List ℕ) → IsFrom net old address tag entry → IsFrom net new address tag entry
  from_more address tag entry is =
      let m = follow is.number is.message is.there in
      record { number = is.number; message = m.message; there = m.there; client = rw m.sender is.client; among = rw m.entries is.among; follows = rw (m.address, m.tag) is.follows }

  borne_more : (place buffer : ℕ) (event : Event) → IsBorneFrom net old place buffer event → IsBorneFrom net new place buffer event
  borne_more place buffer event is =
      let m = follow is.number is.message is.there in
      record { number = is.number; message = m.message; there = m.there; client = rw m.sender is.client; among = rw m.entries is.among; borne = rw (m.address, m.tag) is.borne }

  opened_more : (d : Delivery) → IsOpened net old d → IsOpened net new d
  opened_more d is =
      let m = follow d.message is.message is.there in
      record { message = m.message; there = m.there; enters = rw m.address is.enters; tag_is = rw (m.address, m.tag) is.tag_is; short = is.short; ends = rw m.entries is.ends }

-- a delivery that ended, or was appended to one more buffer
still_opened : {A : Type 0} (net : Network A) (messages : List Message) (d : Delivery) (appended : List ℕ) (is_open : Bool) → IsOpened net messages d → IsOpened net messages (record d { appended = appended; is_open = is_open })
still_opened net messages d appended is_open is = record { message = is.message; there = is.there; enters = is.enters; tag_is = is.tag_is; short = is.short; ends = is.ends }

module _ {A : Type 0} (net : Network A) (w : World) (is : IsHonest net w) where
  -- one buffer changes
  buffer_honest : (place buffer : ℕ) (change : BufferState → BufferState) → IsSourced (IsBorneFrom net w.messages place buffer) (change (w.buffers place buffer)) → IsHonest net (with_buffer w place buffer change)
  buffer_honest place buffer change changed = record {
    messages = is.messages;
    deliveries = is.deliveries;
    buffers = λ p b. go p b ((p == place) && (b == buffer)) (at_key p b place buffer);
  }
    where
      at_key : (p b place buffer : ℕ) → ((p == place) && (b == buffer)) ≡ true → (p ≡ place) × (b ≡ buffer)
      at_key p b place buffer e = let parts = and_parts (p == place) (b == buffer) e in (eqb-true p place parts.0, eqb-true b buffer parts.1)

      go : (p b : ℕ) (c : Bool) → (c ≡ true → (p ≡ place) × (b ≡ buffer)) → IsSourced (IsBorneFrom net w.messages p b) (cond c (change (w.buffers p b)) (w.buffers p b))
      go p b true key = rw ((key refl).0, (key refl).1) changed
      go p b false key = is.buffers p b

  named_honest : (name : ChunkName) (change : Chunk → Option Chunk) → ((old new : Chunk) → change old ≡ Some new → (new.tag ≡ old.tag) × (new.entries ≡ old.entries)) → IsHonest net (with_named net w name change)
  named_honest name change same = honest_or net w _ (place_of net name.relay) is
      (λ place e. buffer_honest place name.buffer (λ state. with_chunk name.serial (option_and_then change (state.chunks name.serial)) state)
      (chunk_changes (IsBorneFrom net w.messages place name.buffer) (w.buffers place name.buffer) (is.buffers place name.buffer) name.serial change same))

  stored_honest : (name : ChunkName) (those : List (List ℕ) → List (List ℕ)) → ((entries : List (List ℕ)) (entry : List ℕ) → Contains (those entries) entry → Contains entries entry) → IsHonest net (with_stored net w name those)
  stored_honest name those among = honest_or net w _ (place_of net name.relay) is
      (λ place e. buffer_honest place name.buffer
      (λ state. record state { sink = state.sink ++ option_map_or (λ chunk. events_of chunk.tag (those chunk.entries)) (state.chunks name.serial) [] })
      (sink_takes (IsBorneFrom net w.messages place name.buffer) (w.buffers place name.buffer) (is.buffers place name.buffer) name.serial those among))

  -- Messages that were sent or acknowledged: what is in the buffers was sent all the same.
  messages_honest : (messages : List Message) (buffers : ℕ → ℕ → BufferState) → Follow w.messages messages → ((place buffer : ℕ) → IsSourced (IsBorneFrom net w.messages place buffer) (buffers place buffer))
      → ((k : ℕ) (m : Message) → slice_get messages k ≡ Some m → AllFrom net messages m.address m.tag m.entries) → (deliveries : List Delivery) → ((k : ℕ) (d : Delivery) → slice_get deliveries k ≡ Some d → IsOpened net w.messages d) → (acknowledged : List Told)
      → IsHonest net (record { buffers = buffers; messages = messages; deliveries = deliveries; acknowledged = acknowledged })
  messages_honest messages buffers follow sourced each deliveries opened acknowledged = record {
    messages = each;
    deliveries = λ k d at. opened_more net w.messages messages follow d (opened k d at);
    buffers = λ place buffer. sourced_more (IsBorneFrom net w.messages place buffer) (IsBorneFrom net messages place buffer) (borne_more net w.messages messages follow place buffer) (buffers place buffer) (sourced place buffer);
  }

  answered_each : (number : ℕ) (message : Message) → slice_get w.messages number ≡ Some message → (k : ℕ) (m : Message) → slice_get (slice_set w.messages number (record message { acknowledged = true })) k ≡ Some m
      → AllFrom net (slice_set w.messages number (record message { acknowledged = true })) m.address m.tag m.entries
  answered_each number message at k m e entry inside = from_more net w.messages (slice_set w.messages number (record message { acknowledged = true })) (follow_answered w.messages number message at) m.address m.tag entry
      (elim (get-set w.messages (record message { acknowledged = true }) m number k e) [
        | inl old ↦ is.messages k m old entry inside
        | inr new ↦ (let address : m.address ≡ message.address = ap (λ (x : Message). x.address) new.1 in
            let tag : m.tag ≡ message.tag = ap (λ (x : Message). x.tag) new.1 in let entries : m.entries ≡ message.entries = ap (λ (x : Message). x.entries) new.1 in
            rw (address, tag) (is.messages number message at entry (rw entries at inside)))
      ])

  -- each message of a list that grew by one, whose entries were sent
  pushed_each : (message : Message) → AllFrom net (w.messages ++ message ∷ []) message.address message.tag message.entries → (k : ℕ) (m : Message) → slice_get (w.messages ++ message ∷ []) k ≡ Some m → AllFrom net (w.messages ++ message ∷ []) m.address m.tag m.entries
  pushed_each message from k m e entry inside = elim (get-push w.messages message m k e) [
    | inl old ↦ from_more net w.messages (w.messages ++ message ∷ []) (follow_more w.messages (message ∷ [])) m.address m.tag entry (is.messages k m old entry inside)
    | inr new ↦ (let address : m.address ≡ message.address = ap (λ (x : Message). x.address) new in
        let tag : m.tag ≡ message.tag = ap (λ (x : Message). x.tag) new in let entries : m.entries ≡ message.entries = ap (λ (x : Message). x.entries) new in
        rw (address, tag) (from entry (rw entries at inside)))
  ]

  send_honest : (client : ℕ) (tag : List ℕ) (entries : _) → IsHonest net (effect net w (step.Send client tag entries))
  send_honest client tag entries = honest_or net w _ (slice_get net.clients client) is (λ found e.
      messages_honest (w.messages ++ _ ∷ []) w.buffers (follow_more w.messages (_ ∷ [])) is.buffers
      (pushed_each (record { sender = sender.Client client; address = address_of_client net found; tag = tag; entries = map (λ entry. entry.items) entries.items; acknowledged = false })
      (λ entry inside. record { number = length w.messages; message = _; there = last-get w.messages _; client = (client, refl); among = inside; follows = sent }))
      w.deliveries is.deliveries w.acknowledged)

  delivery_honest : (number : ℕ) (change : Delivery → Message → World) → ((d : Delivery) (m : Message) → slice_get w.deliveries number ≡ Some d → slice_get w.messages d.message ≡ Some m → IsHonest net (change d m)) → IsHonest net (with_delivery w number change)
  delivery_honest number change each = honest_or net w _ (slice_get w.deliveries number) is (λ d e. honest_or net w _ (slice_get w.messages d.message) is (λ m f. each d m e f))

  -- the deliveries after this one changed, but not what it is of
  changed_each : (number : ℕ) (d : Delivery) (appended : List ℕ) (is_open : Bool) → slice_get w.deliveries number ≡ Some d → (k : ℕ) (x : Delivery) → slice_get (slice_set w.deliveries number (record d { appended = appended; is_open = is_open })) k ≡ Some x → IsOpened net w.messages x
  changed_each number d appended is_open at k x e = elim (get-set w.deliveries (record d { appended = appended; is_open = is_open }) x number k e) [
    | inl old ↦ is.deliveries k x old
    | inr new ↦ rw new.1 (still_opened net w.messages d appended is_open (is.deliveries number d at))
  ]

  -- what is appended was sent
  append_from : (number buffer serial : ℕ) (d : Delivery) (m : Message) → slice_get w.deliveries number ≡ Some d → slice_get w.messages d.message ≡ Some m → CanAppend net w d m buffer serial → AllSent (IsBorneFrom net w.messages d.entrance.relay buffer) d.tag m.entries
  append_from number buffer serial d m e f can entry inside =
      let from = is.messages d.message m f entry inside in
      let o = is.deliveries number d e in
      let same : o.message ≡ m = same_Some o.message m (sym o.there ∙ f) in
      let ends : ¬ HasLoop net d.entrance d.tag m.entries = rw same at o.ends in
      let first = borne_first net m.address m.tag d.entrance buffer d.tag (rw same at o.enters) (rw same at o.tag_is) o.short (record { ends = λ loop. ends (can.is_leaf.0, loop); leaf = can.is_leaf.1 }) in
      record {
        number = from.number;
        message = from.message;
        there = from.there;
        client = from.client;
        among = from.among;
        borne = borne_on net from.message.address from.message.tag m.address m.tag d.entrance.relay buffer d.tag from.follows first;
      }

  append_honest : (number buffer serial : ℕ) → Allowed net w (step.Append number buffer serial) → IsHonest net (effect net w (step.Append number buffer serial))
  append_honest number buffer serial h = delivery_honest number _ (λ d m e f.
      (let can : CanAppend net w d m buffer serial = rw (e, f) at h in
      let changed = buffer_honest d.entrance.relay buffer (appended_to d.tag m.entries serial)
      (takes_sent (IsBorneFrom net w.messages d.entrance.relay buffer) (w.buffers d.entrance.relay buffer) (is.buffers d.entrance.relay buffer) d.tag m.entries serial can.can_take (append_from number buffer serial d m e f can)) in
      record { messages = is.messages; deliveries = changed_each number d (d.appended ++ buffer ∷ []) d.is_open e; buffers = changed.buffers }))

  ack_honest : (number : ℕ) → IsHonest net (effect net w (step.Ack number))
  ack_honest number = delivery_honest number _ (λ d m e f.
      messages_honest (slice_set w.messages d.message (record m { acknowledged = true })) w.buffers (follow_answered w.messages d.message m f) is.buffers (answered_each d.message m f) (slice_set w.deliveries number (ended d)) (changed_each number d d.appended false e) _)

  foreign_honest : (message : ℕ) → IsHonest net (effect net w (step.Foreign message))
  foreign_honest message = honest_or net w _ (slice_get w.messages message) is (λ m f.
      messages_honest (slice_set w.messages message (record m { acknowledged = true })) w.buffers (follow_answered w.messages message m f) is.buffers (answered_each message m f) w.deliveries is.deliveries _)

  begin_honest : (message : ℕ) → Allowed net w (step.Begin message) → IsHonest net (effect net w (step.Begin message))
  begin_honest message h = honest_or net w _ (slice_get w.messages message) is (λ m e. honest_or net w _ (entrance net m.address) is (λ at f.
      (let may : CanBegin net m = rw e at h in
      let can : (length (tag_of net m) ≤ most_tag_bytes) × ¬ HasLoop net at (tag_of net m) m.entries = rw f at may in
      let opened : Delivery = record { message = message; entrance = at; tag = tag_of net m; appended = []; is_open = true } in
      record {
        messages = is.messages;
        deliveries = λ k d there. elim (get-push w.deliveries opened d k there) [
          | inl old ↦ is.deliveries k d old
          | inr new ↦ rw new (record { message = m; there = e; enters = f; tag_is = refl; short = can.0; ends = can.1 })
        ];
        buffers = is.buffers;
      })))

  abandon_honest : (number : ℕ) → IsHonest net (effect net w (step.Abandon number))
  abandon_honest number = honest_or net w _ (slice_get w.deliveries number) is (λ d e. record { messages = is.messages; deliveries = changed_each number d d.appended false e; buffers = is.buffers })

  oldest_honest : (relay buffer : ℕ) → IsHonest net (effect net w (step.Oldest relay buffer))
  oldest_honest relay buffer = honest_or net w _ (place_of net relay) is
      (λ place e. buffer_honest place buffer without_oldest (oldest_goes (IsBorneFrom net w.messages place buffer) (w.buffers place buffer) (is.buffers place buffer)))

  ended_or_not : (b : Bool) (d : Delivery) → IsOpened net w.messages d → IsOpened net w.messages (cond b (ended d) d)
  ended_or_not true d o = still_opened net w.messages d d.appended false o
  ended_or_not false d o = o

  restart_honest : (relay : ℕ) → IsHonest net (effect net w (step.Restart relay))
  restart_honest relay = honest_or net w _ (place_of net relay) is (λ place e. record {
    messages = is.messages;
    deliveries = λ k x there. (let d = get-map (λ d. cond (d.entrance.relay == place) (ended d) d) w.deliveries x k there in rw d.2 (ended_or_not (d.0.entrance.relay == place) d.0 (is.deliveries k d.0 d.1)));
    buffers = λ p b. chosen_buffer (IsBorneFrom net w.messages p b) (p == place) (started_again (is_in_memory net p b) (w.buffers p b)) (w.buffers p b)
        (starts_again (IsBorneFrom net w.messages p b) (w.buffers p b) (is.buffers p b) (is_in_memory net p b)) (is.buffers p b);
  })

-- a chunk's entries, which were sent, are sent on to a server, if that is there
sent_on : {A : Type 0} (net : Network A) (w : World) → IsHonest net w → (place buffer serial : ℕ) (chunk : Chunk) → AllSent (IsBorneFrom net w.messages place buffer) chunk.tag chunk.entries → (o : Option (Server A))
    → ((server : Server A) → o ≡ Some server → SendsTo net place buffer (address_of_server server))
    → (buffers : ℕ → ℕ → BufferState) → ((place buffer : ℕ) → IsSourced (IsBorneFrom net w.messages place buffer) (buffers place buffer))
    → IsHonest net (record { buffers = buffers; messages = forwarded_to w.messages (sender.Chunk place buffer serial) chunk o; deliveries = w.deliveries; acknowledged = w.acknowledged })
sent_on net w is place buffer serial chunk from None sends buffers sourced = record { messages = is.messages; deliveries = is.deliveries; buffers = sourced }
sent_on net w is place buffer serial chunk from (Some server) sends buffers sourced =
    let next : Message = record { sender = sender.Chunk place buffer serial; address = address_of_server server; tag = chunk.tag; entries = chunk.entries; acknowledged = false } in
    messages_honest net w is (w.messages ++ next ∷ []) buffers (follow_more w.messages (next ∷ [])) sourced
    (pushed_each net w is next (λ entry inside. (let b = from entry inside in record {
      number = b.number;
      message = b.message;
      there = get-more w.messages (next ∷ []) b.message b.number b.there;
      client = b.client;
      among = b.among;
      follows = borne_onward net b.message.address b.message.tag place buffer chunk.tag (address_of_server server) b.borne (sends server refl);
    }))) w.deliveries is.deliveries w.acknowledged

-- the entries of a chunk that is forwarded were sent
forward_honest : {A : Type 0} (net : Network A) (w : World) → IsHonest net w → (name : ChunkName) (server : ℕ) → IsHonest net (effect net w (step.Forward name server))
forward_honest net w is name server =
    honest_or net w _ (place_of net name.relay) is (λ place e.
    honest_or net w _ (chunk_named net w name) is (λ chunk f.
    (let mark : Chunk → Option Chunk = λ c. Some (record c { forwarded = true }) in
    let change : BufferState → BufferState = λ state. with_chunk name.serial (option_and_then mark (state.chunks name.serial)) state in
    let changed = buffer_honest net w is place name.buffer change
    (chunk_changes (IsBorneFrom net w.messages place name.buffer) (w.buffers place name.buffer) (is.buffers place name.buffer) name.serial (λ c. Some (record c { forwarded = true }))
    (λ old new same. (let q = same_Some (record old { forwarded = true }) new same in (ap (λ (x : Chunk). x.tag) (sym q), ap (λ (x : Chunk). x.entries) (sym q))))) in
    let at : (w.buffers place name.buffer).chunks name.serial ≡ Some chunk = rw e at f in
    let is_named : with_named net w name (λ c. Some (record c { forwarded = true })) ≡ with_buffer w place name.buffer change = rw e refl in
    rw is_named (sent_on net w is place name.buffer name.serial chunk ((is.buffers place name.buffer).chunks name.serial chunk at) _
    (λ found g. (let s = server_of (output_at net place name.buffer) server found (rw e at g) in sends_by net place name.buffer s.0 s.1 found (get-contains (servers_of s.0) found server s.2)))
    _ changed.buffers))))

module _ {A : Type 0} (net : Network A) (w : World) (is : IsHonest net w) where
  -- a chunk's stage or its evidence changes
  marks : (name : ChunkName) (mark : Chunk → Chunk) → ((c : Chunk) → ((mark c).tag ≡ c.tag) × ((mark c).entries ≡ c.entries)) → IsHonest net (with_named net w name (λ c. Some (mark c)))
  marks name mark same = named_honest net w is name (λ c. Some (mark c))
      (λ old new e. (let q = same_Some (mark old) new e in (ap (λ (x : Chunk). x.tag) (sym q) ∙ (same old).0, ap (λ (x : Chunk). x.entries) (sym q) ∙ (same old).1)))

  goes : (name : ChunkName) → IsHonest net (with_named net w name (λ c. None))
  goes name = named_honest net w is name (λ c. None) (λ old new e. absurd (cc))

-- each step leaves such a world
step_honest : {A : Type 0} (net : Network A) (w : World) (next : Step A) → IsHonest net w → Allowed net w next → IsHonest net (effect net w next)
step_honest net w (step.Send client tag entries) is h = send_honest net w is client tag entries
step_honest net w (step.Begin message) is h = begin_honest net w is message h
step_honest net w (step.Append delivery buffer serial) is h = append_honest net w is delivery buffer serial h
step_honest net w (step.Ack delivery) is h = ack_honest net w is delivery
step_honest net w (step.Abandon delivery) is h = abandon_honest net w is delivery
step_honest net w (step.Foreign message) is h = foreign_honest net w is message
step_honest net w (step.Enqueue name) is h = marks net w is name (λ c. record c { stage = Queued }) (λ c. (refl, refl))
step_honest net w (step.Claim name) is h = marks net w is name (λ c. record c { stage = Claimed }) (λ c. (refl, refl))
step_honest net w (step.Back name) is h = marks net w is name (λ c. record c { stage = Queued }) (λ c. (refl, refl))
step_honest net w (step.Forward name server) is h = forward_honest net w is name server
step_honest net w (step.Seen name) is h = marks net w is name (λ c. record c { evidence = true }) (λ c. (refl, refl))
step_honest net w (step.Write name) is h = marks net (with_stored net w name (λ entries. entries)) (stored_honest net w is name (λ entries. entries) (λ entries entry inside. inside)) name (λ c. record c { evidence = true }) (λ c. (refl, refl))
step_honest net w (step.Part name count) is h = stored_honest net w is name (take count) (λ entries entry inside. contains-take count entries entry inside)
step_honest net w (step.Purge name) is h = goes net w is name
step_honest net w (step.Done name) is h = goes net w is name
step_honest net w (step.Discard name) is h = goes net w is name
step_honest net w (step.Oldest relay buffer) is h = oldest_honest net w is relay buffer
step_honest net w (step.Restart relay) is h = restart_honest net w is relay

run_honest : {A : Type 0} (net : Network A) (steps : List (Step A)) (before after : World) → IsHonest net before → Steps net before steps after → IsHonest net after
run_honest net [] before after is run = rw run is
run_honest net (next ∷ steps) before after is run = run_honest net steps (effect net before next) after (step_honest net before next is run.1) run.2

opening_honest : {A : Type 0} (net : Network A) → IsHonest net initial_world
opening_honest net = record {
  messages = λ k m e. absurd (cc);
  deliveries = λ k d e. absurd (cc);
  buffers = λ place buffer. record { below = λ serial le. refl; chunks = λ serial chunk at. absurd (cc); sink = λ event inside. absurd (let less = inside.1 in omega arith) };
}

-- Whatever a sink holds after a list of steps a client sent: of every network.
pub sourced : {A : Type 0} (net : Network A) (steps : List (Step A)) (w : World) → Steps net initial_world steps w → NothingIsMadeUp net w
sourced net steps w run place buffer k d less =
    let honest = run_honest net steps initial_world w (opening_honest net) run in
    let from = (honest.buffers place buffer).sink _ (All-contains_itself (w.buffers place buffer).sink k d less) in
    let there = get-contains w.messages from.message from.number from.there in
    (there.0, from.message, there.1, there.2, record { client = from.client; tag = borne_routed net from.message.address from.message.tag place buffer _ from.borne; entry = from.among })
