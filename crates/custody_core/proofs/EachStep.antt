-- Each step keeps what is kept along branches, in a network in which each leaf of each labelled
-- tag's way keeps.
use Rattle.std.proofs.Common.{◌≡◌, ◌≢◌, ℕ, ◌<◌, ◌≤◌, ◌==◌, Bool, true, false, cond, List, [], ◌∷◌, ◌++◌, map, take, length, Option, Some, None, slice_get, slice_set, refl, sym, ap, subst, ◌∙◌, ◌⊎◌, inl, inr, arith, Contains, IsSomeAnd}
use Rattle.std.proofs.lemmas.Option.{same_Some}
use Rattle.std.proofs.lemmas.List.Elements.{Contains-append_cases, Contains-append_right}
use Rattle.std.specs.Option.{option_and_then, option_map_or}
use Rattle.custody_store.specs.declared.chunk.Stage.{Stage}
use Rattle.custody_store.specs.declared.chunk.Stage.TheVariants.{Staged, Queued, Claimed}
use Rattle.custody_store.specs.Buffers.{Chunk, BufferState, events_of, without_oldest, started_again}
use Rattle.custody_store.proofs.Members.{contains-get}
use Rattle.custody_store.specs.Book.{Message, Delivery, Told, ended}
use Rattle.custody_store.specs.declared.sender.Sender.TheVariants as sender
use Rattle.relay_conf.specs.declared.output.Server.{Server}
use Rattle.relay_net.specs.Network.{Network, place_of, entrance, output_at, is_in_memory}
use Rattle.relay_net.specs.Outputs.{Keeps, servers_of}
use Rattle.relay_net.specs.Ways.{HasLoop, table_at}
use Rattle.relay_net.specs.declared.address.Entrance.{Entrance}
use Rattle.route_graph.specs.Ways.{HaveTag, IsLeaf}
use Rattle.step_lines.specs.declared.step.ChunkName.{ChunkName}
use Rattle.step_lines.specs.declared.step.Step.TheVariants as step
use Rattle.custody_steps.specs.World.{World, with_buffer}
use Rattle.custody_steps.specs.Rules.{Allowed, effect}
use Rattle.custody_steps.specs.Steps.{CanBegin, IsAnswered, Forwards, Stores, GivesUp, DropsOldest, HasQueued, with_named, with_stored, output_named, forwarded_to, tag_of}
use Rattle.custody_store.proofs.Lists.{some_and}
use Rattle.loss_rules.proofs.Members.{contains-map}
use Rattle.custody_core.proofs.Serials.{event_of}
use Rattle.custody_core.proofs.Lists.{get-push, get-more, get-set, get-after_set, get-map}
use Rattle.custody_core.proofs.Safe.{Ranking, KeepsAt}
use Rattle.custody_core.proofs.Ranked.{Labelling, IsRanked}
use Rattle.custody_core.proofs.Going.{IsLike}
use Rattle.custody_core.proofs.NamedMoves.{IsNamed, named, both, keeps_asks, keeps_for_ever, keeps_oldest, stored, evident_still, output_is}
use Rattle.custody_core.proofs.ChunkMoves.{mark_ranked}
use Rattle.custody_core.proofs.QueueMoves.{IsDue}
use Rattle.custody_core.proofs.SinkMoves.{again_ranked}
use Rattle.custody_core.proofs.Sendings.{Follow}
use Rattle.custody_core.proofs.Deliverings.{chosen_again, state_here}
use Rattle.custody_core.proofs.Along.{AnsweredStay}
use Rattle.custody_core.proofs.AlongRanked.{IsGoneOn, ArePassedAlong, AreHeldThere, IsToldAlong, IsEach, WasAppended, each_goes, was_appended, follow_same, was_evident}
use Rattle.custody_core.proofs.AlongMoves.{same_moves, mark_each, gone_each, queue_each, fuller_each, loose_each, again_each}
use Rattle.tag_pattern.specs.Parts.{most_tag_bytes}

-- Each leaf of each labelled tag's way keeps.
abbrev pub LeavesKeep : {A : Type 0} → Network A → Labelling → Type 0
LeavesKeep net labelled = (at : Entrance) (tag : List ℕ) → labelled at tag → (buffer : ℕ) → IsLeaf (table_at net at.relay) tag at.scope buffer → KeepsAt net at.relay buffer

module _ {A : Type 0} (net : Network A) (labelled : Labelling) (ranks : Ranking) (clock : ℕ) (w : World) (is : IsRanked net labelled ranks clock w) (each : IsEach net ranks w) where
  -- ---- lists alone

  -- messages, deliveries and acknowledged events change
  lists_each : (v : World) → AnsweredStay w.messages v.messages
      → ((number : ℕ) (m : Message) → slice_get v.messages number ≡ Some m → m.acknowledged ≡ true → (slice_get w.messages number ≡ Some m) ⊎ ArePassedAlong net ranks w.buffers v.messages m)
      → ((number : ℕ) (d : Delivery) → slice_get v.deliveries number ≡ Some d → (m : Message) → slice_get v.messages d.message ≡ Some m → (buffer : ℕ) → Contains d.appended buffer → WasAppended w d.entrance d.tag buffer m ⊎ AreHeldThere net ranks w.buffers v.messages m d.entrance d.tag buffer)
      → ((told : Told) → Contains v.acknowledged told → Contains w.acknowledged told ⊎ IsToldAlong net ranks w.buffers v.messages told)
      → IsEach net ranks (record v { buffers = w.buffers })
  lists_each v stay messages deliveries told = each_goes net labelled ranks ranks clock w (record v { buffers = w.buffers }) is each (record {
    moves = same_moves net labelled ranks clock w is v.messages stay;
    steady = λ p b s chunk at moved. refl;
    chunks = λ p b s now at keeps sure entry inside. inl (was_evident net labelled ranks clock w is p b s now now at refl refl sure entry inside);
    messages = messages;
    deliveries = deliveries;
    told = told;
  })

  -- the deliveries change
  pub deliveries_each : (deliveries : List Delivery)
      → ((number : ℕ) (d : Delivery) → slice_get deliveries number ≡ Some d → (m : Message) → slice_get w.messages d.message ≡ Some m → (buffer : ℕ) → Contains d.appended buffer → WasAppended w d.entrance d.tag buffer m ⊎ AreHeldThere net ranks w.buffers w.messages m d.entrance d.tag buffer)
      → IsEach net ranks (record w { deliveries = deliveries })
  deliveries_each deliveries those = lists_each (record w { deliveries = deliveries }) (λ number m at sure. at) (λ number m at sure. inl at) those (λ told inside. inl inside)

  -- a delivery that was there, or the same but ended
  pub old_delivery : (number : ℕ) (d : Delivery) → slice_get w.deliveries number ≡ Some d → (m : Message) → slice_get w.messages d.message ≡ Some m → (buffer : ℕ) → Contains d.appended buffer → WasAppended w d.entrance d.tag buffer m
  old_delivery number d at m there buffer inside = was_appended net labelled ranks clock w is w.messages (follow_same net labelled ranks clock w is) number d at m there buffer inside

  ended_or_not : (stops : Bool) (number : ℕ) (d : Delivery) → slice_get w.deliveries number ≡ Some d → (x : Delivery) → x ≡ cond stops (ended d) d → (m : Message) → slice_get w.messages x.message ≡ Some m → (buffer : ℕ) → Contains x.appended buffer → WasAppended w x.entrance x.tag buffer m
  ended_or_not stops number d at x is_x m there buffer inside = subst (λ (y : Delivery). WasAppended w y.entrance y.tag buffer m) (sym is_x)
      (by stops (subst (λ (y : Delivery). slice_get w.messages y.message ≡ Some m) is_x there) (subst (λ (y : Delivery). Contains y.appended buffer) is_x inside))
    where
      by : (b : Bool) → slice_get w.messages (cond b (ended d) d).message ≡ Some m → Contains (cond b (ended d) d).appended buffer → WasAppended w (cond b (ended d) d).entrance (cond b (ended d) d).tag buffer m
      by true there inside = old_delivery number d at m there buffer inside
      by false there inside = old_delivery number d at m there buffer inside

  -- a message was sent
  pub pushed_each : (message : Message) → message.acknowledged ≡ false → IsEach net ranks (record w { messages = w.messages ++ message ∷ [] })
  pushed_each message unanswered = lists_each (record w { messages = w.messages ++ message ∷ [] })
      (λ number m at sure. get-more w.messages (message ∷ []) m number at)
      (λ number m at sure. elim (get-push w.messages message m number at) [
        | inl old ↦ inl old
        | inr new ↦ absurd (let e : message.acknowledged ≡ true = ap (λ (x : Message). x.acknowledged) (sym new) ∙ sure in let g = sym unanswered ∙ e in cc)
      ])
      (λ number d at m there buffer inside. inl (was_appended net labelled ranks clock w is (w.messages ++ message ∷ [])
      (λ k old e. record { message = old; there = get-more w.messages (message ∷ []) old k e; sender = refl; address = refl; tag = refl; entries = refl }) number d at m there buffer inside))
      (λ told inside. inl inside)

  -- a delivery was opened
  opened_each : (opened : Delivery) → opened.appended ≡ [] → IsEach net ranks (record w { deliveries = w.deliveries ++ opened ∷ [] })
  opened_each opened none = deliveries_each (w.deliveries ++ opened ∷ []) (λ number d at m there buffer inside. elim (get-push w.deliveries opened d number at) [
    | inl old ↦ inl (old_delivery number d old m there buffer inside)
    | inr new ↦ absurd (let c : Contains opened.appended buffer = subst (λ (x : Delivery). Contains x.appended buffer) new inside in let n : Contains [] buffer = rw none at c in let less : n.0 < 0 = n.1 in omega arith)
  ])

  -- a delivery ended
  pub ended_each : (number : ℕ) (d : Delivery) → slice_get w.deliveries number ≡ Some d → IsEach net ranks (record w { deliveries = slice_set w.deliveries number (ended d) })
  ended_each number d at = deliveries_each (slice_set w.deliveries number (ended d)) (λ k x e m there buffer inside. elim (get-set w.deliveries (ended d) x number k e) [
    | inl old ↦ inl (old_delivery k x old m there buffer inside)
    | inr new ↦ inl (
        let there_d : slice_get w.messages d.message ≡ Some m = subst (λ (y : Delivery). slice_get w.messages y.message ≡ Some m) new.1 there in
        let inside_d : Contains d.appended buffer = subst (λ (y : Delivery). Contains y.appended buffer) new.1 inside in
        subst (λ (y : Delivery). WasAppended w y.entrance y.tag buffer m) (sym new.1) (old_delivery number d at m there_d buffer inside_d))
  ])

  -- an acknowledged message stays what it is where one is acknowledged
  pub stays_answered : (k : ℕ) (x : Message) → slice_get w.messages k ≡ Some x → AnsweredStay w.messages (slice_set w.messages k (record x { acknowledged = true }))
  stays_answered k x there j m e sure = elim (get-after_set w.messages (record x { acknowledged = true }) m k j e) [
    | inl h ↦ h
    | inr h ↦ (let same : x ≡ m = same_Some x m (sym there ∙ ap (slice_get w.messages) (sym h.0) ∙ e) in
        h.1 ∙ ap (λ (y : Message). Some (record y { acknowledged = true })) same ∙ ap Some (still m sure))
  ]
    where
      still : (m : Message) → m.acknowledged ≡ true → record m { acknowledged = true } ≡ m
      still m sure = λ i. record { sender = m.sender; address = m.address; tag = m.tag; entries = m.entries; acknowledged = sym sure i }

  follows_answered : (k : ℕ) (x : Message) → slice_get w.messages k ≡ Some x → Follow w.messages (slice_set w.messages k (record x { acknowledged = true }))
  follows_answered k x there j old e = elim (get-after_set w.messages (record x { acknowledged = true }) old k j e) [
    | inl h ↦ record { message = old; there = h; sender = refl; address = refl; tag = refl; entries = refl }
    | inr h ↦ (let same : x ≡ old = same_Some x old (sym there ∙ ap (slice_get w.messages) (sym h.0) ∙ e) in
        record { message = record x { acknowledged = true }; there = h.1; sender = ap (λ (m : Message). m.sender) same; address = ap (λ (m : Message). m.address) same; tag = ap (λ (m : Message). m.tag) same; entries = ap (λ (m : Message). m.entries) same })
  ]

  -- a message was acknowledged, which each leaf keeps
  pub answered_each : (number : ℕ) (message : Message) → slice_get w.messages number ≡ Some message → ((messages : List Message) → AnsweredStay w.messages messages → ArePassedAlong net ranks w.buffers messages message)
      → IsEach net ranks (record w { messages = slice_set w.messages number (record message { acknowledged = true }) })
  answered_each number message at passed =
      let now = record message { acknowledged = true } in
      let messages = slice_set w.messages number now in
      lists_each (record w { messages = messages }) (stays_answered number message at)
      (λ k m there sure. elim (get-set w.messages now m number k there) [
        | inl old ↦ inl old
        | inr new ↦ inr (subst (λ (x : Message). ArePassedAlong net ranks w.buffers messages x) (sym new.1) (λ counts entry inside. passed messages (stays_answered number message at) counts entry inside))
      ])
      (λ k d there m is_m buffer inside. inl (was_appended net labelled ranks clock w is messages (follows_answered number message at) k d there m is_m buffer inside))
      (λ told inside. inl inside)

  -- events were acknowledged to clients
  pub told_each : (more : List Told) → ((told : Told) → Contains more told → IsToldAlong net ranks w.buffers w.messages told) → IsEach net ranks (record w { acknowledged = w.acknowledged ++ more })
  told_each more those = lists_each (record w { acknowledged = w.acknowledged ++ more }) (λ number m at sure. at) (λ number m at sure. inl at)
      (λ number d at m there buffer inside. inl (old_delivery number d at m there buffer inside))
      (λ told inside. elim (Contains-append_cases w.acknowledged more told inside) [
        | inl old ↦ inl old
        | inr new ↦ inr (those told new)
      ])

  -- ---- chunks that are named

  module _ (name : ChunkName) where
    restaged_each : (from to : Stage) → from ≢ Staged → to ≢ Staged → (n : IsNamed net w name from (λ _. Unit {0})) → IsEach net ranks (with_named net w name (λ chunk. Some (record chunk { stage = to })))
    restaged_each from to from_not to_not n =
        rw n.is_place (mark_each net labelled ranks clock w is each n.place name.buffer name.serial n.chunk n.is_chunk (λ c. record c { stage = to })
        (record { tag = refl; entries = refl; staged = λ e. absurd (to_not e); still = λ e. absurd (from_not (sym n.stage_is ∙ e)) })
        (λ keeps sure entry inside. inl sure))

    pub claimed_each : Allowed net w (step.Claim name) → IsEach net ranks (effect net w (step.Claim name))
    claimed_each h = restaged_each Queued Claimed (λ e. cc) (λ e. cc) (named net w name Queued (λ _. Unit {0}) h)

    pub given_back_each : Allowed net w (step.Back name) → IsEach net ranks (effect net w (step.Back name))
    given_back_each h = restaged_each Claimed Queued (λ e. cc) (λ e. cc) (named net w name Claimed (λ _. Unit {0}) h)

    -- a claimed chunk goes that is of no buffer that keeps, or has evidence
    goes_each : (P : Chunk → Type 0) (n : IsNamed net w name Claimed P) → (KeepsAt net n.place name.buffer → n.chunk.evidence ≡ true) → IsEach net ranks (with_named net w name (λ c. None))
    goes_each P n delivered = rw n.is_place (gone_each net labelled ranks clock w is each n.place name.buffer name.serial n.chunk n.is_chunk
        (λ keeps. ((evident_still net labelled ranks clock w is name Claimed P n keeps (delivered keeps)).0, λ entry inside. each.chunks n.place name.buffer name.serial n.chunk n.is_chunk keeps (delivered keeps) entry inside)))

    pub purged_each : Allowed net w (step.Purge name) → IsEach net ranks (effect net w (step.Purge name))
    purged_each h = let n = named net w name Claimed (λ chunk. chunk.evidence ≡ true) h in goes_each (λ chunk. chunk.evidence ≡ true) n (λ keeps. n.holds)

    pub done_each : Allowed net w (step.Done name) → IsEach net ranks (effect net w (step.Done name))
    done_each h =
        let P : Chunk → Type 0 = λ chunk. IsSomeAnd (output_named net name) (Forwards false) × (chunk.forwarded ≡ true) in
        let n = named net w name Claimed P h in
        goes_each P n (λ keeps. absurd (both (output_at net n.place name.buffer) Keeps (Forwards false) keeps_asks keeps (output_is net labelled ranks clock w is name P n (Forwards false) n.holds.0)))

    pub discarded_each : Allowed net w (step.Discard name) → IsEach net ranks (effect net w (step.Discard name))
    discarded_each h =
        let P : Chunk → Type 0 = λ _. IsSomeAnd (output_named net name) GivesUp in
        let n = named net w name Claimed P h in
        goes_each P n (λ keeps. absurd (both (output_at net n.place name.buffer) Keeps GivesUp keeps_for_ever keeps (output_is net labelled ranks clock w is name P n GivesUp n.holds)))

    pub enqueued_each : Allowed net w (step.Enqueue name) → ((place : ℕ) → place_of net name.relay ≡ Some place → IsDue net ranks clock place name.buffer name.serial) → IsEach net ranks (effect net w (step.Enqueue name))
    enqueued_each h due =
        let n = named net w name Staged (λ _. Unit {0}) h in
        rw n.is_place (queue_each net labelled ranks clock w is each n.place name.buffer name.serial n.chunk n.is_chunk n.stage_is (due n.place n.is_place))

    -- An acknowledgement of the chunk was given: its entries went on to where each buffer keeps
    -- them.
    answered_on : (place : ℕ) (chunk : Chunk) → (w.buffers place name.buffer).chunks name.serial ≡ Some chunk → IsAnswered w place name.buffer name.serial → KeepsAt net place name.buffer
        → (entry : List ℕ) → Contains chunk.entries entry → IsGoneOn net ranks w.buffers w.messages place name.buffer name.serial chunk.tag entry
    answered_on place chunk at any keeps entry inside =
        let m = contains-get w.messages any.1 (any.0, any.2, any.3) in
        let from : any.1.sender ≡ sender.Chunk place name.buffer name.serial = any.4.0 in
        let id = rw from at (is.messages m.0 any.1 m.1).id in
        let same = (id keeps).same chunk at in
        let there : Contains any.1.entries entry = rw (← same.2) inside in
        let passed = rw from at (each.messages m.0 any.1 m.1 any.4.1) in
        record {
          number = m.0;
          message = any.1;
          on = record { there = m.1; from = from; tag_is = sym same.1; inside = there; answered = any.4.1 };
          each = passed keeps entry there;
        }

    pub seen_each : Allowed net w (step.Seen name) → IsEach net ranks (effect net w (step.Seen name))
    seen_each h =
        let P : Chunk → Type 0 = λ _. IsSomeAnd (output_named net name) (Forwards true) × IsSomeAnd (place_of net name.relay) (λ place. IsAnswered w place name.buffer name.serial) in
        let n = named net w name Claimed P h in
        let answered : IsAnswered w n.place name.buffer name.serial = rw n.is_place at n.holds.1 in
        rw n.is_place (mark_each net labelled ranks clock w is each n.place name.buffer name.serial n.chunk n.is_chunk (λ c. record c { evidence = true })
        (record { tag = refl; entries = refl; staged = λ e. e; still = λ e. e })
        (λ keeps sure entry inside. inr (λ e. (let g = sym n.stage_is ∙ e in cc), inr (answered_on n.place n.chunk n.is_chunk answered keeps entry inside))))

    -- the first entries of a claimed chunk are stored
    pub stored_each : (P : Chunk → Type 0) (n : IsNamed net w name Claimed P) (those : List (List ℕ) → List (List ℕ)) → IsEach net ranks (with_stored net w name those)
    stored_each P n those = rw n.is_place (fuller_each net labelled ranks clock w is each n.place name.buffer (λ state. option_map_or (λ chunk. events_of chunk.tag (those chunk.entries)) (state.chunks name.serial) []))

    pub parted_each : (count : ℕ) → Allowed net w (step.Part name count) → IsEach net ranks (effect net w (step.Part name count))
    parted_each count h =
        let P : Chunk → Type 0 = λ chunk. IsSomeAnd (output_named net name) Stores × (count ≤ length chunk.entries) in
        stored_each P (named net w name Claimed P h) (take count)

  -- A chunk was stored whole, and is marked as delivered.
  pub evident_each : (name : ChunkName) (P : Chunk → Type 0) (n : IsNamed net w name Claimed P) → ((entry : List ℕ) → Contains n.chunk.entries entry → Contains (w.buffers n.place name.buffer).sink (event_of n.chunk.tag entry))
      → IsEach net ranks (with_named net w name (λ c. Some (record c { evidence = true })))
  evident_each name P n stored_there = rw n.is_place (mark_each net labelled ranks clock w is each n.place name.buffer name.serial n.chunk n.is_chunk (λ c. record c { evidence = true })
      (record { tag = refl; entries = refl; staged = λ e. e; still = λ e. e })
      (λ keeps sure entry inside. inr (λ e. (let g = sym n.stage_is ∙ e in cc), inl (stored_there entry inside))))

  -- ---- other steps

  pub oldest_each : (relay buffer : ℕ) → Allowed net w (step.Oldest relay buffer) → IsEach net ranks (effect net w (step.Oldest relay buffer))
  oldest_each relay buffer h =
      let p = some_and (place_of net relay) (λ place. IsSomeAnd (output_at net place buffer) DropsOldest × HasQueued (w.buffers place buffer)) h in
      rw p.1 (loose_each net labelled ranks clock w is each p.0 buffer without_oldest (λ keeps. both (output_at net p.0 buffer) Keeps DropsOldest keeps_oldest keeps p.2.0) refl)

  pub sent_each : (client : ℕ) (tag : List ℕ) (entries : _) → Allowed net w (step.Send client tag entries) → IsEach net ranks (effect net w (step.Send client tag entries))
  sent_each client tag entries h =
      let f = some_and (slice_get net.clients client) (λ found. HaveTag found.patterns.items tag) h in
      rw f.1 (pushed_each _ refl)

  pub begun_each : (number : ℕ) → Allowed net w (step.Begin number) → IsEach net ranks (effect net w (step.Begin number))
  begun_each number h =
      let m = some_and (slice_get w.messages number) (CanBegin net) h in
      let may = some_and (entrance net m.0.address) (λ at. (length (tag_of net m.0) ≤ most_tag_bytes) × ¬ HasLoop net at (tag_of net m.0) m.0.entries) m.2 in
      rw m.1 (rw may.1 (opened_each (record { message = number; entrance = may.0; tag = tag_of net m.0; appended = []; is_open = true }) refl))

  pub abandoned_each : (number : ℕ) → Allowed net w (step.Abandon number) → IsEach net ranks (effect net w (step.Abandon number))
  abandoned_each number h =
      let d = some_and (slice_get w.deliveries number) (λ d. d.is_open ≡ true) h in
      rw d.1 (ended_each number d.0 d.1)

-- Stores all entries of a claimed chunk, which is evidence.
module _ {A : Type 0} (net : Network A) (labelled : Labelling) (ranks : Ranking) (clock : ℕ) (w : World) (is : IsRanked net labelled ranks clock w) (each : IsEach net ranks w) (name : ChunkName) where
  written_at : (P : Chunk → Type 0) (place : ℕ) (chunk : Chunk) → place_of net name.relay ≡ Some place → (w.buffers place name.buffer).chunks name.serial ≡ Some chunk → chunk.stage ≡ Claimed → P chunk → IsEach net ranks (effect net w (step.Write name))
  written_at P place chunk is_place at claimed holds =
      let v = with_stored net w name (λ entries. entries) in
      let n : IsNamed net w name Claimed P = record { place = place; is_place = is_place; chunk = chunk; is_chunk = at; stage_is = claimed; holds = holds } in
      let fuller_state : BufferState → BufferState = λ state. record state { sink = state.sink ++ option_map_or (λ c. events_of c.tag c.entries) (state.chunks name.serial) [] } in
      let is_world : v ≡ with_buffer w place name.buffer fuller_state = rw is_place refl in
      let state_is : v.buffers place name.buffer ≡ fuller_state (w.buffers place name.buffer) = ap (λ (x : World). x.buffers place name.buffer) is_world ∙ state_here w place name.buffer fuller_state in
      let sink_is : (v.buffers place name.buffer).sink ≡ (w.buffers place name.buffer).sink ++ events_of chunk.tag chunk.entries =
      ap (λ (s : BufferState). s.sink) state_is ∙ ap (λ (o : Option Chunk). (w.buffers place name.buffer).sink ++ option_map_or (λ c. events_of c.tag c.entries) o []) at in
      let m : IsNamed net v name Claimed P = record { place = place; is_place = is_place; chunk = chunk; is_chunk = ap (λ (s : BufferState). s.chunks name.serial) state_is ∙ at; stage_is = claimed; holds = holds } in
      evident_each net labelled ranks clock v (stored net labelled ranks clock w is name P n (λ entries. entries)) (stored_each net labelled ranks clock w is each name P n (λ entries. entries)) name P m
      (λ entry inside. rw sink_is (Contains-append_right (w.buffers place name.buffer).sink (events_of chunk.tag chunk.entries) (event_of chunk.tag entry) (contains-map (λ e. event_of chunk.tag e) chunk.entries entry inside)))

  pub written_each : Allowed net w (step.Write name) → IsEach net ranks (effect net w (step.Write name))
  written_each h =
      let n = named net w name Claimed (λ _. IsSomeAnd (output_named net name) Stores) h in
      written_at (λ _. IsSomeAnd (output_named net name) Stores) n.place n.chunk n.is_place n.is_chunk n.stage_is n.holds

-- A copy of a chunk was sent to a server, if that is there.
sent_to_each : {A : Type 0} (net : Network A) (labelled : Labelling) (ranks : Ranking) (clock : ℕ) (v : World) → IsRanked net labelled ranks clock v → IsEach net ranks v → (place buffer serial : ℕ) (chunk : Chunk) (o : Option (Server A))
    → IsEach net ranks (record v { messages = forwarded_to v.messages (sender.Chunk place buffer serial) chunk o })
sent_to_each net labelled ranks clock v is each place buffer serial chunk None = each
sent_to_each net labelled ranks clock v is each place buffer serial chunk (Some server) = pushed_each net labelled ranks clock v is each _ refl

-- A copy of a claimed chunk is sent to a server of its output.
pub forwarded_each : {A : Type 0} (net : Network A) (labelled : Labelling) (ranks : Ranking) (clock : ℕ) (w : World) → IsRanked net labelled ranks clock w → IsEach net ranks w → (name : ChunkName) (server : ℕ) → Allowed net w (step.Forward name server) → IsEach net ranks (effect net w (step.Forward name server))
forwarded_each net labelled ranks clock w is each name server h =
    let n = named net w name Claimed (λ _. IsSomeAnd (output_named net name) (λ o. Forwards true o ⊎ Forwards false o)) h in
    let chunk = n.chunk in
    let known = is.chunks n.place name.buffer name.serial chunk n.is_chunk in
    let mark : Chunk → Chunk = λ c. record c { forwarded = true } in
    let like : IsLike chunk (mark chunk) = record { tag = refl; entries = refl; staged = λ e. e; still = λ e. e } in
    let marked_ranked = mark_ranked net labelled ranks clock w is n.place name.buffer name.serial chunk n.is_chunk mark like (λ keeps sure. known.evident keeps sure) in
    let marked_each = mark_each net labelled ranks clock w is each n.place name.buffer name.serial chunk n.is_chunk mark like (λ keeps sure entry inside. inl sure) in
    rw (n.is_place, n.is_chunk) (sent_to_each net labelled ranks clock _ marked_ranked marked_each n.place name.buffer name.serial chunk (option_and_then (λ o. slice_get (servers_of o) server) (output_at net n.place name.buffer)))

-- A relay starts again.
pub restarted_each : {A : Type 0} (net : Network A) (labelled : Labelling) (ranks : Ranking) (clock : ℕ) (w : World) → IsRanked net labelled ranks clock w → IsEach net ranks w → (relay : ℕ) → IsEach net ranks (effect net w (step.Restart relay))
restarted_each {A} net labelled ranks clock w is each relay = go (place_of net relay)
  where
    at_place : (place : ℕ) → IsEach net ranks (record w {
      buffers = λ p b. cond (p == place) (started_again (is_in_memory net p b) (w.buffers p b)) (w.buffers p b);
      deliveries = map (λ d. cond (d.entrance.relay == place) (ended d) d) w.deliveries;
    })
    at_place place =
        let v : World = record w { buffers = λ p b. cond (p == place) (started_again (is_in_memory net p b) (w.buffers p b)) (w.buffers p b) } in
        let stopped : IsRanked net labelled ranks clock v = again_ranked net labelled ranks clock w is v.buffers (λ p b. chosen_again (p == place) (is_in_memory net p b) (w.buffers p b)) in
        let still : IsEach net ranks v = again_each net labelled ranks clock w is each v.buffers (λ p b. chosen_again (p == place) (is_in_memory net p b) (w.buffers p b)) in
        deliveries_each net labelled ranks clock v stopped still (map (λ d. cond (d.entrance.relay == place) (ended d) d) w.deliveries)
        (λ k x there m is_m buffer inside. (let d = get-map (λ d. cond (d.entrance.relay == place) (ended d) d) w.deliveries x k there in
        inl (ended_or_not net labelled ranks clock v stopped still (d.0.entrance.relay == place) k d.0 d.1 x d.2 m is_m buffer inside)))

    go : (o : Option ℕ) → IsEach net ranks (option_map_or
        (λ place. record w {
          buffers = λ p b. cond (p == place) (started_again (is_in_memory net p b) (w.buffers p b)) (w.buffers p b);
          deliveries = map (λ d. cond (d.entrance.relay == place) (ended d) d) w.deliveries;
        }) o w)
    go None = each
    go (Some place) = at_place place
