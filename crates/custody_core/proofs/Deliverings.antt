-- The steps that deliver a chunk's events, and a relay's stops, keep what is known of a network
-- whose messages all lead to outputs that keep.
use Rattle.std.proofs.Common.{◌≡◌, ◌≢◌, ℕ, ◌==◌, Bool, true, false, cond, [], ◌++◌, map, Option, Some, None, slice_get, refl, sym, ap, ◌∙◌, ◌⊎◌, inl, IsSomeAnd}
use Rattle.std.proofs.lemmas.Bool.{eq-eqb}
use Rattle.std.proofs.lemmas.Option.{same_Some}
use Rattle.std.proofs.lemmas.List.Elements.{Contains-append_right}
use Rattle.std.specs.Option.{option_and_then, option_map_or}
use Rattle.custody_store.specs.declared.chunk.Stage.TheVariants.{Staged, Claimed}
use Rattle.custody_store.specs.Buffers.{Chunk, BufferState, events_of, started_again}
use Rattle.custody_store.proofs.Members.{get-contains}
use Rattle.custody_store.specs.Book.{Delivery, ended}
use Rattle.custody_store.specs.declared.sender.Sender.TheVariants as sender
use Rattle.relay_conf.specs.declared.output.Output.{Output}
use Rattle.relay_conf.specs.declared.output.Server.{Server}
use Rattle.relay_net.specs.Network.{Network, place_of, output_at, address_of_server, is_in_memory}
use Rattle.relay_net.specs.Outputs.{Keeps, servers_of}
use Rattle.custody_steps.specs.World.{World, with_buffer}
use Rattle.custody_steps.specs.Rules.{Allowed, effect}
use Rattle.custody_steps.specs.Steps.{Forwards, Stores, DropsOldest, HasQueued, with_stored, forwarded_to, output_named}
use Rattle.step_lines.specs.declared.step.ChunkName.{ChunkName}
use Rattle.step_lines.specs.declared.step.Step.TheVariants as step
use Rattle.custody_store.proofs.Lists.{some_and}
use Rattle.loss_rules.proofs.Members.{contains-map}
use Rattle.custody_core.proofs.Serials.{event_of}
use Rattle.relay_net.specs.Routed.{SendsTo}
use Rattle.relay_net.proofs.Sending.{sends_by}
use Rattle.custody_core.proofs.Lists.{get-map}
use Rattle.custody_core.proofs.Safe.{Ranking, KeepsAt}
use Rattle.custody_core.proofs.Ranked.{Labelling, IsTaken, IsKnownDelivery, IsIdOf, IsRanked}
use Rattle.custody_core.proofs.Going.{IsLike}
use Rattle.custody_core.proofs.ChunkMoves.{given, mark_goes, mark_ranked}
use Rattle.custody_core.proofs.NamedMoves.{IsNamed, named, both, keeps_oldest, stored, marks}
use Rattle.custody_core.proofs.SinkMoves.{oldest_ranked, IsAgain, as_before, again, again_ranked}
use Rattle.custody_core.proofs.Sendings.{deliveries_ranked, pushed_ranked, ended_known}

-- a buffer of the relay that stopped, or of another
pub chosen_again : (b memory : Bool) (state : BufferState) → IsAgain state memory (cond b (started_again memory state) state)
chosen_again true memory state = again
chosen_again false memory state = as_before

module _ {A : Type 0} (net : Network A) (labelled : Labelling) (ranks : Ranking) (clock : ℕ) (w : World) (is : IsRanked net labelled ranks clock w) where
  pub oldest_gone : (relay buffer : ℕ) → Allowed net w (step.Oldest relay buffer) → IsRanked net labelled ranks clock (effect net w (step.Oldest relay buffer))
  oldest_gone relay buffer h =
      let p = some_and (place_of net relay) (λ place. IsSomeAnd (output_at net place buffer) DropsOldest × HasQueued (w.buffers place buffer)) h in
      rw p.1 (oldest_ranked net labelled ranks clock w is p.0 buffer (λ keeps. both (output_at net p.0 buffer) Keeps DropsOldest keeps_oldest keeps p.2.0))

  ended_or_not : (v : World) (b : Bool) (d : Delivery) → IsKnownDelivery net ranks clock v.buffers labelled v.messages d → IsKnownDelivery net ranks clock v.buffers labelled v.messages (cond b (ended d) d)
  ended_or_not v true d known = ended_known net labelled ranks clock v d known
  ended_or_not v false d known = known

  restarted_at : (place : ℕ) → IsRanked net labelled ranks clock (record w {
    buffers = λ p b. cond (p == place) (started_again (is_in_memory net p b) (w.buffers p b)) (w.buffers p b);
    deliveries = map (λ d. cond (d.entrance.relay == place) (ended d) d) w.deliveries;
  })
  restarted_at place =
      let v : World = record w { buffers = λ p b. cond (p == place) (started_again (is_in_memory net p b) (w.buffers p b)) (w.buffers p b) } in
      let stopped : IsRanked net labelled ranks clock v = again_ranked net labelled ranks clock w is v.buffers (λ p b. chosen_again (p == place) (is_in_memory net p b) (w.buffers p b)) in
      deliveries_ranked net labelled ranks clock v stopped _ (λ k x there. (let d = get-map (λ d. cond (d.entrance.relay == place) (ended d) d) w.deliveries x k there in
      rw d.2 (ended_or_not v (d.0.entrance.relay == place) d.0 (stopped.deliveries k d.0 d.1))))

  pub restarted : (relay : ℕ) → IsRanked net labelled ranks clock (effect net w (step.Restart relay))
  restarted relay = go (place_of net relay)
    where
      go : (o : Option ℕ) → IsRanked net labelled ranks clock (option_map_or
          (λ place. record w {
            buffers = λ p b. cond (p == place) (started_again (is_in_memory net p b) (w.buffers p b)) (w.buffers p b);
            deliveries = map (λ d. cond (d.entrance.relay == place) (ended d) d) w.deliveries;
          }) o w)
      go None = is
      go (Some place) = restarted_at place

pub state_here : (w : World) (place buffer : ℕ) (change : BufferState → BufferState) → (with_buffer w place buffer change).buffers place buffer ≡ change (w.buffers place buffer)
state_here w place buffer change = rw (eq-eqb place place refl, eq-eqb buffer buffer refl) refl

written_at : {A : Type 0} (net : Network A) (labelled : Labelling) (ranks : Ranking) (clock : ℕ) (w : World) → IsRanked net labelled ranks clock w → (name : ChunkName) (P : Chunk → Type 0) (place : ℕ) (chunk : Chunk)
    → place_of net name.relay ≡ Some place → (w.buffers place name.buffer).chunks name.serial ≡ Some chunk → chunk.stage ≡ Claimed → P chunk → IsRanked net labelled ranks clock (effect net w (step.Write name))
written_at net labelled ranks clock w is name P place chunk is_place at claimed holds =
    let v = with_stored net w name (λ entries. entries) in
    let n : IsNamed net w name Claimed P = record { place = place; is_place = is_place; chunk = chunk; is_chunk = at; stage_is = claimed; holds = holds } in
    let fuller : BufferState → BufferState = λ state. record state { sink = state.sink ++ option_map_or (λ c. events_of c.tag c.entries) (state.chunks name.serial) [] } in
    let is_world : v ≡ with_buffer w place name.buffer fuller = rw is_place refl in
    let state_is : v.buffers place name.buffer ≡ fuller (w.buffers place name.buffer) = ap (λ (x : World). x.buffers place name.buffer) is_world ∙ state_here w place name.buffer fuller in
    let sink_is : (v.buffers place name.buffer).sink ≡ (w.buffers place name.buffer).sink ++ events_of chunk.tag chunk.entries =
    ap (λ (s : BufferState). s.sink) state_is ∙ ap (λ (o : Option Chunk). (w.buffers place name.buffer).sink ++ option_map_or (λ c. events_of c.tag c.entries) o []) at in
    let m : IsNamed net v name Claimed P = record { place = place; is_place = is_place; chunk = chunk; is_chunk = ap (λ (s : BufferState). s.chunks name.serial) state_is ∙ at; stage_is = claimed; holds = holds } in
    marks net labelled ranks clock v (stored net labelled ranks clock w is name P n (λ entries. entries)) name Claimed P m (λ c. record c { evidence = true })
    (record { tag = refl; entries = refl; staged = λ e. e; still = λ e. e })
    (λ keeps yes. (
      λ e. (let g : Claimed ≡ Staged = sym claimed ∙ e in cc),
      λ origin borne inside. record {
        place = place;
        buffer = name.buffer;
        tag = chunk.tag;
        borne = borne;
        held = inl (rw sink_is (Contains-append_right (w.buffers place name.buffer).sink (events_of chunk.tag chunk.entries) (event_of chunk.tag origin.entry) (contains-map (λ e. event_of chunk.tag e) chunk.entries origin.entry inside)));
      },
    ))

-- All entries of a claimed chunk are stored, which is evidence.
pub written : {A : Type 0} (net : Network A) (labelled : Labelling) (ranks : Ranking) (clock : ℕ) (w : World) → IsRanked net labelled ranks clock w → (name : ChunkName) → Allowed net w (step.Write name) → IsRanked net labelled ranks clock (effect net w (step.Write name))
written net labelled ranks clock w is name h =
    let n = named net w name Claimed (λ _. IsSomeAnd (output_named net name) Stores) h in
    written_at net labelled ranks clock w is name (λ _. IsSomeAnd (output_named net name) Stores) n.place n.chunk n.is_place n.is_chunk n.stage_is n.holds

-- A copy of a chunk was sent to a server, if that is there.
sent_to : {A : Type 0} (net : Network A) (labelled : Labelling) (ranks : Ranking) (clock : ℕ) (v : World) → IsRanked net labelled ranks clock v → (place buffer serial : ℕ) (chunk : Chunk) (o : Option (Server A))
    → ((server : Server A) → o ≡ Some server → IsTaken net labelled (address_of_server server) chunk.tag × SendsTo net place buffer (address_of_server server))
    → (KeepsAt net place buffer → IsIdOf (ranks place buffer) clock (v.buffers place buffer) serial chunk.tag chunk.entries)
    → IsRanked net labelled ranks clock (record v { messages = forwarded_to v.messages (sender.Chunk place buffer serial) chunk o })
sent_to net labelled ranks clock v is place buffer serial chunk None taken id = is
sent_to net labelled ranks clock v is place buffer serial chunk (Some server) taken id = pushed_ranked net labelled ranks clock v is _ (record { taken = (taken server refl).0; from = (taken server refl).1; id = id; answered = λ yes. absurd (cc) })

pub server_of : {A : Type 0} (o : Option (Output A)) (number : ℕ) (server : Server A) → option_and_then (λ found. slice_get (servers_of found) number) o ≡ Some server → (found : Output A) × (o ≡ Some found) × (slice_get (servers_of found) number ≡ Some server)
server_of None number server e = absurd (cc)
server_of (Some found) number server e = (found, refl, e)

-- A copy of a claimed chunk is sent to a server of its output.
pub forwarded : {A : Type 0} (net : Network A) (labelled : Labelling) (ranks : Ranking) (clock : ℕ) (w : World) → IsRanked net labelled ranks clock w → (name : ChunkName) (server : ℕ) → Allowed net w (step.Forward name server) → IsRanked net labelled ranks clock (effect net w (step.Forward name server))
forwarded net labelled ranks clock w is name server h =
    let n = named net w name Claimed (λ _. IsSomeAnd (output_named net name) (λ o. Forwards true o ⊎ Forwards false o)) h in
    let chunk = n.chunk in
    let known = is.chunks n.place name.buffer name.serial chunk n.is_chunk in
    let mark : Chunk → Chunk = λ c. record c { forwarded = true } in
    let like : IsLike chunk (mark chunk) = record { tag = refl; entries = refl; staged = λ e. e; still = λ e. e } in
    let not_staged : chunk.stage ≢ Staged = λ e. (let g : Claimed ≡ Staged = sym n.stage_is ∙ e in cc) in
    let id : KeepsAt net n.place name.buffer → IsIdOf (ranks n.place name.buffer) clock (w.buffers n.place name.buffer) name.serial chunk.tag chunk.entries = λ keeps. record {
      ranked = known.ranked keeps not_staged;
      given = given net labelled ranks clock w is n.place name.buffer name.serial chunk n.is_chunk;
      same = λ other at. (let e = same_Some chunk other (sym n.is_chunk ∙ at) in rw (← e) (not_staged, refl, refl));
    } in
    let moved = mark_goes net labelled ranks clock w is n.place name.buffer name.serial chunk n.is_chunk mark like in
    let marked = mark_ranked net labelled ranks clock w is n.place name.buffer name.serial chunk n.is_chunk mark like (λ keeps yes. known.evident keeps yes) in
    rw (n.is_place, n.is_chunk) (sent_to net labelled ranks clock _ marked n.place name.buffer name.serial chunk (option_and_then (λ o. slice_get (servers_of o) server) (output_at net n.place name.buffer))
    (λ found e. (let s = server_of (output_at net n.place name.buffer) server found e in (
      known.sent_on s.0 s.1 server found s.2,
      sends_by net n.place name.buffer s.0 s.1 found (get-contains (servers_of s.0) found server s.2),
    )))
    (λ keeps. (moved.ids n.place name.buffer keeps name.serial chunk.tag chunk.entries (id keeps)).0))
