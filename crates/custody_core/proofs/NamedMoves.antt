-- The steps on chunks that are named keep what is known of a network whose messages all lead to
-- outputs that keep.
use Rattle.std.proofs.Common.{◌≡◌, ◌≢◌, ℕ, ◌+◌, ◌≤◌, true, false, List, [], length, take, Option, Some, None, refl, sym, ◌∙◌, IsSomeAnd}
use Rattle.std.specs.Option.{option_and_then, option_map_or}
use Rattle.custody_store.specs.declared.chunk.Stage.{Stage}
use Rattle.custody_store.specs.declared.chunk.Stage.TheVariants.{Staged, Queued, Claimed}
use Rattle.custody_store.specs.Buffers.{Chunk, events_of}
use Rattle.custody_store.proofs.Members.{contains-get}
use Rattle.custody_store.specs.declared.sender.Sender.TheVariants as sender
use Rattle.relay_conf.specs.declared.output.Output.{Output}
use Rattle.relay_conf.specs.declared.output.Output.TheVariants as output
use Rattle.relay_net.specs.Network.{Network, place_of, output_at}
use Rattle.relay_net.specs.Outputs.{Keeps}
use Rattle.custody_steps.specs.World.{World}
use Rattle.custody_steps.specs.Rules.{Allowed, effect}
use Rattle.custody_steps.specs.Steps.{OfChunk, IsAnswered, Forwards, Stores, GivesUp, DropsOldest, with_named, with_stored, output_named}
use Rattle.step_lines.specs.declared.step.ChunkName.{ChunkName}
use Rattle.step_lines.specs.declared.step.Step.TheVariants as step
use Rattle.relay_net.specs.Routed.{SendsTo, Follows}
use Rattle.custody_store.proofs.Lists.{some_and}
use Rattle.custody_core.proofs.Borne.{borne_onward, borne_on}
use Rattle.custody_core.proofs.Safe.{Ranking, KeepsAt}
use Rattle.custody_core.proofs.Ranked.{Labelling, AreSafeOnward, IsRanked}
use Rattle.custody_core.proofs.Going.{IsLike}
use Rattle.custody_core.proofs.ChunkMoves.{mark_ranked, gone_ranked}
use Rattle.custody_core.proofs.QueueMoves.{IsDue, queue_ranked}
use Rattle.custody_core.proofs.SinkMoves.{fuller_ranked}

-- a live chunk of this name, at this stage, of which P holds
pub record IsNamed {A : Type 0} (net : Network A) (w : World) (name : ChunkName) (stage : Stage) (P : Chunk → Type 0) : Type 0 where
  pub place : ℕ
  pub is_place : place_of net name.relay ≡ Some place
  pub chunk : Chunk
  pub is_chunk : (w.buffers place name.buffer).chunks name.serial ≡ Some chunk
  pub stage_is : chunk.stage ≡ stage
  pub holds : P chunk

named_at : {A : Type 0} (net : Network A) (w : World) (name : ChunkName) (stage : Stage) (P : Chunk → Type 0) (o : Option ℕ) → place_of net name.relay ≡ o
    → IsSomeAnd (option_and_then (λ place. (w.buffers place name.buffer).chunks name.serial) o) (λ chunk. (chunk.stage ≡ stage) × P chunk) → IsNamed net w name stage P
named_at net w name level P None at h = absurd h
named_at net w name level P (Some place) at h =
    let c = some_and ((w.buffers place name.buffer).chunks name.serial) (λ chunk. (chunk.stage ≡ level) × P chunk) h in
    record { place = place; is_place = at; chunk = c.0; is_chunk = c.1; stage_is = c.2.0; holds = c.2.1 }

pub named : {A : Type 0} (net : Network A) (w : World) (name : ChunkName) (stage : Stage) (P : Chunk → Type 0) → OfChunk net w name stage P → IsNamed net w name stage P
named net w name level P h = named_at net w name level P (place_of net name.relay) refl h

-- What an output that keeps never does.

pub keeps_asks : {A : Type 0} (o : Output A) → Keeps o → Forwards false o → ⊥
keeps_asks (output.Null line) keeps forwards = keeps
keeps_asks (output.Relabel target line) keeps forwards = keeps
keeps_asks (output.Forward settings line) keeps forwards = let g = sym keeps.1 ∙ forwards in cc
keeps_asks (output.File settings line) keeps forwards = forwards

pub keeps_for_ever : {A : Type 0} (o : Output A) → Keeps o → GivesUp o → ⊥
keeps_for_ever (output.Null line) keeps up = keeps
keeps_for_ever (output.Relabel target line) keeps up = keeps
keeps_for_ever (output.Forward settings line) keeps up = let g = sym keeps.0.for_ever ∙ up in cc
keeps_for_ever (output.File settings line) keeps up = let g = sym keeps.for_ever ∙ up in cc

pub keeps_oldest : {A : Type 0} (o : Output A) → Keeps o → DropsOldest o → ⊥
keeps_oldest (output.Null line) keeps drops = keeps
keeps_oldest (output.Relabel target line) keeps drops = keeps
keeps_oldest (output.Forward settings line) keeps drops = let g = sym keeps.0.refuses ∙ drops in cc
keeps_oldest (output.File settings line) keeps drops = let g = sym keeps.refuses ∙ drops in cc

-- what two facts say of one output
pub both : {X : Type 0} (o : Option X) (P Q : X → Type 0) → ((x : X) → P x → Q x → ⊥) → IsSomeAnd o P → IsSomeAnd o Q → ⊥
both None P Q never p q = p
both (Some x) P Q never p q = never x p q

module _ {A : Type 0} (net : Network A) (labelled : Labelling) (ranks : Ranking) (clock : ℕ) (w : World) (is : IsRanked net labelled ranks clock w) (name : ChunkName) where
  -- the chunk is marked
  pub marks : (stage : Stage) (P : Chunk → Type 0) (n : IsNamed net w name stage P) (mark : Chunk → Chunk) → IsLike n.chunk (mark n.chunk)
      → (KeepsAt net n.place name.buffer → (mark n.chunk).evidence ≡ true → ((mark n.chunk).stage ≢ Staged) × AreSafeOnward net ranks clock w.buffers (ranks n.place name.buffer name.serial + 1) n.place name.buffer n.chunk.tag n.chunk.entries)
      → IsRanked net labelled ranks clock (with_named net w name (λ c. Some (mark c)))
  marks level P n mark like evident = rw n.is_place (mark_ranked net labelled ranks clock w is n.place name.buffer name.serial n.chunk n.is_chunk mark like evident)

  -- the evidence of a chunk that has it stays true
  pub evident_still : (stage : Stage) (P : Chunk → Type 0) (n : IsNamed net w name stage P) → KeepsAt net n.place name.buffer → n.chunk.evidence ≡ true
      → (n.chunk.stage ≢ Staged) × AreSafeOnward net ranks clock w.buffers (ranks n.place name.buffer name.serial + 1) n.place name.buffer n.chunk.tag n.chunk.entries
  evident_still level P n keeps evident = (is.chunks n.place name.buffer name.serial n.chunk n.is_chunk).evident keeps evident

  -- a queued or claimed chunk is claimed or queued
  restaged : (from to : Stage) → from ≢ Staged → to ≢ Staged → OfChunk net w name from (λ _. Unit {0}) → IsRanked net labelled ranks clock (with_named net w name (λ chunk. Some (record chunk { stage = to })))
  restaged from to from_not to_not h =
      let n = named net w name from (λ _. Unit {0}) h in
      marks from (λ _. Unit {0}) n (λ c. record c { stage = to })
      (record { tag = refl; entries = refl; staged = λ e. absurd (to_not e); still = λ e. absurd (from_not (sym n.stage_is ∙ e)) })
      (λ keeps yes. (to_not, (evident_still from (λ _. Unit {0}) n keeps yes).1))

  pub claimed : Allowed net w (step.Claim name) → IsRanked net labelled ranks clock (effect net w (step.Claim name))
  claimed h = restaged Queued Claimed (λ e. cc) (λ e. cc) h

  pub given_back : Allowed net w (step.Back name) → IsRanked net labelled ranks clock (effect net w (step.Back name))
  given_back h = restaged Claimed Queued (λ e. cc) (λ e. cc) h

  -- the time is the rank of a staged chunk that is queued
  pub enqueued : Allowed net w (step.Enqueue name) → ((place : ℕ) → place_of net name.relay ≡ Some place → IsDue net ranks clock place name.buffer name.serial) → IsRanked net labelled ranks (clock + 1) (effect net w (step.Enqueue name))
  enqueued h due =
      let n = named net w name Staged (λ _. Unit {0}) h in
      rw n.is_place (queue_ranked net labelled ranks clock w is n.place name.buffer name.serial n.chunk n.is_chunk n.stage_is (due n.place n.is_place))

  -- a claimed chunk goes that is of no buffer that keeps, or has evidence
  goes : (P : Chunk → Type 0) (n : IsNamed net w name Claimed P) → (KeepsAt net n.place name.buffer → n.chunk.evidence ≡ true) → IsRanked net labelled ranks clock (with_named net w name (λ c. None))
  goes P n delivered = rw n.is_place (gone_ranked net labelled ranks clock w is n.place name.buffer name.serial n.chunk n.is_chunk (λ keeps. evident_still Claimed P n keeps (delivered keeps)))

  pub purged : Allowed net w (step.Purge name) → IsRanked net labelled ranks clock (effect net w (step.Purge name))
  purged h = let n = named net w name Claimed (λ chunk. chunk.evidence ≡ true) h in goes (λ chunk. chunk.evidence ≡ true) n (λ keeps. n.holds)

  -- what is asked of the output of a named chunk is asked of the output of its buffer
  pub output_is : (P : Chunk → Type 0) (n : IsNamed net w name Claimed P) (Q : Output A → Type 0) → IsSomeAnd (output_named net name) Q → IsSomeAnd (output_at net n.place name.buffer) Q
  output_is P n Q h = rw n.is_place at h

  pub done : Allowed net w (step.Done name) → IsRanked net labelled ranks clock (effect net w (step.Done name))
  done h =
      let P : Chunk → Type 0 = λ chunk. IsSomeAnd (output_named net name) (Forwards false) × (chunk.forwarded ≡ true) in
      let n = named net w name Claimed P h in
      goes P n (λ keeps. absurd (both (output_at net n.place name.buffer) Keeps (Forwards false) keeps_asks keeps (output_is P n (Forwards false) n.holds.0)))

  pub discarded : Allowed net w (step.Discard name) → IsRanked net labelled ranks clock (effect net w (step.Discard name))
  discarded h =
      let P : Chunk → Type 0 = λ _. IsSomeAnd (output_named net name) GivesUp in
      let n = named net w name Claimed P h in
      goes P n (λ keeps. absurd (both (output_at net n.place name.buffer) Keeps GivesUp keeps_for_ever keeps (output_is P n GivesUp n.holds)))

  -- An acknowledgement of the chunk was given: its events are safe where the buffer keeps.
  answered_safe : (place : ℕ) (chunk : Chunk) → (w.buffers place name.buffer).chunks name.serial ≡ Some chunk → IsAnswered w place name.buffer name.serial → KeepsAt net place name.buffer
      → AreSafeOnward net ranks clock w.buffers (ranks place name.buffer name.serial + 1) place name.buffer chunk.tag chunk.entries
  answered_safe place chunk at any keeps origin borne inside =
      let m = contains-get w.messages any.1 (any.0, any.2, any.3) in
      let known = is.messages m.0 any.1 m.1 in
      let from : any.1.sender ≡ sender.Chunk place name.buffer name.serial = any.4.0 in
      let id = rw from at known.id in
      let same = (id keeps).same chunk at in
      let passed = rw from at (known.answered any.4.1) in
      let sends : SendsTo net place name.buffer any.1.address = rw from at known.from in
      let later = passed keeps origin.entry (rw (← same.2) inside) in
      let follows : Follows net origin.address origin.tag any.1.address any.1.tag =
      rw (← same.1) (borne_onward net origin.address origin.tag place name.buffer chunk.tag any.1.address borne sends) in
      record {
        place = later.place;
        buffer = later.buffer;
        tag = later.tag;
        borne = borne_on net origin.address origin.tag any.1.address any.1.tag later.place later.buffer later.tag follows later.borne;
        held = later.held;
      }

  pub seen : Allowed net w (step.Seen name) → IsRanked net labelled ranks clock (effect net w (step.Seen name))
  seen h =
      let P : Chunk → Type 0 = λ _. IsSomeAnd (output_named net name) (Forwards true) × IsSomeAnd (place_of net name.relay) (λ place. IsAnswered w place name.buffer name.serial) in
      let n = named net w name Claimed P h in
      let answered : IsAnswered w n.place name.buffer name.serial = rw n.is_place at n.holds.1 in
      marks Claimed P n (λ c. record c { evidence = true })
      (record { tag = refl; entries = refl; staged = λ e. e; still = λ e. e })
      (λ keeps yes. (λ e. (let g = sym n.stage_is ∙ e in cc), answered_safe n.place n.chunk n.is_chunk answered keeps))

  -- the first entries of a claimed chunk are stored
  pub stored : (P : Chunk → Type 0) (n : IsNamed net w name Claimed P) (those : List (List ℕ) → List (List ℕ)) → IsRanked net labelled ranks clock (with_stored net w name those)
  stored P n those = rw n.is_place (fuller_ranked net labelled ranks clock w is n.place name.buffer (λ state. option_map_or (λ chunk. events_of chunk.tag (those chunk.entries)) (state.chunks name.serial) []))

  pub parted : (count : ℕ) → Allowed net w (step.Part name count) → IsRanked net labelled ranks clock (effect net w (step.Part name count))
  parted count h =
      let P : Chunk → Type 0 = λ chunk. IsSomeAnd (output_named net name) Stores × (count ≤ length chunk.entries) in
      stored P (named net w name Claimed P h) (take count)
