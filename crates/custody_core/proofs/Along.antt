-- Events that are kept along a branch above a rank: in a sink, in a chunk which ranks so high, or
-- by all to which a chunk that ranks so high was passed on.
use Rattle.std.proofs.Common.{◌≡◌, ℕ, ◌+◌, ◌<◌, ◌≤◌, true, List, Some, slice_get, sym, subst, inl, inr, arith, Contains}
use Rattle.custody_store.specs.Buffers.{Event, IsInChunk}
use Rattle.custody_store.proofs.Members.{get-contains}
use Rattle.custody_store.specs.Book.{Message}
use Rattle.custody_store.specs.declared.sender.Sender.TheVariants as sender
use Rattle.relay_net.specs.Addresses.{Address}
use Rattle.relay_net.specs.Network.{Network}
use Rattle.custody_store.specs.Branches.{Reaches, KeepsAlong, has, passed, EachKeeps}
use Rattle.custody_core.proofs.Serials.{event_of, and_some}
use Rattle.custody_core.proofs.Safe.{Buffers, Ranking, KeepsAt, IsHeldFrom, lower}

-- The message of this number was sent from the chunk with this id, with the entry under this tag,
-- and acknowledged.
pub record IsPassedFrom (messages : List Message) (entry : List ℕ) (place buffer serial : ℕ) (tag : List ℕ) (number : ℕ) (message : Message) : Type 0 where
  pub there : slice_get messages number ≡ Some message
  pub from : message.sender ≡ sender.Chunk place buffer serial
  pub tag_is : message.tag ≡ tag
  pub inside : Contains message.entries entry
  pub answered : message.acknowledged ≡ true

pub data KeepsFrom {A : Type 0} (net : Network A) (ranks : Ranking) (buffers : Buffers) (messages : List Message) (entry : List ℕ) : ℕ → ℕ → ℕ → List ℕ → Type 0 where
  in_sink : {rank place buffer : ℕ} {tag : List ℕ} → Contains (buffers place buffer).sink (event_of tag entry) → KeepsFrom net ranks buffers messages entry rank place buffer tag
  in_chunk : {rank place buffer : ℕ} {tag : List ℕ} → KeepsAt net place buffer → IsHeldFrom (ranks place buffer) rank (buffers place buffer) (event_of tag entry) → KeepsFrom net ranks buffers messages entry rank place buffer tag
  went_on : {rank place buffer : ℕ} {tag : List ℕ} (serial number : ℕ) (message : Message) → KeepsAt net place buffer → rank ≤ ranks place buffer serial → IsPassedFrom messages entry place buffer serial tag number message
      → (p b : ℕ) (t : List ℕ) → Reaches net message.address message.tag p b t
      → ((p b : ℕ) (t : List ℕ) → Reaches net message.address message.tag p b t → KeepsFrom net ranks buffers messages entry (ranks place buffer serial + 1) p b t)
      → KeepsFrom net ranks buffers messages entry rank place buffer tag

-- An event of such a message comes to a buffer, and each buffer that it comes to keeps it above the
-- rank.
pub record EachFrom {A : Type 0} (net : Network A) (ranks : Ranking) (buffers : Buffers) (messages : List Message) (rank : ℕ) (address : Address) (tag entry : List ℕ) : Type 0 where
  pub place : ℕ
  pub buffer : ℕ
  pub borne : List ℕ
  pub leaf : Reaches net address tag place buffer borne
  pub each : (p b : ℕ) (t : List ℕ) → Reaches net address tag p b t → KeepsFrom net ranks buffers messages entry rank p b t

module _ {A : Type 0} (net : Network A) (ranks : Ranking) (buffers : Buffers) (messages : List Message) (entry : List ℕ) where
  -- what is kept above a rank is kept
  pub along : {rank place buffer : ℕ} {tag : List ℕ} → KeepsFrom net ranks buffers messages entry rank place buffer tag → KeepsAlong net buffers messages entry place buffer tag
  along (in_sink stored) = has (inr stored)
  along {rank} {place} {buffer} {tag} (in_chunk keeps held) = has (inl (held.serial, and_some _ (λ c. IsInChunk c (event_of tag entry)) held.chunk held.there held.inside))
  along {rank} {place} {buffer} {tag} (went_on serial number message keeps high on p b t first each) =
      passed message (get-contains messages message number on.there)
      (record { from = (serial, on.from); tag_is = on.tag_is; inside = on.inside; answered = on.answered })
      p b t first (λ q c s r. along (each q c s r))

  -- and above each lesser one
  pub lesser : {rank place buffer : ℕ} {tag : List ℕ} (less : ℕ) → less ≤ rank → KeepsFrom net ranks buffers messages entry rank place buffer tag → KeepsFrom net ranks buffers messages entry less place buffer tag
  lesser less le (in_sink stored) = in_sink stored
  lesser {rank} {place} {buffer} less le (in_chunk keeps held) =
      in_chunk keeps (record { serial = held.serial; chunk = held.chunk; there = held.there; inside = held.inside; ranked = lower held.chunk.stage (ranks place buffer held.serial) rank less le held.ranked })
  lesser less le (went_on serial number message keeps high on p b t first each) = went_on serial number message keeps (omega (arith, le, high)) on p b t first each

  pub each_along : (rank : ℕ) (address : Address) (tag : List ℕ) → EachFrom net ranks buffers messages rank address tag entry → EachKeeps net buffers messages address tag entry
  each_along rank address tag e = record { place = e.place; buffer = e.buffer; borne = e.borne; leaf = e.leaf; each = λ p b t r. along (e.each p b t r) }

-- ---- changes

-- An acknowledged message stays what it is.
abbrev pub AnsweredStay : List Message → List Message → Type 0
AnsweredStay old new = (number : ℕ) (message : Message) → slice_get old number ≡ Some message → message.acknowledged ≡ true → slice_get new number ≡ Some message

-- The ids of messages from buffers that keep have ranks below the time, and keep them.
abbrev pub RanksStay : {A : Type 0} → Network A → Ranking → Ranking → ℕ → List Message → Type 0
RanksStay net ranks later clock messages = (number : ℕ) (message : Message) (p b s : ℕ) → slice_get messages number ≡ Some message → message.sender ≡ sender.Chunk p b s → KeepsAt net p b → (later p b s ≡ ranks p b s) × (ranks p b s < clock)

-- Buffers, messages and ranks changed: what was held above a rank, between these two, is kept so.
pub record Moves {A : Type 0} (net : Network A) (ranks later : Ranking) (least clock : ℕ) (old new : Buffers) (messages now : List Message) : Type 0 where
  pub sinks : (p b : ℕ) (event : Event) → Contains (old p b).sink event → Contains (new p b).sink event
  pub held : (entry : List ℕ) (rank : ℕ) → least ≤ rank → rank ≤ clock → (p b : ℕ) (tag : List ℕ) → KeepsAt net p b → IsHeldFrom (ranks p b) rank (old p b) (event_of tag entry) → KeepsFrom net later new now entry rank p b tag
  pub stay : AnsweredStay messages now
  pub ids : RanksStay net ranks later clock messages

module _ {A : Type 0} (net : Network A) (ranks later : Ranking) (least clock : ℕ) (old new : Buffers) (messages now : List Message) (moves : Moves net ranks later least clock old new messages now) where
  pub moved : {entry : List ℕ} {rank place buffer : ℕ} {tag : List ℕ} → least ≤ rank → rank ≤ clock → KeepsFrom net ranks old messages entry rank place buffer tag → KeepsFrom net later new now entry rank place buffer tag
  moved {entry} {rank} {place} {buffer} {tag} low high (in_sink stored) = in_sink (moves.sinks place buffer (event_of tag entry) stored)
  moved {entry} {rank} {place} {buffer} {tag} low high (in_chunk keeps held) = moves.held entry rank low high place buffer tag keeps held
  moved {entry} {rank} {place} {buffer} {tag} low high (went_on serial number message keeps above on p b t first each) =
      let same = moves.ids number message place buffer serial on.there on.from keeps in
      let before = same.1 in
      went_on serial number message keeps (let e = same.0 in omega (arith, e, above))
      (record { there = moves.stay number message on.there on.answered; from = on.from; tag_is = on.tag_is; inside = on.inside; answered = on.answered })
      p b t first
      (λ q c s r. subst (λ n. KeepsFrom net later new now entry (n + 1) q c s) (sym same.0) (moved (omega (arith, low, above)) (omega (arith, before)) (each q c s r)))

  pub each_moved : (rank : ℕ) (address : Address) (tag entry : List ℕ) → least ≤ rank → rank ≤ clock → EachFrom net ranks old messages rank address tag entry → EachFrom net later new now rank address tag entry
  each_moved rank address tag entry low high e = record { place = e.place; buffer = e.buffer; borne = e.borne; leaf = e.leaf; each = λ p b t r. moved low high (e.each p b t r) }
