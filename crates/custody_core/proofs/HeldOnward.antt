-- From the ranks that every run keeps to how what was acknowledged is held.
use Rattle.std.proofs.Common.{◌≡◌, ◌≢◌, ℕ, ◌+◌, ◌<◌, ◌≤◌, List, length, Some, slice_get, refl, ◌⊎◌, inl, inr, arith, Contains}
use Rattle.custody_store.specs.declared.chunk.Stage.{Stage}
use Rattle.custody_store.specs.declared.chunk.Stage.TheVariants.{Staged, Queued, Claimed}
use Rattle.custody_store.specs.Buffers.{Chunk}
use Rattle.custody_store.specs.Book.{Message}
use Rattle.custody_store.specs.declared.sender.Sender.{Sender}
use Rattle.custody_store.specs.declared.sender.Sender.TheVariants as sender
use Rattle.relay_net.specs.Network.{Network, address_of_client}
use Rattle.custody_steps.specs.Steps.{Steps}
use Rattle.custody_steps.specs.World.{World, initial_world}
use Rattle.step_lines.specs.declared.step.Step.{Step}
use Rattle.custody_store.proofs.Lists.{some_and}
use Rattle.custody_core.specs.Onward.{KeepsAt, Hands, IsRank, IsHeldFrom, AreHeldOnward, IsLeastAfter}
use Rattle.custody_core.proofs.Borne.{Origin, borne_routed}
use Rattle.custody_core.proofs.EveryNetwork.{all_kept}
use Rattle.custody_core.proofs.Ranked.{Labelling, LeadOn, IsRanked, HasId, AreSafe, ArePassedOn, rank_of}
use Rattle.custody_core.proofs.Safe.{IsSafe, Ranking}
use Rattle.custody_core.proofs.Serials.{and_some}
use Rattle.custody_core.proofs.Timing.{rank_in, rank_so}

module _ {A : Type 0} (net : Network A) (labelled : Labelling) (steps : List (Step A)) (w : World) (is : IsRanked net labelled (rank_in net steps) (length steps) w) where
  abbrev ranks : Ranking
  ranks = rank_in net steps

  -- a live chunk of a buffer that keeps is staged, or was queued
  staged_or_not : (level : Stage) → (level ≡ Staged) ⊎ (level ≢ Staged)
  staged_or_not Staged = inl refl
  staged_or_not Queued = inr (λ e. cc)
  staged_or_not Claimed = inr (λ e. cc)

  chunk_rank : (place buffer serial : ℕ) (chunk : Chunk) → KeepsAt net place buffer → (w.buffers place buffer).chunks serial ≡ Some chunk → (chunk.stage ≡ Staged) ⊎ IsRank net steps place buffer serial (ranks place buffer serial)
  chunk_rank place buffer serial chunk keeps at = elim (staged_or_not chunk.stage) [
    | inl staged ↦ inl staged
    | inr moved ↦ inr (rank_so net place buffer serial steps ((is.chunks place buffer serial chunk at).ranked keeps moved))
  ]

  -- what is safe above a rank is held from it on
  held_from : (rank : ℕ) (origin : Origin) → IsSafe net ranks w.buffers rank origin → IsHeldFrom net steps w rank origin.address origin.tag origin.entry
  held_from rank origin safe = record {
    place = safe.place;
    buffer = safe.buffer;
    borne = safe.tag;
    routed = borne_routed net origin.address origin.tag safe.place safe.buffer safe.tag safe.borne;
    held = elim safe.held [
      | inl stored ↦ inl stored
      | inr in_chunk ↦ (let h = in_chunk.1 in inr (
        in_chunk.0,
        record {
          serial = h.serial;
          chunk = h.chunk;
          there = h.there;
          inside = h.inside;
          high = elim h.ranked [
            | inl staged ↦ inl staged
            | inr above ↦ elim (chunk_rank safe.place safe.buffer h.serial h.chunk in_chunk.0 h.there) [
              | inl staged ↦ inl staged
              | inr rank_is ↦ inr (ranks safe.place safe.buffer h.serial, rank_is, above)
            ]
          ];
        },
      ))
    ];
  }

  -- what the sender's messages brought is safe above its rank
  message_held : (from : Sender) (message : Message) → Hands net from → HasId net ranks (length steps) w.buffers from message.tag message.entries → AreSafe net ranks (length steps) w.buffers (rank_of ranks from) message.address message.tag message.entries
      → (least : ℕ) × IsLeastAfter net steps from least × ((entry : List ℕ) → Contains message.entries entry → IsHeldFrom net steps w least message.address message.tag entry)
  message_held (sender.Client client) message hands id safe = (0, refl, λ entry inside. held_from 0 _ (safe entry inside))
  message_held (sender.Chunk place buffer serial) message hands id safe =
      (ranks place buffer serial + 1, (ranks place buffer serial, rank_so net place buffer serial steps (id hands).ranked, refl), λ entry inside. held_from _ _ (safe entry inside))

  counted : (from : Sender) (message : Message) → Hands net from → ArePassedOn net ranks (length steps) w.buffers from message.address message.tag message.entries → AreSafe net ranks (length steps) w.buffers (rank_of ranks from) message.address message.tag message.entries
  counted (sender.Client client) message hands passed = passed hands
  counted (sender.Chunk place buffer serial) message hands passed = passed hands

-- After every list of steps all that was acknowledged is held so.
pub held_onward : {A : Type 0} (net : Network A) (labelled : Labelling) (leads : LeadOn net labelled) (steps : List (Step A)) (w : World) → Steps net initial_world steps w → AreHeldOnward net steps w
held_onward net labelled leads steps w run =
    let is = all_kept net labelled leads steps w run in
    record {
      messages = λ number message there answered hands. (let known = is.messages number message there in
          message_held net labelled steps w is message.sender message hands known.id (counted net labelled steps w is message.sender message hands (known.answered answered)));
      clients = λ told inside.
          let safe = some_and (slice_get net.clients told.client) _ (is.acknowledged told inside) in
          and_some (slice_get net.clients told.client) (λ client. IsHeldFrom net steps w 0 (address_of_client net client) told.event.tag told.event.entry) safe.0 safe.1 (held_from net labelled steps w is 0 _ safe.2);
    }
