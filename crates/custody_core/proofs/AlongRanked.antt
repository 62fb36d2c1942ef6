-- What every run keeps of a network in which each leaf of each labelled tag's way keeps.
use Rattle.std.proofs.Common.{◌≡◌, ◌≢◌, ℕ, ◌+◌, ◌<◌, ◌≤◌, true, List, Some, slice_get, refl, sym, ap, subst, ◌∙◌, ◌⊎◌, inl, inr, arith, Contains, IsSomeAnd}
use Rattle.std.proofs.lemmas.Option.{same_Some}
use Rattle.custody_store.specs.declared.chunk.Stage.TheVariants.{Staged}
use Rattle.custody_store.specs.Buffers.{Chunk}
use Rattle.custody_store.specs.Book.{Message, Delivery, Told}
use Rattle.custody_store.specs.declared.sender.Sender.{Sender}
use Rattle.custody_store.specs.declared.sender.Sender.TheVariants as sender
use Rattle.relay_net.specs.Addresses.{Address}
use Rattle.relay_net.specs.Network.{Network, address_of_client}
use Rattle.relay_net.specs.declared.address.Entrance.{Entrance}
use Rattle.custody_steps.specs.World.{World}
use Rattle.custody_store.proofs.Lists.{some_and}
use Rattle.custody_core.proofs.Serials.{event_of, and_some}
use Rattle.custody_core.proofs.Safe.{Buffers, Ranking, KeepsAt}
use Rattle.custody_core.proofs.Ranked.{Labelling, rank_of, Counts, IsRanked}
use Rattle.custody_core.proofs.Sendings.{Follow}
use Rattle.custody_core.proofs.Along.{IsPassedFrom, KeepsFrom, EachFrom, Moves, moved, each_moved}

module _ {A : Type 0} (net : Network A) (ranks : Ranking) (buffers : Buffers) (messages : List Message) where
  -- A chunk with this id was passed on with the entry, to where each buffer keeps it above the
  -- chunk's rank.
  pub record IsGoneOn (place buffer serial : ℕ) (tag entry : List ℕ) : Type 0 where
    pub number : ℕ
    pub message : Message
    pub on : IsPassedFrom messages entry place buffer serial tag number message
    pub each : EachFrom net ranks buffers messages (ranks place buffer serial + 1) message.address message.tag entry

  -- the entry of a chunk with this id is in its sink, or went on
  abbrev pub IsDelivered : ℕ → ℕ → ℕ → List ℕ → List ℕ → Type 0
  IsDelivered place buffer serial tag entry = Contains (buffers place buffer).sink (event_of tag entry) ⊎ IsGoneOn place buffer serial tag entry

  -- what a message's acknowledgement means, if its sender counts
  abbrev pub ArePassedAlong : Message → Type 0
  ArePassedAlong message = Counts net message.sender → (entry : List ℕ) → Contains message.entries entry → EachFrom net ranks buffers messages (rank_of ranks message.sender) message.address message.tag entry

  -- what it means that a delivery of such a message was appended to the buffer
  abbrev pub AreHeldThere : Message → Entrance → List ℕ → ℕ → Type 0
  AreHeldThere message at tag buffer = Counts net message.sender → (entry : List ℕ) → Contains message.entries entry → KeepsFrom net ranks buffers messages entry (rank_of ranks message.sender) at.relay buffer tag

  -- what was acknowledged to a client is kept along each branch
  abbrev pub IsToldAlong : Told → Type 0
  IsToldAlong told = IsSomeAnd (slice_get net.clients told.client) (λ client. EachFrom net ranks buffers messages 0 (address_of_client net client) told.event.tag told.event.entry)

-- What every run keeps besides.
pub record IsEach {A : Type 0} (net : Network A) (ranks : Ranking) (w : World) : Type 0 where
  pub chunks : (place buffer serial : ℕ) (chunk : Chunk) → (w.buffers place buffer).chunks serial ≡ Some chunk → KeepsAt net place buffer → chunk.evidence ≡ true → (entry : List ℕ) → Contains chunk.entries entry → IsDelivered net ranks w.buffers w.messages place buffer serial chunk.tag entry
  pub messages : (number : ℕ) (message : Message) → slice_get w.messages number ≡ Some message → message.acknowledged ≡ true → ArePassedAlong net ranks w.buffers w.messages message
  pub deliveries : (number : ℕ) (d : Delivery) → slice_get w.deliveries number ≡ Some d → (m : Message) → slice_get w.messages d.message ≡ Some m → (buffer : ℕ) → Contains d.appended buffer → AreHeldThere net ranks w.buffers w.messages m d.entrance d.tag buffer
  pub acknowledged : (told : Told) → Contains w.acknowledged told → IsToldAlong net ranks w.buffers w.messages told

-- A delivery of a message from the same sender with the same entries was appended there, under the
-- same tag.
pub record WasAppended (w : World) (at : Entrance) (tag : List ℕ) (buffer : ℕ) (m : Message) : Type 0 where
  pub number : ℕ
  pub delivery : Delivery
  pub is_delivery : slice_get w.deliveries number ≡ Some delivery
  pub message : Message
  pub is_message : slice_get w.messages delivery.message ≡ Some message
  pub at_is : delivery.entrance ≡ at
  pub tag_is : delivery.tag ≡ tag
  pub inside : Contains delivery.appended buffer
  pub sender_is : message.sender ≡ m.sender
  pub entries_are : message.entries ≡ m.entries

-- A chunk with evidence and the entry under the same tag had the id.
pub record WasEvident (w : World) (place buffer serial : ℕ) (tag entry : List ℕ) : Type 0 where
  pub chunk : Chunk
  pub there : (w.buffers place buffer).chunks serial ≡ Some chunk
  pub evident : chunk.evidence ≡ true
  pub tag_is : chunk.tag ≡ tag
  pub inside : Contains chunk.entries entry

module _ {A : Type 0} (net : Network A) (labelled : Labelling) (ranks later : Ranking) (clock : ℕ) (w v : World) (is : IsRanked net labelled ranks clock w) (each : IsEach net ranks w) where
  -- What a step must leave.
  pub record Goes : Type 0 where
    pub moves : Moves net ranks later 0 clock w.buffers v.buffers w.messages v.messages
    pub steady : (p b s : ℕ) (chunk : Chunk) → (w.buffers p b).chunks s ≡ Some chunk → chunk.stage ≢ Staged → later p b s ≡ ranks p b s
    pub chunks : (p b s : ℕ) (now : Chunk) → (v.buffers p b).chunks s ≡ Some now → KeepsAt net p b → now.evidence ≡ true → (entry : List ℕ) → Contains now.entries entry → WasEvident w p b s now.tag entry ⊎ ((later p b s ≡ ranks p b s) × (ranks p b s < clock) × IsDelivered net ranks w.buffers w.messages p b s now.tag entry)
    pub messages : (number : ℕ) (m : Message) → slice_get v.messages number ≡ Some m → m.acknowledged ≡ true → (slice_get w.messages number ≡ Some m) ⊎ ArePassedAlong net later v.buffers v.messages m
    pub deliveries : (number : ℕ) (d : Delivery) → slice_get v.deliveries number ≡ Some d → (m : Message) → slice_get v.messages d.message ≡ Some m → (buffer : ℕ) → Contains d.appended buffer → WasAppended w d.entrance d.tag buffer m ⊎ AreHeldThere net later v.buffers v.messages m d.entrance d.tag buffer
    pub told : (told : Told) → Contains v.acknowledged told → Contains w.acknowledged told ⊎ IsToldAlong net later v.buffers v.messages told

  module _ (goes : Goes) where
    go_each : (rank : ℕ) (address : Address) (tag entry : List ℕ) → rank ≤ clock → EachFrom net ranks w.buffers w.messages rank address tag entry → EachFrom net later v.buffers v.messages rank address tag entry
    go_each rank address tag entry le e = each_moved net ranks later 0 clock w.buffers v.buffers w.messages v.messages goes.moves rank address tag entry (omega arith) le e

    go : (entry : List ℕ) (rank place buffer : ℕ) (tag : List ℕ) → rank ≤ clock → KeepsFrom net ranks w.buffers w.messages entry rank place buffer tag → KeepsFrom net later v.buffers v.messages entry rank place buffer tag
    go entry rank place buffer tag le e = moved net ranks later 0 clock w.buffers v.buffers w.messages v.messages goes.moves (omega arith) le e

    delivered_goes : (p b s : ℕ) (tag entry : List ℕ) → later p b s ≡ ranks p b s → ranks p b s < clock → IsDelivered net ranks w.buffers w.messages p b s tag entry → IsDelivered net later v.buffers v.messages p b s tag entry
    delivered_goes p b s tag entry same less d = elim d [
      | inl stored ↦ inl (goes.moves.sinks p b (event_of tag entry) stored)
      | inr gone ↦ inr (record {
        number = gone.number;
        message = gone.message;
        on = (let on = gone.on in record { there = goes.moves.stay gone.number gone.message on.there on.answered; from = on.from; tag_is = on.tag_is; inside = on.inside; answered = on.answered });
        each = subst (λ n. EachFrom net later v.buffers v.messages (n + 1) gone.message.address gone.message.tag entry) (sym same) (go_each (ranks p b s + 1) gone.message.address gone.message.tag entry (omega arith) gone.each);
      })
    ]

    -- the rank of a message's sender stays, and isn't above the time
    rank_stays : (number : ℕ) (m : Message) (s : Sender) → slice_get w.messages number ≡ Some m → m.sender ≡ s → Counts net s → (rank_of later s ≡ rank_of ranks s) × (rank_of ranks s ≤ clock)
    rank_stays number m (sender.Client client) at from counts = (refl, omega arith)
    rank_stays number m (sender.Chunk p b s) at from counts = let same = goes.moves.ids number m p b s at from counts in let less = same.1 in (ap (λ n. n + 1) same.0, omega arith)

    passed_goes : (number : ℕ) (m : Message) → slice_get w.messages number ≡ Some m → m.acknowledged ≡ true → ArePassedAlong net later v.buffers v.messages m
    passed_goes number m at sure counts entry inside =
        let stays = rank_stays number m m.sender at refl counts in
        subst (λ n. EachFrom net later v.buffers v.messages n m.address m.tag entry) (sym stays.0) (go_each (rank_of ranks m.sender) m.address m.tag entry stays.1 (each.messages number m at sure counts entry inside))

    held_goes : (m : Message) (at : Entrance) (tag : List ℕ) (buffer : ℕ) → WasAppended w at tag buffer m → AreHeldThere net later v.buffers v.messages m at tag buffer
    held_goes m at tag buffer was counts entry inside =
        let old : Counts net was.message.sender = subst (Counts net) (sym was.sender_is) counts in
        let stays = rank_stays was.delivery.message was.message was.message.sender was.is_message refl old in
        let kept = each.deliveries was.number was.delivery was.is_delivery was.message was.is_message buffer was.inside old entry (subst (λ es. Contains es entry) (sym was.entries_are) inside) in
        let went = go entry (rank_of ranks was.message.sender) was.delivery.entrance.relay buffer was.delivery.tag stays.1 kept in
        let ranked = subst (λ n. KeepsFrom net later v.buffers v.messages entry n was.delivery.entrance.relay buffer was.delivery.tag) (sym stays.0) went in
        rw (was.sender_is, was.at_is, was.tag_is) at ranked

    told_goes : (told : Told) → Contains w.acknowledged told → IsToldAlong net later v.buffers v.messages told
    told_goes told inside =
        let c = some_and (slice_get net.clients told.client) (λ client. EachFrom net ranks w.buffers w.messages 0 (address_of_client net client) told.event.tag told.event.entry) (each.acknowledged told inside) in
        and_some (slice_get net.clients told.client) (λ client. EachFrom net later v.buffers v.messages 0 (address_of_client net client) told.event.tag told.event.entry) c.0 c.1 (go_each 0 (address_of_client net c.0) told.event.tag told.event.entry (omega arith) c.2)

    -- So it is after the step.
    pub each_goes : IsEach net later v
    each_goes = record {
      chunks = λ p b s now at keeps sure entry inside. elim (goes.chunks p b s now at keeps sure entry inside) [
        | inl was ↦ (let known = is.chunks p b s was.chunk was.there in
            let not_staged = (known.evident keeps was.evident).0 in
            delivered_goes p b s now.tag entry (goes.steady p b s was.chunk was.there not_staged) (known.ranked keeps not_staged)
            (subst (λ t. IsDelivered net ranks w.buffers w.messages p b s t entry) was.tag_is (each.chunks p b s was.chunk was.there keeps was.evident entry was.inside)))
        | inr delivered ↦ delivered_goes p b s now.tag entry delivered.0 delivered.1 delivered.2
      ];
      messages = λ number m at sure. elim (goes.messages number m at sure) [
        | inl old ↦ passed_goes number m old sure
        | inr new ↦ new
      ];
      deliveries = λ number d at m there buffer inside. elim (goes.deliveries number d at m there buffer inside) [
        | inl was ↦ held_goes m d.entrance d.tag buffer was
        | inr new ↦ new
      ];
      acknowledged = λ told inside. elim (goes.told told inside) [
        | inl old ↦ told_goes told old
        | inr new ↦ new
      ];
    }

-- ---- what stays as it is

module _ {A : Type 0} (net : Network A) (labelled : Labelling) (ranks : Ranking) (clock : ℕ) (w : World) (is : IsRanked net labelled ranks clock w) where
  -- the messages' ids have their ranks
  pub ids_stay : (number : ℕ) (message : Message) (p b s : ℕ) → slice_get w.messages number ≡ Some message → message.sender ≡ sender.Chunk p b s → KeepsAt net p b → ranks p b s < clock
  ids_stay number message p b s at from keeps = let id = rw from at (is.messages number message at).id in (id keeps).ranked

  -- a delivery that was there, of a message that was there
  pub was_appended : (messages : List Message) → Follow w.messages messages → (number : ℕ) (d : Delivery) → slice_get w.deliveries number ≡ Some d → (m : Message) → slice_get messages d.message ≡ Some m → (buffer : ℕ) → Contains d.appended buffer → WasAppended w d.entrance d.tag buffer m
  was_appended messages follow number d at m there buffer inside =
      let known = is.deliveries number d at in
      let new = follow d.message known.message known.there in
      let same : new.message ≡ m = same_Some new.message m (sym new.there ∙ there) in
      record {
        number = number;
        delivery = d;
        is_delivery = at;
        message = known.message;
        is_message = known.there;
        at_is = refl;
        tag_is = refl;
        inside = inside;
        sender_is = sym new.sender ∙ ap (λ (x : Message). x.sender) same;
        entries_are = sym new.entries ∙ ap (λ (x : Message). x.entries) same;
      }

  pub follow_same : Follow w.messages w.messages
  follow_same number message at = record { message = message; there = at; sender = refl; address = refl; tag = refl; entries = refl }

  pub was_evident : (p b s : ℕ) (chunk now : Chunk) → (w.buffers p b).chunks s ≡ Some chunk → now.tag ≡ chunk.tag → now.entries ≡ chunk.entries → chunk.evidence ≡ true → (entry : List ℕ) → Contains now.entries entry → WasEvident w p b s now.tag entry
  was_evident p b s chunk now at tag entries sure entry inside = record { chunk = chunk; there = at; evident = sure; tag_is = sym tag; inside = subst (λ es. Contains es entry) entries inside }
