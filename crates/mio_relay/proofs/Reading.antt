-- What came over a connection is told to its session.
use Rattle.std.proofs.Common.{ℕ, ◌≡◌, ◌∙◌, ◌+◌, ◌⊎◌, inl, inr, add-one, arith, true, List, [], length, subst, sym, Result, Ok, Err}
use Rattle.std.specs.Prelude.{OnErr, OnOk}
use Rattle.relay_sockets.specs.Traffics.{Conveys, Traffic}
use Rattle.loop_core.specs.Lanes.{KeepsLanes, LanesState}
use Rattle.loop_core.specs.Peers.{PeerState}
use Rattle.mio_relay.specs.Connections.{AreReceived, Brings, ConnectionState, Hears, IsReceived, IsSameConnection, MayRead}
use Rattle.mio_relay.proofs.Slots.{no_not_yes}

-- what holds where it was received well, or else where that is answered well, holds one or the
-- other
pub either : {T U E F : Type 0} (received : Result T E) (result : Result U F) (P Q : Type 0) → OnOk received P → OnErr received (OnOk result Q) → OnOk result (P ⊎ Q)
either (Ok _) (Ok _) P Q p q = inl p
either (Err _) (Ok _) P Q p q = inr q
either received (Err _) P Q p q = tt

-- what follows from it holds where it is answered well
on_ok_too : {T E : Type 0} (r : Result T E) (P Q : Type 0) → (P → Q) → OnOk r P → OnOk r Q
on_ok_too (Ok _) P Q f p = f p
on_ok_too (Err _) P Q f p = tt

-- nothing came
pub none_came : (old new : ConnectionState) (came : List ℕ) → came ≡ [] → Brings old new came → IsReceived old new
none_came old new came none brings = record { came = came; conveys = brings.conveys; told = inl (none, brings.peer) }

-- what came was received by the session, which was so before and behind it, or the connection is
-- broken
pub is_received : {T U E F : Type 0} (old between new : ConnectionState) (came front : List ℕ) (before after : PeerState) (received : Result T E) (result : Result U F)
    → Brings old between came → new.traffic ≡ between.traffic → front ≡ came → before ≡ between.peer → new.peer ≡ after
    → OnOk received (Hears front before.session after.session) → OnErr received (OnOk result (new.is_broken ≡ true)) → OnOk result (IsReceived old new)
is_received old between new came front before after received result brings same whole was is hears lost =
    let Q = new.is_broken ≡ true in
    let first = subst (λ (p : PeerState). OnOk received (Hears front before.session p.session)) (sym is) hears in
    let second = subst (λ (p : PeerState). OnOk received (Hears front p.session new.peer.session)) (was ∙ brings.peer) first in
    let third = subst (λ (l : List ℕ). OnOk received (Hears l old.peer.session new.peer.session)) whole second in
    on_ok_too result (Hears came old.peer.session new.peer.session ⊎ Q) (IsReceived old new)
    (λ told. record { came = came; conveys = subst (λ (t : Traffic). Conveys old.traffic t [] came) (sym same) brings.conveys; told = inr told })
    (either received result (Hears came old.peer.session new.peer.session) Q third lost)

-- the same connection goes on over two calls
pub same_more : (old between new : ConnectionState) → IsSameConnection old between → IsSameConnection between new → IsSameConnection old new
same_more old between new first next = record { origin = next.origin ∙ first.origin; came = next.came ∙ first.came; entry = next.entry ∙ first.entry }

-- and its lanes
pub lanes_more : {A : Type 0} (old between new : LanesState A) → KeepsLanes old between → KeepsLanes between new → KeepsLanes old new
lanes_more old between new first next = record {
  terms = next.terms ∙ first.terms;
  timings = next.timings ∙ first.timings;
  fault = λ fault was. next.fault fault (first.fault fault was);
}

-- what may be read now might be read at first, since nothing was read else
pub may_at_first : (old now : ConnectionState) → MayRead old ⊎ (now ≡ old) → MayRead now → MayRead old
may_at_first old now (inl first) may = first
may_at_first old now (inr same) may = subst MayRead same may

-- each message that was demanded got its number, over two calls
pub numbered_more : (old between new : ConnectionState) (before then_ after : ℕ) → MayRead between
    → (then_ + length old.peer.session.asked ≡ before + length between.peer.session.asked) ⊎ (between.is_broken ≡ true)
    → (after + length between.peer.session.asked ≡ then_ + length new.peer.session.asked) ⊎ (new.is_broken ≡ true)
    → (after + length old.peer.session.asked ≡ before + length new.peer.session.asked) ⊎ (new.is_broken ≡ true)
numbered_more old between new before then_ after may (inr broken) next = absurd (no_not_yes (sym may.whole ∙ broken))
numbered_more old between new before then_ after may (inl first) (inr broken) = inr broken
numbered_more old between new before then_ after may (inl first) (inl next) = inl (omega arith)

-- one more piece was received behind the others
pub received_more : (pieces : ℕ) (old between new : ConnectionState) → AreReceived pieces old between → MayRead between → IsReceived between new
    → AreReceived (pieces + 1) old new
received_more pieces old between new was may now = subst (λ (n : ℕ). AreReceived n old new) (sym (add-one pieces)) (between, was, may, now)
