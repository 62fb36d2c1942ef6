-- What stays of a loop, where its connections or its network alone change.
use Rattle.std.proofs.Common.{ℕ, ◌≡◌, ◌∙◌, arith, Bool, List, [], ap, map, refl, subst, sym}
use Rattle.std.specs.List.{All}
use Rattle.ack_receipt.specs.Deliveries.{Pended}
use Rattle.relay_conf.specs.declared.output.BufferNo.{BufferNo}
use Rattle.loop_core.specs.Lanes.{AreQueued, AreRedeemed, AreRedeemedAt, LanesState, later_at, listed_at}
use Rattle.loop_core.specs.Schedules.{IsNoneDue, Plan, timing_of}
use Rattle.mio_relay.specs.Connections.{AreFlushed, AreSettled}
use Rattle.mio_relay.specs.Loops.{LoopState, OnlyLaterWait, Rests, Stays}

-- its lanes are as they were, and so is all else that stays
pub stays_on : {A : Type 0} (inside now new : LoopState A) → inside ≡ now → new.bound ≡ inside.bound → new.sources ≡ inside.sources → new.buffers ≡ inside.buffers
    → new.lanes ≡ inside.lanes → new.numbers ≡ inside.numbers → new.clock ≡ inside.clock → Stays now new
stays_on {A} inside now new is bound sources buffers lanes numbers clock =
    subst (λ (l : LoopState A). Stays l new) is
    (record {
      bound = bound;
      sources = sources;
      buffers = buffers;
      lanes = record {
        terms = ap (λ (l : LanesState A). l.terms) lanes;
        timings = ap (λ (l : LanesState A). map timing_of l.plans) lanes;
        fault = λ fault was. ap (λ (l : LanesState A). l.fault) lanes ∙ was;
      };
      numbers = omega (arith, numbers);
      clock = clock;
    })

-- no delivery waits that didn't, and nothing is outgoing that a stream would take
pub rests_on : {A : Type 0} (inside now new : LoopState A) → inside ≡ now → new.lanes.waiting ≡ inside.lanes.waiting → new.lanes.later ≡ inside.lanes.later
    → new.lanes.plans ≡ inside.lanes.plans → new.lanes.time ≡ inside.lanes.time → new.lanes.short ≡ inside.lanes.short
    → (AreSettled inside.connections → AreSettled new.connections) → (AreFlushed inside.connections → AreFlushed new.connections) → Rests now new
rests_on {A} inside now new is waiting later plans time short settled flushed =
    subst (λ (l : LoopState A). Rests l new) is
    (record { waiting = waiting; later = later; settled = settled; flushed = flushed; plans = plans; time = time; short = short })

-- the same, where its lanes are as they were
pub rests_with : {A : Type 0} (inside now new : LoopState A) → inside ≡ now → new.lanes ≡ inside.lanes
    → (AreSettled inside.connections → AreSettled new.connections) → (AreFlushed inside.connections → AreFlushed new.connections) → Rests now new
rests_with {A} inside now new is lanes settled flushed =
    rests_on inside now new is (ap (λ (l : LanesState A). l.waiting) lanes) (ap (λ (l : LanesState A). l.later) lanes)
    (ap (λ (l : LanesState A). l.plans) lanes) (ap (λ (l : LanesState A). l.time) lanes) (ap (λ (l : LanesState A). l.short) lanes) settled flushed

-- no staged chunk is to be queued, as long as none comes, and it is the same time
pub queued_still : {A : Type 0} (old new : LanesState A) → new.plans ≡ old.plans → new.time ≡ old.time → new.short ≡ old.short → AreQueued old → AreQueued new
queued_still old new plans time short all whole =
    subst (λ (p : List Plan). All (IsNoneDue new.time) p) (sym plans)
    (subst (λ (t : ℕ). All (IsNoneDue t) old.plans) (sym time) (all (sym short ∙ whole)))

-- appends wait where receipts come later alone, after a redeeming
pub only_later : {A : Type 0} (old new : LanesState A) → ((buffer : BufferNo) → AreRedeemedAt buffer old new) → OnlyLaterWait new
only_later old new redeemed buffer none =
    subst (λ (later : Bool). AreRedeemed (listed_at old.waiting buffer) later (listed_at new.waiting buffer)) none (redeemed buffer)

-- and as long as neither changes
pub only_later_still : {A : Type 0} (old new : LanesState A) → new.waiting ≡ old.waiting → new.later ≡ old.later → OnlyLaterWait old → OnlyLaterWait new
only_later_still old new waiting later only buffer none =
    subst (λ (w : List (List Pended)). listed_at w buffer ≡ []) (sym waiting) (only buffer (ap (λ (l : List Bool). later_at l buffer) (sym later) ∙ none))

-- what stays over two calls
pub stays_more : {A : Type 0} (old between new : LoopState A) → Stays old between → Stays between new → Stays old new
stays_more old between new first next = record {
  bound = next.bound ∙ first.bound;
  sources = next.sources ∙ first.sources;
  buffers = next.buffers ∙ first.buffers;
  lanes = record {
    terms = next.lanes.terms ∙ first.lanes.terms;
    timings = next.lanes.timings ∙ first.lanes.timings;
    fault = λ fault was. next.lanes.fault fault (first.lanes.fault fault was);
  };
  numbers = omega (arith, first.numbers, next.numbers);
  clock = next.clock ∙ first.clock;
}

-- and what rests
pub rests_more : {A : Type 0} (old between new : LoopState A) → Rests old between → Rests between new → Rests old new
rests_more old between new first next = record {
  waiting = next.waiting ∙ first.waiting;
  later = next.later ∙ first.later;
  settled = λ all. next.settled (first.settled all);
  flushed = λ all. next.flushed (first.flushed all);
  plans = next.plans ∙ first.plans;
  time = next.time ∙ first.time;
  short = next.short ∙ first.short;
}

-- where nothing is done, all stays
pub stays_same : {A : Type 0} (l : LoopState A) → Stays l l
stays_same l = record { bound = refl; sources = refl; buffers = refl; lanes = record { terms = refl; timings = refl; fault = λ fault was. was }; numbers = omega arith; clock = refl }

-- and rests
pub rests_same : {A : Type 0} (l : LoopState A) → Rests l l
rests_same l = record { waiting = refl; later = refl; settled = λ all. all; flushed = λ all. all; plans = refl; time = refl; short = refl }
