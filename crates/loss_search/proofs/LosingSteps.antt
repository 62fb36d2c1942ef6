-- When steps lose an event, and when they don't.
use Rattle.std.proofs.Common.{◌≡◌, ◌<◌, ◌≤◌, ◌+◌, ◌++◌, ℕ, List, [], ◌∷◌, Bool, true, false, Some, length, slice_get, subst, refl, sym, ap, ◌∙◌, inl, inr, below_more, arith}
use Rattle.std.specs.Prelude.{IsSomeAnd, IsTrue, ◌↔◌}
use Rattle.std.specs.Option.{ForSome}
use Rattle.std.proofs.lemmas.List.{length-map}
use Rattle.std.proofs.lemmas.Option.{slice_get_cases, slice_get_within}
use Rattle.custody_core.specs.Custody.{IsKeptAs}
use Rattle.custody_core.proofs.Lists.{contains-get, get-contains}
use Rattle.custody_steps.specs.Rules.{Allowed, Names, effect}
use Rattle.custody_steps.specs.Steps.{IsRefusedAt, Steps}
use Rattle.custody_steps.specs.World.{World, initial_world}
use Rattle.custody_steps.specs.declared.fault.StepFault.{StepFault}
use Rattle.custody_steps.specs.declared.fault.StepFault.TheVariants as fault
use Rattle.loss_rules.specs.declared.label.Duty.{Duty}
use Rattle.custody_store.specs.Book.{Told, told_events, told_of}
use Rattle.custody_store.specs.declared.message.Acknowledged.{Acknowledged}
use Rattle.relay_net.specs.Network.{Network}
use Rattle.step_lines.specs.declared.step.Step.{Step}
use Rattle.loss_search.specs.Losses.{HasLost, Loses}

-- an event that isn't kept is lost
pub lost_at : {A : Type 0} (asked : Duty) (net : Network A) (w : World) (k : ℕ) (told : Told) → slice_get w.acknowledged k ≡ Some told → ¬ (IsKeptAs asked net w told) → HasLost asked net w
lost_at asked net w k told is unkept = record { told = told; is_acknowledged = get-contains w.acknowledged told k is; is_lost = unkept }

-- where each event is kept, none is lost
pub none_lost : {A : Type 0} (asked : Duty) (net : Network A) (w : World) (n : ℕ) → length w.acknowledged ≤ n
    → ((k : ℕ) → k < n → ForSome (slice_get w.acknowledged k) (IsKeptAs asked net w)) → ¬ (HasLost asked net w)
none_lost asked net w n all kept lost =
    let found = contains-get w.acknowledged lost.told lost.is_acknowledged in
    let within = slice_get_within w.acknowledged found.0 lost.told found.1 in
    lost.is_lost (kept found.0 (omega (arith, within, all)) lost.told found.1)

-- where there are so many events, the one of a lesser number is there
event_at : {A : Type 0} (events : List (Acknowledged A)) (told : List Told) (n : ℕ) → told_events events ≡ told → n < length events → (x : Told) × (slice_get told n ≡ Some x)
event_at events told n same lt =
    let count = sym (length-map events told_of) ∙ ap length same in
    elim (slice_get_cases told n).1 [
      | inl found ↦ (found.0, found.2)
      | inr past ↦ absurd (let le = past.0 in omega (arith, count, lt, le))
    ]

-- what is answered of the event of a number, of the event
kept_at : {A : Type 0} (asked : Duty) (net : Network A) (w : World) (n : ℕ) (told : Told) (is_so : Bool) → slice_get w.acknowledged n ≡ Some told
    → (IsTrue is_so ↔ IsSomeAnd (slice_get w.acknowledged n) (IsKeptAs asked net w)) → IsTrue is_so ↔ IsKeptAs asked net w told
kept_at asked net w n told is_so there = subst (λ o. IsTrue is_so ↔ IsSomeAnd o (IsKeptAs asked net w)) there

-- the event of this number isn't kept, so that one is lost
pub lost_there : {A : Type 0} (asked : Duty) (net : Network A) (w : World) (events : List (Acknowledged A)) (n : ℕ) (is_so : Bool) → told_events events ≡ w.acknowledged → n < length events
    → (IsTrue is_so ↔ IsSomeAnd (slice_get w.acknowledged n) (IsKeptAs asked net w)) → is_so ≡ false → IsTrue true ↔ HasLost asked net w
lost_there asked net w events n is_so same lt kept isnt =
    let found = event_at events w.acknowledged n same lt in
    (λ _. lost_at asked net w n found.0 found.1 (λ is. absurd (let t = (kept_at asked net w n found.0 is_so found.1 kept).1 is in cc (t, isnt))), λ _. refl)

-- one event more is kept
pub kept_more : {A : Type 0} (asked : Duty) (net : Network A) (w : World) (n : ℕ) (is_so : Bool) → ((k : ℕ) → k < n → ForSome (slice_get w.acknowledged k) (IsKeptAs asked net w))
    → (IsTrue is_so ↔ IsSomeAnd (slice_get w.acknowledged n) (IsKeptAs asked net w)) → is_so ≡ true → (k : ℕ) → k < n + 1 → ForSome (slice_get w.acknowledged k) (IsKeptAs asked net w)
kept_more asked net w n is_so before here is = below_more (λ k. ForSome (slice_get w.acknowledged k) (IsKeptAs asked net w)) n before (λ told there. (kept_at asked net w n told is_so there here).0 is)

-- steps lead to one world
steps_same : {A : Type 0} (net : Network A) (before : World) (steps : List (Step A)) (a b : World) → Steps net before steps a → Steps net before steps b → a ≡ b
steps_same net before [] a b one other = one ∙ sym other
steps_same net before (first ∷ steps) a b one other = steps_same net (effect net before first) steps a b one.2 other.2

-- steps that are taken lose an event where one is lost then
pub loses_where_lost : {A : Type 0} (asked : Duty) (net : Network A) (steps : List (Step A)) (w : World) (is_so : Bool) → Steps net initial_world steps w
    → (IsTrue is_so ↔ HasLost asked net w) → IsTrue is_so ↔ Loses asked net steps
loses_where_lost asked net steps w is_so taken lost = (
  λ y. record { world = w; taken = taken; lost = lost.0 y },
  λ loses. lost.1 (subst (HasLost asked net) (steps_same net initial_world steps loses.world w loses.taken taken) loses.lost),
)

-- of steps that are taken the next one after some names what is there, and is allowed
next_taken : {A : Type 0} (net : Network A) (from : World) (steps : List (Step A)) (at : World) (next : Step A) (others : List (Step A)) (after : World)
    → Steps net from (steps ++ next ∷ others) after → Steps net from steps at → Names net at next × Allowed net at next
next_taken net from [] at next others after taken here = rw here (taken.0, taken.1)
next_taken net from (first ∷ steps) at next others after taken here = next_taken net (effect net from first) steps at next others after taken.2 here.2

-- steps of which one is refused for what it asks lose nothing
pub refused_loses_none : {A : Type 0} (asked : Duty) (net : Network A) (steps : List (Step A)) (number : ℕ) (why : StepFault) → IsRefusedAt net steps number why
    → ¬ (why ≡ fault.Memory) → ¬ (Loses asked net steps)
refused_loses_none asked net steps number fault.NoSuch refused named loses =
    let taken = subst (λ s. Steps net initial_world s loses.world) refused.steps_are loses.taken in
    refused.is_refused (next_taken net initial_world refused.before refused.world refused.refused refused.others loses.world taken refused.taken).0
refused_loses_none asked net steps number fault.NotAllowed refused named loses =
    let taken = subst (λ s. Steps net initial_world s loses.world) refused.steps_are loses.taken in
    refused.is_refused.1 (next_taken net initial_world refused.before refused.world refused.refused refused.others loses.world taken refused.taken).1
refused_loses_none asked net steps number fault.Memory refused named loses = named refl
