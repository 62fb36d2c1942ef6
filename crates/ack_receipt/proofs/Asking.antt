-- Why an append has no room.
use Rattle.std.proofs.Common.{ℕ, ◌≡◌, ◌∙◌, ◌≤◌, ◌<◌, ◌-◌, ◌^◌, ◌⊎◌, inl, inr, List, length, Bool, true, false, Result, Ok, Err, refl, subst, sym}
use Rattle.std.specs.Prelude.{◌↔◌, OnErr, OnOk}
use Rattle.std.proofs.lemmas.Bool.{cases_lt}
use Rattle.ack_receipt.specs.Books.{Book, RefusesAppend}
use Rattle.ack_receipt.specs.declared.takes.Takes.{Takes}
use Rattle.buffer_state.specs.State.{State}
use Rattle.buffer_state.specs.Steps.{planned}
use Rattle.buffer_state.specs.declared.limits.Limits.{Limits}
use Rattle.buffer_state.specs.declared.limits.AppendFault.{AppendFault}
use Rattle.buffer_state.specs.declared.limits.AppendFault.TheVariants as plan
use Rattle.buffer_store.specs.Room.{FitsBesideUnqueued}
use Rattle.buffer_store.specs.declared.fault.BufferFault.{BufferFault}
use Rattle.buffer_store.specs.declared.fault.BufferFault.TheVariants.{Full, TooLarge, Gone, Fault, Failed, LastSerial, Damaged, Memory}
use Rattle.event_modes.specs.Message.{longest_tag}
use Rattle.ack_receipt.specs.Room.{HasRoom}

abbrev IsFull : BufferFault → Type 0
IsFull Full = Unit {0}
IsFull TooLarge = ⊥
IsFull Gone = ⊥
IsFull Fault = ⊥
IsFull Failed = ⊥
IsFull LastSerial = ⊥
IsFull Damaged = ⊥
IsFull Memory = ⊥

abbrev AnswersFull : Result ℕ BufferFault → Type 0
AnswersFull (Ok _) = ⊥
AnswersFull (Err fault) = IsFull fault

-- where the plan of an append is answered so, the entries are more than the buffer takes with all
-- that is there
pub full_planned : {D : Type 0} (book : Book D) (tag : List ℕ) (entries : List (List ℕ)) (result : Result ℕ BufferFault) → RefusesAppend tag entries book result
    → ((result ≡ Err Failed) ↔ (book.buffer.failed ≡ true)) → result ≡ Err Full → planned book.buffer.limits book.buffer.chunks tag entries ≡ Err plan.Full
full_planned {D} book tag entries result refuses failed is = by_plan (planned book.buffer.limits book.buffer.chunks tag entries) refl
  where
    full : AnswersFull result
    full = subst AnswersFull (sym is) tt

    not : (why : BufferFault) → (IsFull why → ⊥) → result ≡ Err why → ⊥
    not why other e = other (subst AnswersFull e full)

    goes : (b : Bool) → book.buffer.failed ≡ b → book.buffer.failed ≡ false
    goes true e = absurd (not Failed (λ f. f) (failed.1 e))
    goes false e = e

    going : book.buffer.failed ≡ false
    going = goes book.buffer.failed refl

    fits : (longest_tag < length tag) ⊎ (length tag ≤ longest_tag) → length tag ≤ longest_tag
    fits (inl long) = absurd (not TooLarge (λ f. f) (refuses.long going long))
    fits (inr short) = short

    short : length tag ≤ longest_tag
    short = fits (cases_lt longest_tag (length tag))

    other : (result ≡ Err Memory) ⊎ ((result ≡ Err Fault) ⊎ ((result ≡ Err LastSerial) × (2 ^ 64 - 1 ≤ length book.appends))) → ⊥
    other (inl e) = not Memory (λ f. f) e
    other (inr (inl e)) = not Fault (λ f. f) e
    other (inr (inr e)) = not LastSerial (λ f. f) e.0

    by_fault : (fault : AppendFault) → planned book.buffer.limits book.buffer.chunks tag entries ≡ Err fault → planned book.buffer.limits book.buffer.chunks tag entries ≡ Err plan.Full
    by_fault plan.TooLarge e = absurd (not TooLarge (λ f. f) (refuses.refused going short plan.TooLarge e))
    by_fault plan.Full e = e
    by_fault plan.LastSerial e = absurd (not LastSerial (λ f. f) (refuses.refused going short plan.LastSerial e))

    by_plan : (p : Result ℕ AppendFault) → planned book.buffer.limits book.buffer.chunks tag entries ≡ p → planned book.buffer.limits book.buffer.chunks tag entries ≡ Err plan.Full
    by_plan (Ok serial) e =
        absurd (other (subst (λ (r : Result ℕ BufferFault). OnErr r ((result ≡ Err Memory) ⊎ ((result ≡ Err Fault) ⊎ ((result ≡ Err LastSerial) × (2 ^ 64 - 1 ≤ length book.appends)))))
        is (refuses.accepted going short serial e)))
    by_plan (Err fault) e = by_fault fault e

-- where a full buffer can make room, it has
pub room_made : {A T : Type 0} (takes : Takes A) (limits : Limits) (state : State) (tag : List ℕ) (entries : List (List ℕ)) (answer : Result T BufferFault)
    → OnOk answer ((takes.drops ≡ true) × FitsBesideUnqueued limits state entries) → planned limits state tag entries ≡ Err plan.Full
    → OnOk answer (HasRoom takes limits state tag entries)
room_made takes limits state tag entries (Ok _) may full = inr (may.0, full, may.1)
room_made takes limits state tag entries (Err _) may full = tt

-- and where it can't, it hasn't
pub room_missing : {A T : Type 0} (takes : Takes A) (limits : Limits) (state : State) (tag : List ℕ) (entries : List (List ℕ)) (answer : Result T BufferFault)
    → OnErr answer ((answer ≡ Err Full) × ((takes.drops ≡ true) → FitsBesideUnqueued limits state entries → ⊥)) → planned limits state tag entries ≡ Err plan.Full
    → answer ≡ Err Full → HasRoom takes limits state tag entries → ⊥
room_missing takes limits state tag entries (Ok _) may full is room = absurd (cc is)
room_missing takes limits state tag entries (Err _) may full is (inl (place, placed)) = absurd (cc (sym full ∙ placed))
room_missing takes limits state tag entries (Err _) may full is (inr (drops, _, fits)) = may.1 drops fits
