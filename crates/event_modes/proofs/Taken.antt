-- Taking what was read off the front of a stream.
use Rattle.std.proofs.Common.{ℕ, ◌≡◌, ◌+◌, List, [], ◌∷◌, ◌++◌, length, take, drop, refl, ap, sym, ◌∙◌, arith, Option, Some, None}
use Rattle.std.proofs.lemmas.List.{take-append-drop, drop-drop, length-append}
use Rattle.event_modes.specs.declared.fault.ModeFault.{ModeFault}
use Rattle.event_modes.specs.Message.{Parts}
use Rattle.event_modes.specs.Stream.{Arrival, Sent, Heartbeat, IsArrival}
use Rattle.event_modes.specs.Reading.{Means, Beats, Answers}
use Rattle.event_modes.specs.Feeding.{Feeding, TakesOff}
use Rattle.event_modes.proofs.One.{arrival_text}
use Rattle.event_modes.proofs.Again.{some_byte}

abbrev pub feeding : List ℕ → Option ModeFault → Feeding
feeding held fault = record { held = held; fault = fault }

-- the first n bytes of what is held are taken off
taken_off : (bytes front : List ℕ) (start n : ℕ) (a : Arrival) (fault : Option ModeFault) → fault ≡ None → IsArrival front a → drop start bytes ≡ front ++ drop (start + n) bytes
    → TakesOff (feeding (drop start bytes) fault) a (feeding (drop (start + n) bytes) fault)
taken_off bytes front start n a fault f p e =
    let s = some_byte front (arrival_text front a p) in
    let l = ap length e in
    record { was = f; front = front; is = p; some = omega (arith, length-append front (drop (start + n) bytes)); whole = e; none = f }

pub takes_message : (bytes unread : List ℕ) (start n : ℕ) (parts : Parts) (fault : Option ModeFault) → fault ≡ None → unread ≡ drop start bytes → Answers unread (Means parts n)
    → TakesOff (feeding (drop start bytes) fault) (Sent parts) (feeding (drop (start + n) bytes) fault)
takes_message bytes unread start n parts fault f u p =
    taken_off bytes (take n unread) start n (Sent parts) fault f p.1
    (sym u ∙ sym (take-append-drop n unread) ∙ ap (λ (z : List ℕ). take n unread ++ z) (ap (drop n) u ∙ drop-drop n start bytes))

pub takes_heartbeat : (bytes unread : List ℕ) (start n : ℕ) (fault : Option ModeFault) → fault ≡ None → unread ≡ drop start bytes → Answers unread (Beats n)
    → TakesOff (feeding (drop start bytes) fault) Heartbeat (feeding (drop (start + n) bytes) fault)
takes_heartbeat bytes unread start n fault f u p =
    let one : drop start bytes ≡ (0xc0 ∷ []) ++ drop 1 (drop start bytes) = sym u ∙ p.1.1 ∙ ap (λ (z : List ℕ). 0xc0 ∷ drop 1 z) (sym p.1.1 ∙ u) in
    let rest : drop 1 (drop start bytes) ≡ drop (start + n) bytes = drop-drop 1 start bytes ∙ ap (λ (k : ℕ). drop (start + k) bytes) (sym p.0) in
    taken_off bytes (0xc0 ∷ []) start n Heartbeat fault f refl (one ∙ ap (λ (z : List ℕ). 0xc0 ∷ z) rest)

pub no_fault : (fault : Option ModeFault) → ((x : ModeFault) → fault ≡ Some x → ⊥) → fault ≡ None
no_fault None n = refl
no_fault (Some x) n = absurd (n x refl)
