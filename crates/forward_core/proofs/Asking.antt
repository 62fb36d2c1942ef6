-- Each message that is to be delivered is among those that asked.
use Rattle.std.proofs.Common.{ℕ, inl, inr, List, [], ◌∷◌, ◌++◌, map, refl, sym, subst, arith, append_assoc, Option, Some, None}
use Rattle.std.specs.List.{All, AllByRecursion}
use Rattle.std.proofs.lemmas.List.Elements.{All-from_recursion, Contains-append_right}
use Rattle.event_modes.specs.declared.fault.ModeFault.{ModeFault}
use Rattle.event_modes.specs.Message.{Parts}
use Rattle.ack_receipt.specs.Reservations.{Asked, asked_of}
use Rattle.forward_core.specs.declared.demand.Demand.{Demand}
use Rattle.forward_core.specs.Demands.{Delivers, asked_in, wanted}
use Rattle.forward_core.specs.Server.{ServerPhase, Awaiting, Opened, Over, Outcome, ReadsOn, ServerReads, IsAskedIn, close_by}

asks_each : (before : List Asked) (messages : List Parts) (fault : Option ModeFault)
    → AllByRecursion (IsAskedIn (before ++ asked_in (map Delivers messages ++ close_by fault))) (map Delivers messages ++ close_by fault)
asks_each before [] None = tt
asks_each before [] (Some f) = (tt, tt)
asks_each before (m ∷ messages) fault =
    let others = map Delivers messages ++ close_by fault in (
      Contains-append_right before (asked_of m ∷ asked_in others) (asked_of m) (0, omega arith, refl),
      subst (λ (z : List Asked). AllByRecursion (IsAskedIn z) others)
          (append_assoc before (asked_of m ∷ []) (asked_in others)) (asks_each (before ++ asked_of m ∷ []) messages fault),
    )

-- what comes of bytes asks for each message that is to be delivered
abbrev pub AsksEach : List Asked → Outcome → Type 0
AsksEach before out = AllByRecursion (IsAskedIn (before ++ asked_in out.wants)) out.wants

asks_on : (before : List Asked) (sends bytes : List ℕ) (out : Outcome) → ReadsOn sends bytes out → AsksEach before out
asks_on before sends bytes out r = subst (AsksEach before) (sym r.is) (asks_each before r.messages r.fault)

pub asks_all : (before : List Asked) (phase : ServerPhase) (bytes : List ℕ) (out : Outcome) → ServerReads phase bytes out → AsksEach before out
asks_all before (Awaiting server) bytes out r = elim r [
  | inl w ↦ subst (AsksEach before) (sym w.is) tt
  | inr s ↦ elim s [
    | inl l ↦ asks_on before l.pong l.more out l.reads
    | inr x ↦ elim x [ inl y ↦ subst (AsksEach before) (sym y.is) (tt, tt) | inr z ↦ subst (AsksEach before) (sym z.is) (tt, tt) ]
  ]
]
asks_all before Opened bytes out r = asks_on before [] bytes out r
asks_all before Over bytes out r = absurd r

unmap : {X Y : Type 0} (P : Y → Type 0) (f : X → Y) (xs : List X) → AllByRecursion P (map f xs) → AllByRecursion (λ x. P (f x)) xs
unmap P f [] p = tt
unmap P f (x ∷ xs) p = (p.0, unmap P f xs p.1)

-- and so of the demands that say so
pub asks_demands : {A : Type 0} (demands : List (Demand A)) (asked : List Asked) → AllByRecursion (IsAskedIn asked) (map wanted demands)
    → All (λ demand. IsAskedIn asked (wanted demand)) demands
asks_demands demands asked p = All-from_recursion (λ demand. IsAskedIn asked (wanted demand)) demands (unmap (IsAskedIn asked) wanted demands p)
