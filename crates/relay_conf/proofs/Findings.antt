-- Going through findings one list after the other.
use Rattle.std.proofs.Common.{List, [], ◌∷◌, ◌++◌, Result, Ok, Err, inl, inr}
use Rattle.relay_conf.specs.declared.fault.RelayFault.{RelayFault}
use Rattle.relay_conf.specs.declared.fault.RelayError.{RelayError}
use Rattle.relay_conf.specs.declared.fault.RelayError.TheVariants as errors
use Rattle.relay_conf.specs.Findings.{Finding, AllPass, FirstStands, Refuses, Examines}

pub AllPass-append : (xs ys : List Finding) → AllPass xs → AllPass ys → AllPass (xs ++ ys)
AllPass-append [] ys h k = k
AllPass-append (x ∷ xs) ys h k = (h.0, AllPass-append xs ys h.1 k)

first_in_front : (xs ys : List Finding) (f : RelayFault) → FirstStands xs f → FirstStands (xs ++ ys) f
first_in_front [] ys f h = absurd h
first_in_front (x ∷ xs) ys f (inl h) = inl h
first_in_front (x ∷ xs) ys f (inr h) = inr (h.0, first_in_front xs ys f h.1)

first_behind : (xs ys : List Finding) (f : RelayFault) → AllPass xs → FirstStands ys f → FirstStands (xs ++ ys) f
first_behind [] ys f h k = k
first_behind (x ∷ xs) ys f h k = inr (h.0, first_behind xs ys f h.1 k)

-- an error in the front
pub refuses_front : (xs ys : List Finding) (e : RelayError) → Refuses xs e → Refuses (xs ++ ys) e
refuses_front xs ys errors.Memory h = tt
refuses_front xs ys (errors.Fault f) h = first_in_front xs ys f h

pub refuses_behind : (xs ys : List Finding) (e : RelayError) → AllPass xs → Refuses ys e → Refuses (xs ++ ys) e
refuses_behind xs ys errors.Memory h k = tt
refuses_behind xs ys (errors.Fault f) h k = first_behind xs ys f h k

-- the front passes, and this comes of what is behind it
pub examines_behind : {X : Type 0} (xs ys : List Finding) (r : Result X RelayError) → AllPass xs → Examines ys r → Examines (xs ++ ys) r
examines_behind xs ys (Ok x) h k = AllPass-append xs ys h k
examines_behind xs ys (Err e) h k = refuses_behind xs ys e h k

-- what comes of the rest is what comes of all
abbrev pub Continues : List Finding → List Finding → Type 0
Continues rest all = (r : Result (Unit {0}) RelayError) → Examines rest r → Examines all r

-- the next findings pass
pub continues_behind : (here rest all : List Finding) → AllPass here → Continues (here ++ rest) all → Continues rest all
continues_behind here rest all h k = λ r x. k r (examines_behind here rest r h x)
