-- What follows from going through all findings.
use Rattle.std.proofs.Common.{◌≡◌, zero, suc, List, [], ◌∷◌, Result, Ok, Err, inl, inr, refl, subst, arith}
use Rattle.std.specs.Prelude.{⊤, IfOk, IfErr, MatchResult}
use Rattle.std.specs.List.{Any}
use Rattle.conf_text.specs.Trees.{Tree}
use Rattle.relay_conf.specs.declared.fault.RelayFault.{RelayFault}
use Rattle.relay_conf.specs.declared.fault.RelayError.{RelayError}
use Rattle.relay_conf.specs.declared.fault.RelayError.TheVariants as errors
use Rattle.relay_conf.specs.Findings.{Finding, a_fault, a_pattern, Passes, Stands, AllPass, FirstStands, Refuses, Examines}
use Rattle.relay_conf.specs.Faults.{all_found, HasFault, HasNoFault, IsRefusal}

passes_or_stands : (x : Finding) (f : RelayFault) → Passes x → Stands x f → ⊥
passes_or_stands (a_fault kind line) f h s = absurd h
passes_or_stands (a_pattern text line) f h s = s.0 h.0 h.1

none_stands : (xs : List Finding) (f : RelayFault) → AllPass xs → Any (λ x. Stands x f) xs → ⊥
none_stands [] f h (k, x, lt, is, s) = absurd (omega (arith, lt))
none_stands (y ∷ xs) f h (zero, x, lt, is, s) = passes_or_stands x f (subst Passes is h.0) s
none_stands (y ∷ xs) f h (suc k, x, lt, is, s) = none_stands xs f h.1 (k, x, omega (arith, lt), is, s)

none_first : (xs : List Finding) (f : RelayFault) → AllPass xs → FirstStands xs f → ⊥
none_first [] f h s = s
none_first (x ∷ xs) f h (inl s) = passes_or_stands x f h.0 s
none_first (x ∷ xs) f h (inr s) = none_first xs f h.1 s.1

is_memory : (xs : List Finding) (e : RelayError) → AllPass xs → Refuses xs e → e ≡ errors.Memory
is_memory xs errors.Memory h s = refl
is_memory xs (errors.Fault f) h s = absurd (none_first xs f h s)

pub faultless : {X : Type 0} (elements : List Tree) (r : Result X RelayError) → Examines (all_found elements) r → IfOk r (λ x. HasNoFault elements)
faultless elements (Ok x) h = h
faultless elements (Err e) h = tt

pub refused : {X : Type 0} (elements : List Tree) (r : Result X RelayError) → Examines (all_found elements) r → IfErr r (λ e. IsRefusal elements e)
refused elements (Ok x) h = tt
refused elements (Err errors.Memory) h = tt
refused elements (Err (errors.Fault f)) h = h

pub not_read : {X : Type 0} (elements : List Tree) (r : Result X RelayError) → Examines (all_found elements) r → (f : RelayFault) → HasFault elements f → IfOk r (λ x. ⊥)
not_read elements (Ok x) h f s = none_stands (all_found elements) f h s
not_read elements (Err e) h f s = tt

pub read_alone : {X : Type 0} (elements : List Tree) (r : Result X RelayError) → Examines (all_found elements) r → HasNoFault elements → MatchResult r (λ x. ⊤) (λ e. e ≡ errors.Memory)
read_alone elements (Ok x) h n = tt
read_alone elements (Err e) h n = is_memory (all_found elements) e n h
