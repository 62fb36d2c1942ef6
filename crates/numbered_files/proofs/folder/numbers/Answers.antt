use Rattle.std.proofs.Common.{ℕ, Bool, List, Ok, Err, inl, refl, subst}
use Rattle.std.specs.Prelude.{◌↔◌, IsTrue}
use Rattle.std.specs.Ordering.{nat_cmp}
use Rattle.std.specs.BTreeSet.{contains}
use Rattle.disk_files.specs.Faults.{HasCause, FailsInTurn}
use Rattle.disk_files.specs.declared.dir.DirError.TheVariants.{Memory}
use Rattle.numbered_files.specs.Names.{file_name, IsNamed}
use Rattle.numbered_files.proofs.folder.numbers.Goals as goal

-- a call that went well, and then an answer of another type, or want of memory
module _ {T U : Type 0} (x : T) where
  cause_on : (a b : ℕ) (y : U) → HasCause a b (Ok x) → HasCause a b (Ok y)
  cause_on a b y h = record { later = h.later; passed = h.passed; memory = λ e. absurd (cc e); refused = tt }

  turn_on : (a b : ℕ → Bool) (y : U) → FailsInTurn a b (Ok x) → FailsInTurn a b (Ok y)
  turn_on a b y h = record { first = ((λ e. absurd (cc e)), (λ t. let none = h.first.1 t in absurd (cc none))); later = h.later }

  cause_memory : (a b : ℕ) → HasCause a b (Ok x) → HasCause {T = U} a b (Err Memory)
  cause_memory a b h = record { later = h.later; passed = tt; memory = λ _. h.passed; refused = inl refl }

  turn_memory : (a b : ℕ → Bool) → FailsInTurn a b (Ok x) → FailsInTurn {T = U} a b (Err Memory)
  turn_memory a b h = record { first = ((λ e. absurd (cc e)), (λ t. let none = h.first.1 t in absurd (cc none))); later = h.later }

pub returns-in-Ok-clause-numbers : goal.returns-in-Ok-clause-numbers
returns-in-Ok-clause-numbers g c = λ honest n.
    let listed = c.in_ok-names.ensures.names honest (file_name c.args.family n) in
    let counted = subst (λ (names : List (List ℕ)). IsTrue (contains nat_cmp c.in-Ok.found n) ↔ IsNamed c.args.family names n) c.deref.ensures.value (c.in-Ok.ensures n) in
    ((λ t. let p = counted.0 t in (p.0, p.1, listed.0 p.2)), (λ p. counted.1 (p.0, p.1, listed.1 p.2)))

pub returns-in-Ok-clause-device : goal.returns-in-Ok-clause-device
returns-in-Ok-clause-device g c =
    let names = c.in_ok-names.names in
    let device = c.in_ok-names.ensures.device in record {
      honest = device.honest;
      time = device.time;
      cause = cause_on names _ _ c.in-Ok.found device.cause;
      fault = λ honest. turn_on names _ _ c.in-Ok.found (device.fault honest);
    }

pub returns-clause-device : goal.returns-clause-device
returns-clause-device g c =
    let names = c.in_ok-names.names in
    let device = c.in_ok-names.ensures.device in record {
      honest = device.honest;
      time = device.time;
      cause = cause_memory names _ _ device.cause;
      fault = λ honest. turn_memory names _ _ (device.fault honest);
    }
