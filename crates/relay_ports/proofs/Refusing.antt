-- What a relay's setup is, and that a refusal to make one isn't another.
use Rattle.std.proofs.Common.{◌≡◌, ◌∙◌, ℕ, List, ap, sym}
use Rattle.std.specs.Prelude.{Result, Err}
use Rattle.std.specs.Result.{IsErrAnd}
use Rattle.std.proofs.lemmas.Result.{err_from_is_err_and}
use Rattle.relay_conf.specs.declared.relay.Relay.{Relay}
use Rattle.route_graph.specs.Table.{Table, table_of}
use Rattle.relay_ports.specs.declared.buffered.BufferedOutput.{BufferedOutput}
use Rattle.relay_ports.specs.declared.fault.SetupFault.{SetupFault}
use Rattle.relay_ports.specs.declared.fault.SetupFault.TheVariants as fault
use Rattle.relay_ports.specs.Outputs.{outputs_in}
use Rattle.relay_ports.specs.Setups.{Setup, setup_of}

-- it is of the relay that was read
pub made_so : {A : Type 0} (number : ℕ) (relay : Relay A) (table : Table) (outputs : List (BufferedOutput A)) → table ≡ table_of relay → outputs ≡ outputs_in relay.scopes.items
    → ◌≡◌ {A = Setup A} (record { number = number; table = table; sources = relay.sources.items; outputs = outputs }) (setup_of number relay)
made_so number relay table outputs t o = λ i. record { number = number; table = t i; sources = relay.sources.items; outputs = o i }

module _ {T : Type 0} where
  pub number_not_path : ◌≡◌ {A = Result T SetupFault} (Err fault.Number) (Err fault.Path) → ⊥
  number_not_path e = cc e

  pub path_not_number : ◌≡◌ {A = Result T SetupFault} (Err fault.Path) (Err fault.Number) → ⊥
  path_not_number e = cc e

  -- where there was no memory
  memory : (r : Result T SetupFault) → IsErrAnd r (λ e. e ≡ fault.Memory) → r ≡ Err fault.Memory
  memory r is = let p = err_from_is_err_and r is in p.1 ∙ ap Err p.2

  pub memory_not_path : (r : Result T SetupFault) → IsErrAnd r (λ e. e ≡ fault.Memory) → r ≡ Err fault.Path → ⊥
  memory_not_path r is path = let e = sym (memory r is) ∙ path in cc e

  pub memory_not_number : (r : Result T SetupFault) → IsErrAnd r (λ e. e ≡ fault.Memory) → r ≡ Err fault.Number → ⊥
  memory_not_number r is number = let e = sym (memory r is) ∙ number in cc e
