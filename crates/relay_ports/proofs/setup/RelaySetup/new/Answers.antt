use Rattle.std.proofs.Common.{◌<◌, ◌^◌, ◌∙◌, List, length, subst, sym, arith}
use Rattle.std.proofs.lemmas.Bool.{false≢true}
use Rattle.relay_ports.specs.declared.buffered.BufferedOutput.{BufferedOutput}
use Rattle.relay_ports.specs.Outputs.{AreInOrder, HaveOwnPaths}
use Rattle.relay_ports.specs.Setups.{CanRun}
use Rattle.relay_ports.proofs.Refusing.{made_so, memory_not_number, memory_not_path, number_not_path, path_not_number}
use Rattle.relay_ports.proofs.setup.RelaySetup.new.Goals as goal

pub returns-then-not-are_in_order-clause-numbers : goal.returns-then-not-are_in_order-clause-numbers
returns-then-not-are_in_order-clause-numbers g c e runs =
    let same = sym (c.deref.ensures.value ∙ c.in_ok-outputs.ensures) in
    absurd (false≢true (cc (c.if-not-are_in_order.true, c.are_in_order.ensures.1 (subst AreInOrder same runs.in_order))))

pub returns-then-len-gt-MOST_BUFFERS-clause-numbers : goal.returns-then-len-gt-MOST_BUFFERS-clause-numbers
returns-then-len-gt-MOST_BUFFERS-clause-numbers g c e runs =
    let few : length c.in_ok-outputs.outputs.items < 2 ^ 32 = subst (λ (l : List (BufferedOutput _)). length l < 2 ^ 32) (sym c.in_ok-outputs.ensures) runs.few in
    absurd (omega (arith, few, c.len.ensures, c.if-len-gt-MOST_BUFFERS.true))

pub returns-then-not-have_own_paths-clause-path : goal.returns-then-not-have_own_paths-clause-path
returns-then-not-have_own_paths-clause-path g c e own =
    let same = sym (c.deref-2.ensures.value ∙ c.in_ok-outputs.ensures) in
    absurd (false≢true (cc (c.if-not-have_own_paths.true, c.have_own_paths.ensures.1 (subst HaveOwnPaths same own))))

pub invariant_of-result : goal.invariant_of-result
invariant_of-result g c = record {
  in_order = subst AreInOrder c.deref.ensures.value (c.are_in_order.ensures.0 c.if-not-are_in_order.false);
  few = omega (arith, c.len.ensures, c.if-len-gt-MOST_BUFFERS.false);
  own_paths = subst HaveOwnPaths c.deref-2.ensures.value (c.have_own_paths.ensures.0 c.if-not-have_own_paths.false);
}

pub returns-clause-runs : goal.returns-clause-runs
returns-clause-runs g c = subst CanRun c.in_ok-outputs.ensures (invariant_of-result g c)

pub returns-in_err-new-clause-path : goal.returns-in_err-new-clause-path
returns-in_err-new-clause-path g c e _ = memory_not_path c.from_residual.result c.from_residual.ensures.1 e

pub returns-in_err-new-clause-numbers : goal.returns-in_err-new-clause-numbers
returns-in_err-new-clause-numbers g c e _ = memory_not_number c.from_residual.result c.from_residual.ensures.1 e

pub returns-in_err-routes-clause-path : goal.returns-in_err-routes-clause-path
returns-in_err-routes-clause-path g c e _ = memory_not_path c.from_residual-in_err-routes.result c.from_residual-in_err-routes.ensures.1 e

pub returns-in_err-routes-clause-numbers : goal.returns-in_err-routes-clause-numbers
returns-in_err-routes-clause-numbers g c e _ = memory_not_number c.from_residual-in_err-routes.result c.from_residual-in_err-routes.ensures.1 e

pub returns-in_err-outputs-clause-path : goal.returns-in_err-outputs-clause-path
returns-in_err-outputs-clause-path g c e _ = memory_not_path c.from_residual-in_err-outputs.result c.from_residual-in_err-outputs.ensures.1 e

pub returns-in_err-outputs-clause-numbers : goal.returns-in_err-outputs-clause-numbers
returns-in_err-outputs-clause-numbers g c e _ = memory_not_number c.from_residual-in_err-outputs.result c.from_residual-in_err-outputs.ensures.1 e

pub returns-then-not-are_in_order-clause-path : goal.returns-then-not-are_in_order-clause-path
returns-then-not-are_in_order-clause-path g c e _ = number_not_path e

pub returns-then-len-gt-MOST_BUFFERS-clause-path : goal.returns-then-len-gt-MOST_BUFFERS-clause-path
returns-then-len-gt-MOST_BUFFERS-clause-path g c e _ = number_not_path e

pub returns-then-not-have_own_paths-clause-numbers : goal.returns-then-not-have_own_paths-clause-numbers
returns-then-not-have_own_paths-clause-numbers g c e _ = path_not_number e

pub returns-clause-setup : goal.returns-clause-setup
returns-clause-setup g c = made_so c.args.number c.args.relay _ c.in_ok-outputs.outputs.items (c.in_ok-routes.ensures.ok ∙ c.in_ok-new.ensures) c.in_ok-outputs.ensures
