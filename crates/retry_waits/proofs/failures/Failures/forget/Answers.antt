use Rattle.std.proofs.Common.{ℕ, ◌≤◌, ap, ◌∙◌}
use Rattle.std.specs.FinMap as map
use Rattle.std.specs.Ordering.{nat_cmp}
use Rattle.std.specs.BTreeMap.{is_at}
use Rattle.std.proofs.lemmas.Map.Views.{All-map-remove_entry}
use Rattle.retry_waits.specs.declared.failed.Failed.{Failed}
use Rattle.retry_waits.proofs.Places.{taken_at}
use Rattle.retry_waits.proofs.failures.Failures.forget.Goals as goal

pub invariant_of-self : goal.invariant_of-self
invariant_of-self g c = rw c.remove.ensures.entries (All-map-remove_entry (is_at (nat_cmp c.args.serial)) (λ (e : ℕ × Failed). e.1) (λ (f : Failed). 1 ≤ f.count) _ c.self.invariant)

pub returns : goal.returns
returns g c = taken_at _ _ c.args.serial c.remove.ensures.updates.0 ∙ ap (λ m. map.remove m c.args.serial) c.self.view_is
