use Rattle.std.proofs.Common.{◌≡◌, ◌≤◌, subst, Some, None, sym, ap, rules}
use Rattle.std.specs.FinMap as map
use Rattle.std.specs.Prelude.{Option, IfSome}
use Rattle.std.specs.Ordering.{nat_cmp}
use Rattle.std.specs.BTreeMap.{is_at}
use Rattle.std.proofs.lemmas.Map.Views.{IfSome-lookup_from_All}
use Rattle.retry_waits.specs.declared.failed.Failed.{Failed}
use Rattle.retry_waits.proofs.Places.{held_at}
use Rattle.retry_waits.proofs.failures.Failures.look.Goals as goal

pub look-requires : goal.look-requires
look-requires g c =
    let all = IfSome-lookup_from_All (λ (f : Failed). 1 ≤ f.count) (is_at (nat_cmp c.args.serial)) _ c.self.invariant in
    record { counted = subst (λ (o : Option Failed). IfSome o (λ f. 1 ≤ f.count)) (sym c.in-Some.ensures.value) all }

pub returns-in-Some : goal.returns-in-Some
returns-in-Some g c =
    let e : map.get c.args.self.now c.args.serial ≡ Some c.in-Some.failed.now = held_at _ _ c.args.serial _ c.self.view_is c.in-Some.ensures.value in
    rw e (ap Some c.look.ensures)

pub returns-in-None : goal.returns-in-None
returns-in-None g c =
    let e : map.get c.args.self.now c.args.serial ≡ None = held_at _ _ c.args.serial _ c.self.view_is c.in-None.ensures.value in
    rw e (search rules)
