use Rattle.std.proofs.Common.{◌≡◌, Some, None, rules}
use Rattle.std.specs.FinMap as map
use Rattle.retry_waits.proofs.Places.{held_at}
use Rattle.retry_waits.proofs.failures.Failures.is_over.Goals as goal

pub returns-in-Some : goal.returns-in-Some
returns-in-Some g c =
    let e : map.get c.args.self.now c.args.serial ≡ Some c.in-Some.failed.now = held_at _ _ c.args.serial _ c.self.view_is c.in-Some.ensures.value in
    rw e c.is_over.ensures

pub returns-in-None : goal.returns-in-None
returns-in-None g c =
    let e : map.get c.args.self.now c.args.serial ≡ None = held_at _ _ c.args.serial _ c.self.view_is c.in-None.ensures.value in
    rw e (search rules)
