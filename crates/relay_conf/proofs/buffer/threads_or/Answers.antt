use Rattle.std.proofs.Common.{refl}
use Rattle.relay_conf.proofs.buffer.threads_or.Goals as goal

pub returns-in-None : goal.returns-in-None
returns-in-None g c =
    let none = rw c.in-None.is at c.value_of.ensures in
    rw (← none) refl

pub returns-in-Some : goal.returns-in-Some
returns-in-Some g c =
    let some = rw c.in-Some.is at c.value_of.ensures in
    rw (← some, ← c.as_bytes.ensures.value, ← c.threads.ensures) c.unwrap_or.ensures
