use Rattle.std.proofs.Common.{refl}
use Rattle.relay_net.proofs.entering.host.Goals as goal

pub returns-in-Some : goal.returns-in-Some
returns-in-Some g c = rw (← c.in-Some.ensures, c.as_bytes.ensures.value) refl

pub returns-in-None : goal.returns-in-None
returns-in-None g c = rw (← c.in-None.ensures) refl
