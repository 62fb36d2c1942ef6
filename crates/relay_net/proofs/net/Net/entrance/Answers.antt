use Rattle.std.proofs.Common.{refl}
use Rattle.relay_net.proofs.net.Net.entrance.Goals as goal

pub returns-in-Some : goal.returns-in-Some
returns-in-Some g c = rw (← c.source.ensures, c.in-Some.is) refl

pub returns-in-None : goal.returns-in-None
returns-in-None g c = rw (← c.source.ensures, c.in-None.is) refl
