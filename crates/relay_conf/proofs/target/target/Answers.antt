use Rattle.std.proofs.Common.{refl}
use Rattle.relay_conf.proofs.target.target.Goals as goal

pub returns-in-None : goal.returns-in-None
returns-in-None g c = rw c.in-None.is refl

pub returns-in-Some : goal.returns-in-Some
returns-in-Some g c = rw c.in-Some.is c.scope_of.ensures
