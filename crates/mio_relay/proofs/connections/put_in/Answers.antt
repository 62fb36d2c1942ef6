use Rattle.std.proofs.Common.{inr}
use Rattle.mio_relay.proofs.Slots.{none_there}
use Rattle.mio_relay.proofs.connections.put_in.Goals as goal

pub returns : goal.returns
returns g c = inr (record { none = none_there c.args.slot.now c.is_some.result c.is_some.ensures c.if-is_some.false; is = c.replace.ensures.after })
