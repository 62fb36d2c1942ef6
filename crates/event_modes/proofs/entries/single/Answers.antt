use Rattle.std.proofs.Common.{arith}
use Rattle.event_modes.proofs.Collected.{part_text, stored_is}
use Rattle.event_modes.proofs.entries.single.Goals as goal

pub event_of-requires-clause-time : goal.event_of-requires-clause-time
event_of-requires-clause-time g c = part_text c.args.time.now c.requires.0 (let l = c.requires.2 in omega arith)

pub event_of-requires-clause-fields : goal.event_of-requires-clause-fields
event_of-requires-clause-fields g c = part_text c.args.fields.now c.requires.1 (let l = c.requires.2 in omega arith)

pub push-requires : goal.push-requires
push-requires g c = stored_is c.args.time.now c.args.fields.now c.requires.0 c.requires.1 c.in_ok-event_of.ensures.event.0 c.in_ok-event_of.ensures.event.1 c.requires.2
