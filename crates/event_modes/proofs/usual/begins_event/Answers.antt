use Rattle.event_modes.proofs.Alone.{event_time_found, one_byte_found, seconds_found}
use Rattle.event_modes.proofs.usual.begins_event.Goals as goal

pub returns-then-bytes-eq0 : goal.returns-then-bytes-eq0
returns-then-bytes-eq0 c = λ t. event_time_found c.args.bytes.now c.if-bytes-gt10.true c.if-bytes.true c.if-bytes-eq0.true (c.begins_map.ensures t)

pub returns-then-bytes-2 : goal.returns-then-bytes-2
returns-then-bytes-2 c = λ t. seconds_found c.args.bytes.now c.if-bytes-gt5.true c.if-bytes-2.true (c.begins_map-then-bytes-2.ensures t)

pub returns-then-bytes-lt128 : goal.returns-then-bytes-lt128
returns-then-bytes-lt128 c = λ t. one_byte_found c.args.bytes.now c.if-bytes-gt1.true c.if-bytes-lt128.true (c.begins_map-then-bytes-lt128.ensures t)
