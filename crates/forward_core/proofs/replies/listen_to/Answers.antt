use Rattle.std.proofs.Common.{inl}
use Rattle.forward_core.proofs.Replying.{front_scanned, passing_more, heard_bad, heard_seen, heard_wait, fewer_left, other_item}
use Rattle.forward_core.proofs.replies.listen_to.Goals as goal

pub items-preserved : goal.items-preserved
items-preserved g c =
    let f = front_scanned c.args.bytes.now c.split_at.result.1.now c.items.at c.in-End.end c.items.invariant.within c.split_at.ensures.back c.in-End.ensures.right in
    passing_more c.args.chunk c.args.bytes.now c.items.at c.in-End.end c.items.invariant f.0
    (rw (← c.split_at.ensures.back, ← c.split_at-in-End.ensures.front) c.in-Passed.ensures)

pub returns-in-Other : goal.returns-in-Other
returns-in-Other g c =
    let f = front_scanned c.args.bytes.now c.split_at.result.1.now c.items.at c.in-End.end c.items.invariant.within c.split_at.ensures.back c.in-End.ensures.right in
    heard_bad c.args.chunk c.args.bytes.now c.items.at c.items.invariant
    (other_item c.args.bytes.now c.items.at c.in-End.end f.0 f.1 (rw (← c.split_at.ensures.back, ← c.split_at-in-End.ensures.front) c.in-Other.ensures))

pub items-smaller : goal.items-smaller
items-smaller g c =
    let f = front_scanned c.args.bytes.now c.split_at.result.1.now c.items.at c.in-End.end c.items.invariant.within c.split_at.ensures.back c.in-End.ensures.right in
    fewer_left c.args.bytes.now c.items.at c.in-End.end f.0

pub returns-in-Need : goal.returns-in-Need
returns-in-Need g c = heard_wait c.args.chunk c.args.bytes.now c.items.at c.items.invariant (rw (← c.split_at.ensures.back) c.in-Need.ensures.right)

pub returns-in-Bad : goal.returns-in-Bad
returns-in-Bad g c =
    heard_bad c.args.chunk c.args.bytes.now c.items.at c.items.invariant (inl (c.in-Bad.field-0, rw (← c.split_at.ensures.back) c.in-Bad.ensures.right))

pub returns-in-Seen : goal.returns-in-Seen
returns-in-Seen g c =
    let f = front_scanned c.args.bytes.now c.split_at.result.1.now c.items.at c.in-End.end c.items.invariant.within c.split_at.ensures.back c.in-End.ensures.right in
    let seen = c.in-Seen.ensures in
    heard_seen c.args.chunk c.args.bytes.now c.items.at c.in-End.end c.in-Seen.evidence seen.0 c.items.invariant f.0 seen.1 seen.2
    (rw (← c.split_at.ensures.back, ← c.split_at-in-End.ensures.front) seen.3)
