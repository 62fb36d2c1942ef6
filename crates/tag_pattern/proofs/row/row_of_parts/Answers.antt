use Rattle.std.proofs.Common.{◌≡◌, ◌+◌, ◌-◌, arith}
use Rattle.tag_pattern.specs.Items.{items_of}
use Rattle.tag_pattern.proofs.PartSteps.{matched_none, matched_all, part_dot, part_byte}
use Rattle.tag_pattern.proofs.row.row_of_parts.Goals as goal

pub loop-at-init : goal.loop-at-init
loop-at-init g c = (omega arith, omega arith, matched_none (items_of c.args.others.now) c.args.behind c.args.bytes.now)

pub loop-at-preserved-then-bytes-at-eq46 : goal.loop-at-preserved-then-bytes-at-eq46
loop-at-preserved-then-bytes-at-eq46 g c =
    let held = c.loop-at.invariant in
    let back : c.loop-at.at - 1 + 1 ≡ c.loop-at.at = omega arith in
    let next = rw back at c.next_row-row.ensures in
    (omega arith, omega arith, part_dot (items_of c.args.others.now) c.args.behind c.args.bytes.now _ _ _ _ (omega arith) (omega arith) c.if-bytes-at-eq46.true held.2 next)

pub loop-at-preserved : goal.loop-at-preserved
loop-at-preserved g c =
    let held = c.loop-at.invariant in
    (omega arith, held.1, part_byte (items_of c.args.others.now) c.args.behind c.args.bytes.now _ _ _ (omega arith) (omega arith) held.0 c.if-bytes-at-eq46.false held.2)

pub returns : goal.returns
returns g c = matched_all (items_of c.args.others.now) c.args.behind c.args.bytes.now _ _ _ _ (omega arith) c.loop-at.invariant.2 c.next_row.ensures
