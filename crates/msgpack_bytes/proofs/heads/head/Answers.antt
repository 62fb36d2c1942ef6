use Rattle.msgpack_bytes.proofs.Slices.{drop_first}
use Rattle.msgpack_bytes.proofs.Sound.{computed_right, computed_only}
use Rattle.msgpack_bytes.proofs.heads.head.Goals as goal

pub returns-clause-right : goal.returns-clause-right
returns-clause-right c =
    let there = c.in_ok-first.ensures.lookup in
    let begins = drop_first c.args.bytes.now c.args.at c.in_ok-first.field-0.now there.3.0 there.3.1 in
    let fit = rw c.shape.ensures.row at c.shape.ensures.fit in
    rw (c.read.ensures, c.shape.ensures.row) (computed_right c.args.bytes.now c.args.at c.in_ok-first.field-0.now there.3.0 begins fit)

pub returns-clause-only : goal.returns-clause-only
returns-clause-only c = λ other r. (
    let there = c.in_ok-first.ensures.lookup in
    let begins = drop_first c.args.bytes.now c.args.at c.in_ok-first.field-0.now there.3.0 there.3.1 in
    let fit = rw c.shape.ensures.row at c.shape.ensures.fit in
    rw (c.read.ensures, c.shape.ensures.row) (computed_only c.args.bytes.now c.args.at c.in_ok-first.field-0.now there.3.0 begins fit other r)
    )
