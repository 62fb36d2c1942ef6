use Rattle.std.proofs.Common.{◌==◌}
use Rattle.std.specs.List.{slice_split}
use Rattle.tag_pattern.proofs.CutSteps.{piece_passed, piece_left}
use Rattle.tag_pattern.proofs.cut.nth_piece.Goals as goal

pub unreachable-requires : goal.unreachable-requires
unreachable-requires c =
    let last = rw c.in-None.is at c.first_piece.ensures.pieces in
    piece_left (slice_split (λ b. b == c.args.separator) c.args.text.now) _ c.loop.counter c.args.number _ c.loop.invariant last c.loop-test.true c.requires

pub loop-preserved : goal.loop-preserved
loop-preserved c =
    let more = rw c.in-Some.is at c.first_piece.ensures.pieces in
    piece_passed (slice_split (λ b. b == c.args.separator) c.args.text.now) _ c.loop.counter _ _ c.loop.invariant more
