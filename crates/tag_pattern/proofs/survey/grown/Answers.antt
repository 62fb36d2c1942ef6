use Rattle.std.proofs.Common.{◌<◌, arith}
use Rattle.std.proofs.Math.Nat.{mul-pos}
use Rattle.tag_pattern.proofs.Splits.{pieces_length}
use Rattle.tag_pattern.specs.Cuts.{comma}
use Rattle.tag_pattern.proofs.survey.grown.Goals as goal

pub returns-clause-within : goal.returns-clause-within
returns-clause-within c =
    let some : 0 < c.piece_count-count.result = rw c.piece_count-count.ensures (pieces_length comma c.args.body.now) in
    (mul-pos c.requires.0 some, omega arith, omega arith)
