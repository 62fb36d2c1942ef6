use Rattle.std.proofs.Common.{◌≡◌, []}
use Rattle.std.proofs.lemmas.List.{nil_from_length}
use Rattle.tag_pattern.proofs.Splits.{cut_last, cut_more}
use Rattle.tag_pattern.proofs.cut.first_piece.Goals as goal

pub returns-in-Some-clause-pieces : goal.returns-in-Some-clause-pieces
returns-in-Some-clause-pieces c =
    let whole = rw c.in-Some.ensures.cases.0 at c.cut.ensures in
    cut_more c.args.separator c.args.text.now c.cut.result.0.now _ _ whole

pub returns-in-None-clause-pieces : goal.returns-in-None-clause-pieces
returns-in-None-clause-pieces c =
    let none : c.cut.result.1.now ≡ [] = nil_from_length _ c.in-None.ensures.cases in
    let whole = rw none at c.cut.ensures in
    cut_last c.args.separator c.args.text.now c.cut.result.0.now whole
