use Rattle.std.proofs.Common.{◌≡◌, ◌==◌, count_by, rules, refl}
use Rattle.std.proofs.lemmas.List.Splits.{length-slice_split}
use Rattle.tag_pattern.proofs.cut.piece_count.Goals as goal

pub returns : goal.returns
returns c =
    let n : c.count.result ≡ count_by (λ b. b == c.args.separator) c.args.text.now = search rules in
    rw (length-slice_split, n) refl
