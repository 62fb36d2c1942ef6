use Rattle.std.proofs.Common.{◌≡◌, false, take}
use Rattle.std.specs.List.{AllByRecursion}
use Rattle.tag_pattern.specs.Cuts.{is_among}
use Rattle.tag_pattern.proofs.cut.cut.Given as goal

abbrev pub invariant-loop-at : goal.invariant-loop-at
invariant-loop-at l = AllByRecursion (λ b. is_among l.marks b ≡ false) (take l.at l.text)
