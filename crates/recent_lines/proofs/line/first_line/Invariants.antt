use Rattle.std.proofs.Common.{◌≢◌, take}
use Rattle.std.specs.List.{AllByRecursion}
use Rattle.recent_lines.proofs.line.first_line.Given as goal

abbrev pub invariant-loop-at : goal.invariant-loop-at
invariant-loop-at l = AllByRecursion (λ b. b ≢ 10) (take l.at l.text)
