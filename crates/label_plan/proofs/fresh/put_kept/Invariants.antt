use Rattle.std.proofs.Common.{◌≡◌, map, take}
use Rattle.label_plan.specs.Lines.{kept_lines}
use Rattle.label_plan.proofs.fresh.put_kept.Given as goal

abbrev pub invariant-loop-line : goal.invariant-loop-line
invariant-loop-line g l = l.text.items ≡ kept_lines (map (λ line. line.now) (take l.line-index l.lines))
