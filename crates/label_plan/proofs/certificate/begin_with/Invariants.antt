use Rattle.std.proofs.Common.{◌≡◌, map, take}
use Rattle.label_plan.proofs.certificate.begin_with.Given as goal

abbrev pub invariant-loop-at : goal.invariant-loop-at
invariant-loop-at l = take l.at (map (λ line. line.now) l.all) ≡ take l.at (map (λ line. line.now) l.own)
