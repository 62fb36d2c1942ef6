use Rattle.std.proofs.Common.{◌≡◌, true, take}
use Rattle.std.specs.List.{list_all}
use Rattle.label_plan.specs.Clashes.{are_apart}
use Rattle.label_plan.proofs.sink.are_all_apart.Given as goal

abbrev pub invariant-loop-other : goal.invariant-loop-other
invariant-loop-other g l = list_all (λ other. are_apart other l.sink) (take l.other-index l.outputs) ≡ true
