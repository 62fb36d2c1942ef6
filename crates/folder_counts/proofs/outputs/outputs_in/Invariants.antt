use Rattle.folder_counts.proofs.Said.{AreFirst}
use Rattle.folder_counts.proofs.outputs.outputs_in.Given as goal

abbrev pub invariant-loop-state : goal.invariant-loop-state
invariant-loop-state g l = AreFirst l.state-items l.state-index l.outputs.items
