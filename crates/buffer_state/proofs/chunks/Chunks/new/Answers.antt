use Rattle.std.proofs.Common.{rules}
use Rattle.buffer_state.proofs.Steps.{sound_new}
use Rattle.buffer_state.proofs.chunks.Chunks.new.Goals as goal

pub invariant_of-result : goal.invariant_of-result
invariant_of-result g c = sound_new _ _ _ (search rules) (search rules) (search rules) (search rules)
