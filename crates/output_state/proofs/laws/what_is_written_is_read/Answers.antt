use Rattle.output_state.proofs.ReadBack.{read_back}
use Rattle.output_state.proofs.laws.what_is_written_is_read.Goals as goal

pub returns : goal.returns
returns c = read_back
