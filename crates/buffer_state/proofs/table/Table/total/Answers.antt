use Rattle.buffer_state.proofs.Tables.{total_small}
use Rattle.buffer_state.proofs.table.Table.total.Goals as goal

pub returns-clause-small : goal.returns-clause-small
returns-clause-small g c = total_small _ c.self.inside.tags c.self.inside.total c.self.invariant
