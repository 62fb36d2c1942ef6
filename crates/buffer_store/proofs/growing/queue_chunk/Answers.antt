use Rattle.std.proofs.Common.{true, rules}
use Rattle.buffer_store.proofs.Logs.{writes_none}
use Rattle.chunk_journal.specs.Records.{Queue}
use Rattle.buffer_store.proofs.growing.queue_chunk.Goals as goal

pub returns-in_err-ready-clause-wrote : goal.returns-in_err-ready-clause-wrote
returns-in_err-ready-clause-wrote g c = writes_none g.D.Dir.is_honest g.D.Dir.history g.D.Dir.fault_count c.args.log.now (Queue c.args.serial) true c.from_residual.result (search rules)
