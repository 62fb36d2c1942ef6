use Rattle.std.proofs.Common.{rules}
use Rattle.buffer_store.proofs.Claims.{new_staged}
use Rattle.buffer_store.proofs.Logs.{writes_none}
use Rattle.chunk_journal.specs.Records.{Append}
use Rattle.buffer_store.proofs.growing.add_chunk.Goals as goal

pub take_back-requires-clause-staged : goal.take_back-requires-clause-staged
take_back-requires-clause-staged g c = new_staged c.args.chunks.now c.append.new.self c.args.serial c.args.tag.now c.args.entries.now c.requires.free c.in_ok-append.ensures.ok

pub returns-in_err-append-clause-wrote : goal.returns-in_err-append-clause-wrote
returns-in_err-append-clause-wrote g c = writes_none g.D.Dir.is_honest g.D.Dir.history g.D.Dir.fault_count c.args.log.now (Append c.args.serial c.args.tag.now c.args.entries.now) c.args.synced c.from_residual.result (search rules)
