use Rattle.chunk_journal.proofs.ChunkRecords.{tells_chunks}
use Rattle.chunk_journal.proofs.laws.means_its_chunks.Goals as goal

pub returns : goal.returns
returns c = tells_chunks
