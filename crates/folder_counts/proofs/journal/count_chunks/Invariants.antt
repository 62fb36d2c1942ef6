use Rattle.std.proofs.Common.{◌≡◌}
use Rattle.folder_counts.specs.Counts.{chunk_counts, chunks_sum, state_counts}
use Rattle.folder_counts.proofs.journal.count_chunks.Given as goal

abbrev pub invariant-loop-facts : goal.invariant-loop-facts
invariant-loop-facts g l = chunks_sum l.counts (chunk_counts l.facts-iterator) ≡ state_counts l.chunks
