use Rattle.std.proofs.Common.{ap, map, refl, ◌∙◌}
use Rattle.buffer_state.specs.Shown.{numbered_facts, seen}
use Rattle.folder_counts.specs.Counts.{chunks_sum, state_counts}
use Rattle.folder_counts.proofs.Totals.{counts_end, counts_more, counts_start}
use Rattle.folder_counts.proofs.journal.count_chunks.Goals as goal

pub loop-facts-init : goal.loop-facts-init
loop-facts-init g c =
    counts_start _ c.into_iter-facts-iterator.result (map numbered_facts c.args.chunks.now.chunks) refl
    (c.into_iter-facts-iterator.ensures.into_iter_gives ∙ c.iter-facts-items.ensures ∙ ap (λ s. map numbered_facts s.chunks) c.of.ensures)

pub loop-facts-preserved : goal.loop-facts-preserved
loop-facts-preserved g c =
    counts_more c.loop-facts.counts c.in_ok-counts.counts (state_counts c.args.chunks.now) (seen c.in-Some.facts) c.loop-facts.facts-iterator c.next.new.self c.loop-facts.invariant
    c.in-Some.ensures.steps (c.in_ok-counts.ensures ∙ ap (chunks_sum c.loop-facts.counts) c.one_chunk.ensures)

pub returns : goal.returns
returns g c = counts_end c.loop-facts.counts (state_counts c.args.chunks.now) c.loop-facts.facts-iterator c.loop-facts.invariant (c.in-None.ensures.steps.0)
