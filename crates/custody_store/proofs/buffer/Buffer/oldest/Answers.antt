use Rattle.std.proofs.Common.{◌+◌, length, sym, ap, ◌∙◌, arith}
use Rattle.std.proofs.lemmas.List.{length-map}
use Rattle.custody_store.specs.Buffers.{is_queued}
use Rattle.custody_store.specs.Marks.{contents_from}
use Rattle.custody_store.specs.declared.buffer.Buffer.TheInside.{Inside}
use Rattle.custody_store.proofs.Slots.{chunk_at-view, none_below, none_queued, sound_next}
use Rattle.custody_store.proofs.buffer.Buffer.oldest.Goals as goal

pub returns-then-waits-clause-some : goal.returns-then-waits-clause-some
returns-then-waits-clause-some g c =
    let l = c.loop-self.self-inside in
    let n = l.chunks.ok.0 in
    let same = ap (λ (s : Inside g.row.A.Denot). contents_from s.generation s.chunks.items s.sink.items s.answered.items) c.loop-self.invariant.1 ∙ c.self.view_is in
    let at = chunk_at-view l.generation l.chunks.items l.least c.index.result.now (omega arith) c.index.ensures in
    rw (← same) (simp length-map (omega arith), ap is_queued at ∙ sym c.waits.ensures ∙ c.if-waits.true, none_below _ l.least c.loop-self.invariant.0.not_queued)

pub loop-self-preserved : goal.loop-self-preserved
loop-self-preserved g c =
    let l = c.loop-self.self-inside in
    let n = l.chunks.ok.0 in
    let at = chunk_at-view l.generation l.chunks.items l.least c.index.result.now (omega arith) c.index.ensures in (
      sound_next (length l.claims.items) l.generation l.least l.chunks.items c.loop-self.invariant.0 (ap is_queued at ∙ sym c.waits.ensures ∙ c.if-waits.false),
      ap (λ (s : Inside g.row.A.Denot). record s { least = l.least + 1 }) c.loop-self.invariant.1,
    )

pub returns-clause-none : goal.returns-clause-none
returns-clause-none g c =
    let l = c.loop-self.self-inside in
    let n = l.chunks.ok.0 in
    let same = ap (λ (s : Inside g.row.A.Denot). contents_from s.generation s.chunks.items s.sink.items s.answered.items) c.loop-self.invariant.1 ∙ c.self.view_is in
    rw (← same) (none_queued (length l.claims.items) l.generation l.least l.chunks.items c.loop-self.invariant.0 (omega arith))
