use Rattle.std.proofs.Common.{true, Some, sym, subst, ◌∙◌, rules}
use Rattle.buffer_state.specs.State.{IsAt}
use Rattle.buffer_state.specs.Steps.{queued_last}
use Rattle.buffer_state.specs.declared.chunk.Stage.TheVariants.{Staged}
use Rattle.chunk_journal.specs.Records.{Queue}
use Rattle.journal_files.specs.JournalLogs.{state_of, all_durable}
use Rattle.buffer_store.specs.Buffers.{Held}
use Rattle.buffer_store.specs.Calls.{Begins}
use Rattle.buffer_store.specs.Logs.{held_of}
use Rattle.buffer_store.specs.declared.fault.BufferFault.{BufferFault}
use Rattle.buffer_store.proofs.Claims.{queue_allowed, queue_same}
use Rattle.buffer_store.proofs.ShortTags.{tags_queued}
use Rattle.buffer_store.proofs.Told.{begins_none, begins_by, sound_wrote, loses_queue}
use Rattle.buffer_store.proofs.buffer.Buffer.enqueue.Goals as goal

pub returns-then-has_failed-clause-begins : goal.returns-then-has_failed-clause-begins
returns-then-has_failed-clause-begins g c = λ honest. begins_none g.D.Dir.is_honest g.D.Dir.history g.D.Dir.fault_count c.args.self.now BufferFault.Failed (Some (Queue c.args.serial)) all_durable (λ q. cc q)

pub returns-then-not-is_at-clause-begins : goal.returns-then-not-is_at-clause-begins
returns-then-not-is_at-clause-begins g c = λ honest. begins_none g.D.Dir.is_honest g.D.Dir.history g.D.Dir.fault_count c.args.self.now BufferFault.Gone (Some (Queue c.args.serial)) all_durable (λ q. cc q)

pub invariant_of-self : goal.invariant_of-self
invariant_of-self g c =
    let chunks = c.self.inside.chunks in
    let at : IsAt Staged chunks c.args.serial = search rules in
    sound_wrote g.D.Dir.is_honest g.D.Dir.history g.D.Dir.fault_count c.self.inside.log c.queue_chunk.new.log chunks c.queue_chunk.new.chunks c.self.inside.settings (sym c.has_failed.ensures ∙ c.if-has_failed.false) (Queue c.args.serial) (queued_last c.args.serial chunks)
    (λ t same. (queue_allowed (state_of t) chunks same c.args.serial at, queue_same (state_of t) chunks same c.args.serial)) true c.queue_chunk.result c.queue_chunk.ensures.wrote c.queue_chunk.ensures.ok c.queue_chunk.ensures.err (tags_queued chunks c.args.serial c.self.invariant.tags)
    (λ t h. loses_queue c.self.inside.log.staged t c.args.serial h) c.self.invariant

pub returns-clause-begins : goal.returns-clause-begins
returns-clause-begins g c = λ honest.
    let v = c.self.view_is in
    let chunks = c.self.inside.chunks in
    let at : IsAt Staged chunks c.args.serial = search rules in
    subst (λ (b : Held g.row.D.Denot). Begins g.D.Dir.history b (held_of c.queue_chunk.new.log c.queue_chunk.new.chunks c.self.inside.settings) (Some (Queue c.args.serial)) all_durable c.queue_chunk.result) v
    (begins_by g.D.Dir.is_honest g.D.Dir.history g.D.Dir.fault_count c.self.inside.log c.queue_chunk.new.log chunks c.queue_chunk.new.chunks c.self.inside.settings (sym c.has_failed.ensures ∙ c.if-has_failed.false) (Queue c.args.serial) (queued_last c.args.serial chunks)
    (λ t same. (queue_allowed (state_of t) chunks same c.args.serial at, queue_same (state_of t) chunks same c.args.serial)) true c.queue_chunk.result c.queue_chunk.ensures.wrote c.queue_chunk.ensures.ok c.queue_chunk.ensures.err (subst (λ (b : Held g.row.D.Denot). g.D.Dir.is_honest b.dir) (sym v) honest))
