use Rattle.std.proofs.Common.{inr, false, Some, sym, subst, ◌∙◌, rules}
use Rattle.buffer_state.specs.State.{IsAt}
use Rattle.buffer_state.specs.Steps.{removed}
use Rattle.buffer_state.specs.declared.chunk.Stage.TheVariants.{Claimed}
use Rattle.chunk_journal.specs.Records.{Purge}
use Rattle.journal_files.specs.JournalLogs.{state_of}
use Rattle.buffer_store.specs.Buffers.{Held}
use Rattle.buffer_store.specs.Calls.{Begins}
use Rattle.buffer_store.specs.Logs.{held_of}
use Rattle.buffer_store.specs.declared.fault.BufferFault.{BufferFault}
use Rattle.buffer_store.proofs.Claims.{purge_allowed, purge_same}
use Rattle.buffer_store.proofs.ShortTags.{tags_removed}
use Rattle.buffer_store.proofs.Told.{begins_none, begins_by, sound_wrote, loses_purge}
use Rattle.buffer_store.proofs.buffer.Buffer.purge.Goals as goal

pub returns-then-has_failed-clause-begins : goal.returns-then-has_failed-clause-begins
returns-then-has_failed-clause-begins g c = λ honest. begins_none g.D.Dir.is_honest g.D.Dir.history g.D.Dir.fault_count c.args.self.now BufferFault.Failed (Some (Purge c.args.serial)) (λ t. t) (λ q. cc q)

pub returns-then-not-is_at-clause-begins : goal.returns-then-not-is_at-clause-begins
returns-then-not-is_at-clause-begins g c = λ honest. begins_none g.D.Dir.is_honest g.D.Dir.history g.D.Dir.fault_count c.args.self.now BufferFault.Gone (Some (Purge c.args.serial)) (λ t. t) (λ q. cc q)

pub invariant_of-self : goal.invariant_of-self
invariant_of-self g c =
    let chunks = c.self.inside.chunks in
    let at : IsAt Claimed chunks c.args.serial = search rules in
    sound_wrote g.D.Dir.is_honest g.D.Dir.history g.D.Dir.fault_count c.self.inside.log c.remove_chunk.new.log chunks c.remove_chunk.new.chunks c.self.inside.settings (sym c.has_failed.ensures ∙ c.if-has_failed.false) (Purge c.args.serial) (removed c.args.serial chunks)
    (λ t same. (purge_allowed (state_of t) chunks same c.args.serial (inr at), purge_same (state_of t) chunks same c.args.serial)) false c.remove_chunk.result c.remove_chunk.ensures.wrote c.remove_chunk.ensures.ok c.remove_chunk.ensures.err (tags_removed chunks c.args.serial c.self.invariant.tags)
    (λ t h. loses_purge c.self.inside.log.staged t c.args.serial h) c.self.invariant

pub returns-clause-begins : goal.returns-clause-begins
returns-clause-begins g c = λ honest.
    let v = c.self.view_is in
    let chunks = c.self.inside.chunks in
    let at : IsAt Claimed chunks c.args.serial = search rules in
    subst (λ (b : Held g.row.D.Denot). Begins g.D.Dir.history b (held_of c.remove_chunk.new.log c.remove_chunk.new.chunks c.self.inside.settings) (Some (Purge c.args.serial)) (λ t. t) c.remove_chunk.result) v
    (begins_by g.D.Dir.is_honest g.D.Dir.history g.D.Dir.fault_count c.self.inside.log c.remove_chunk.new.log chunks c.remove_chunk.new.chunks c.self.inside.settings (sym c.has_failed.ensures ∙ c.if-has_failed.false) (Purge c.args.serial) (removed c.args.serial chunks)
    (λ t same. (purge_allowed (state_of t) chunks same c.args.serial (inr at), purge_same (state_of t) chunks same c.args.serial)) false c.remove_chunk.result c.remove_chunk.ensures.wrote c.remove_chunk.ensures.ok c.remove_chunk.ensures.err (subst (λ (b : Held g.row.D.Denot). g.D.Dir.is_honest b.dir) (sym v) honest))
