use Rattle.std.proofs.Common.{◌≡◌, ℕ, inl, false, None, Some, Ok, sym, ap, subst, ◌∙◌, rules}
use Rattle.std.proofs.lemmas.Option.{same_Some}
use Rattle.buffer_state.specs.State.{IsAt}
use Rattle.buffer_state.specs.Steps.{removed, oldest}
use Rattle.buffer_state.specs.declared.chunk.Stage.TheVariants.{Queued}
use Rattle.chunk_journal.specs.Records.{Purge}
use Rattle.journal_files.specs.JournalLogs.{state_of}
use Rattle.buffer_store.specs.Buffers.{Held}
use Rattle.buffer_store.specs.Calls.{Begins}
use Rattle.buffer_store.specs.Logs.{held_of}
use Rattle.buffer_store.specs.declared.fault.BufferFault.{BufferFault}
use Rattle.buffer_store.proofs.Claims.{purge_allowed, purge_same}
use Rattle.buffer_store.proofs.ShortTags.{tags_removed}
use Rattle.buffer_store.proofs.Told.{begins_none, begins_by, sound_wrote, loses_purge, renamed_err, renamed_ok}
use Rattle.buffer_store.proofs.buffer.Buffer.drop_oldest.Goals as goal

pub returns-then-has_failed-clause-begins : goal.returns-then-has_failed-clause-begins
returns-then-has_failed-clause-begins g c = λ honest serial first. begins_none g.D.Dir.is_honest g.D.Dir.history g.D.Dir.fault_count c.args.self.now BufferFault.Failed (Some (Purge serial)) (λ t. t) (λ q. cc q)

pub invariant_of-self : goal.invariant_of-self
invariant_of-self g c =
    let chunks = c.self.inside.chunks in
    let serial = c.in-Some.serial in
    let at : IsAt Queued chunks serial = search rules in
    sound_wrote g.D.Dir.is_honest g.D.Dir.history g.D.Dir.fault_count c.self.inside.log c.remove_chunk.new.log chunks c.remove_chunk.new.chunks c.self.inside.settings (sym c.has_failed.ensures ∙ c.if-has_failed.false) (Purge serial) (removed serial chunks)
    (λ t same. (purge_allowed (state_of t) chunks same serial (inl at), purge_same (state_of t) chunks same serial)) false c.remove_chunk.result c.remove_chunk.ensures.wrote c.remove_chunk.ensures.ok c.remove_chunk.ensures.err
    (tags_removed chunks serial c.self.invariant.tags) (λ t h. loses_purge c.self.inside.log.staged t serial h) c.self.invariant

pub invariant_of-self-2 : goal.invariant_of-self-2
invariant_of-self-2 g c =
    let chunks = c.self.inside.chunks in
    let serial = c.in-Some.serial in
    let at : IsAt Queued chunks serial = search rules in
    sound_wrote g.D.Dir.is_honest g.D.Dir.history g.D.Dir.fault_count c.self.inside.log c.remove_chunk.new.log chunks c.remove_chunk.new.chunks c.self.inside.settings (sym c.has_failed.ensures ∙ c.if-has_failed.false) (Purge serial) (removed serial chunks)
    (λ t same. (purge_allowed (state_of t) chunks same serial (inl at), purge_same (state_of t) chunks same serial)) false c.remove_chunk.result c.remove_chunk.ensures.wrote c.remove_chunk.ensures.ok c.remove_chunk.ensures.err
    (tags_removed chunks serial c.self.invariant.tags) (λ t h. loses_purge c.self.inside.log.staged t serial h) c.self.invariant

pub returns-in_err-remove_chunk-clause-begins : goal.returns-in_err-remove_chunk-clause-begins
returns-in_err-remove_chunk-clause-begins g c = λ honest serial first.
    let v = c.self.view_is in
    let chunks = c.self.inside.chunks in
    let found = c.in-Some.serial in
    let at : IsAt Queued chunks found = search rules in
    let new : Held g.row.D.Denot = held_of c.remove_chunk.new.log c.remove_chunk.new.chunks c.self.inside.settings in
    let here : oldest chunks ≡ Some found = search rules in
    let is : found ≡ serial = same_Some found serial (sym here ∙ ap (λ (b : Held g.row.D.Denot). oldest b.chunks) v ∙ first) in
    subst (λ (n : ℕ). Begins g.D.Dir.history c.args.self.now new (Some (Purge n)) (λ t. t) c.from_residual.result) is
    (subst (λ (b : Held g.row.D.Denot). Begins g.D.Dir.history b new (Some (Purge found)) (λ t. t) c.from_residual.result) v
    (renamed_err g.D.Dir.is_honest g.D.Dir.history g.D.Dir.fault_count (held_of c.self.inside.log chunks c.self.inside.settings) new (Some (Purge found)) (λ t. t) c.remove_chunk.result c.from_residual.result c.in_err-remove_chunk.field-0.0 c.in_err-remove_chunk.was (search rules)
    (begins_by g.D.Dir.is_honest g.D.Dir.history g.D.Dir.fault_count c.self.inside.log c.remove_chunk.new.log chunks c.remove_chunk.new.chunks c.self.inside.settings (sym c.has_failed.ensures ∙ c.if-has_failed.false) (Purge found) (removed found chunks)
    (λ t same. (purge_allowed (state_of t) chunks same found (inl at), purge_same (state_of t) chunks same found)) false c.remove_chunk.result c.remove_chunk.ensures.wrote c.remove_chunk.ensures.ok c.remove_chunk.ensures.err
    (subst (λ (b : Held g.row.D.Denot). g.D.Dir.is_honest b.dir) (sym v) honest))))

pub returns-clause-begins : goal.returns-clause-begins
returns-clause-begins g c = λ honest serial first.
    let v = c.self.view_is in
    let chunks = c.self.inside.chunks in
    let found = c.in-Some.serial in
    let at : IsAt Queued chunks found = search rules in
    let new : Held g.row.D.Denot = held_of c.remove_chunk.new.log c.remove_chunk.new.chunks c.self.inside.settings in
    let here : oldest chunks ≡ Some found = search rules in
    let is : found ≡ serial = same_Some found serial (sym here ∙ ap (λ (b : Held g.row.D.Denot). oldest b.chunks) v ∙ first) in
    subst (λ (n : ℕ). Begins g.D.Dir.history c.args.self.now new (Some (Purge n)) (λ t. t) (Ok found)) is
    (subst (λ (b : Held g.row.D.Denot). Begins g.D.Dir.history b new (Some (Purge found)) (λ t. t) (Ok found)) v
    (renamed_ok g.D.Dir.is_honest g.D.Dir.history g.D.Dir.fault_count (held_of c.self.inside.log chunks c.self.inside.settings) new (Some (Purge found)) (λ t. t) c.remove_chunk.result (tt {0}) found c.in_ok-remove_chunk.was
    (begins_by g.D.Dir.is_honest g.D.Dir.history g.D.Dir.fault_count c.self.inside.log c.remove_chunk.new.log chunks c.remove_chunk.new.chunks c.self.inside.settings (sym c.has_failed.ensures ∙ c.if-has_failed.false) (Purge found) (removed found chunks)
    (λ t same. (purge_allowed (state_of t) chunks same found (inl at), purge_same (state_of t) chunks same found)) false c.remove_chunk.result c.remove_chunk.ensures.wrote c.remove_chunk.ensures.ok c.remove_chunk.ensures.err
    (subst (λ (b : Held g.row.D.Denot). g.D.Dir.is_honest b.dir) (sym v) honest))))

pub returns-then-has_failed-clause-empty : goal.returns-then-has_failed-clause-empty
returns-then-has_failed-clause-empty g c = λ none. begins_none g.D.Dir.is_honest g.D.Dir.history g.D.Dir.fault_count c.args.self.now BufferFault.Failed None (λ t. t) (λ q. cc q)

pub returns-in_default-clause-empty : goal.returns-in_default-clause-empty
returns-in_default-clause-empty g c = λ none. begins_none g.D.Dir.is_honest g.D.Dir.history g.D.Dir.fault_count c.args.self.now BufferFault.Gone None (λ t. t) (λ q. cc q)

pub returns-in_err-remove_chunk-clause-empty : goal.returns-in_err-remove_chunk-clause-empty
returns-in_err-remove_chunk-clause-empty g c = λ none.
    let here : oldest c.self.inside.chunks ≡ Some c.in-Some.serial = search rules in
    absurd (let gone = sym here ∙ ap (λ (b : Held g.row.D.Denot). oldest b.chunks) c.self.view_is ∙ none in cc gone)

pub returns-clause-empty : goal.returns-clause-empty
returns-clause-empty g c = λ none.
    let here : oldest c.self.inside.chunks ≡ Some c.in-Some.serial = search rules in
    absurd (let gone = sym here ∙ ap (λ (b : Held g.row.D.Denot). oldest b.chunks) c.self.view_is ∙ none in cc gone)
