use Rattle.std.proofs.Common.{◌≡◌, ℕ, List, length, Some, Err, sym, ap, subst, ◌∙◌, rules}
use Rattle.std.specs.List.{concat}
use Rattle.buffer_state.specs.State.{Chunk, chunk_at}
use Rattle.buffer_store.specs.Buffers.{Held}
use Rattle.buffer_store.specs.Calls.{OnlyReads}
use Rattle.buffer_store.specs.Durability.{BeganWell}
use Rattle.buffer_store.specs.Logs.{held_of}
use Rattle.buffer_store.specs.declared.fault.BufferFault.{BufferFault}
use Rattle.buffer_store.proofs.Looking.{reason_again, reason_quiet, reads_none, reads_by}
use Rattle.buffer_store.proofs.Bodies.{sound_read, entries_same, of_chunk}
use Rattle.buffer_store.proofs.buffer.Buffer.body.Goals as goal

pub returns-in_err-bytes-clause-undamaged : goal.returns-in_err-bytes-clause-undamaged
returns-in_err-bytes-clause-undamaged g c = λ began q.
    let began0 : BeganWell g.D.Dir.is_honest g.D.Dir.history (held_of c.self.inside.log c.self.inside.chunks c.self.inside.settings) = subst (λ (b : Held g.row.D.Denot). BeganWell g.D.Dir.is_honest g.D.Dir.history b) (sym c.self.view_is) began in
    let durable = c.self.invariant.durable began0 in
    let told = durable.going (ap (λ (b : Held g.row.D.Denot). b.failed) c.self.view_is ∙ sym c.has_failed.ensures ∙ c.if-has_failed.false) in
    let is : c.from_residual.result ≡ Err c.in_err-bytes.field-0.0 = search rules in
    let same : c.in_err-bytes.field-0.0 ≡ BufferFault.Damaged = cc (is, q) in
    c.body.ensures.whole durable.honest durable.logged told.keeps (c.in_err-bytes.was ∙ ap (λ (e : BufferFault). Err e) same)

pub returns-then-has_failed-clause-reads : goal.returns-then-has_failed-clause-reads
returns-then-has_failed-clause-reads g c = reads_none g.D.Dir.is_honest g.D.Dir.history g.D.Dir.fault_count c.args.self.now BufferFault.Failed (λ q. cc q)

pub returns-in_default-clause-reads : goal.returns-in_default-clause-reads
returns-in_default-clause-reads g c = reads_none g.D.Dir.is_honest g.D.Dir.history g.D.Dir.fault_count c.args.self.now BufferFault.Gone (λ q. cc q)

pub returns-in_err-bytes-clause-reads : goal.returns-in_err-bytes-clause-reads
returns-in_err-bytes-clause-reads g c =
    let r = c.body.ensures in
    subst (λ (b : Held g.row.D.Denot). OnlyReads g.D.Dir.is_honest g.D.Dir.history g.D.Dir.fault_count b (held_of c.body.new.self c.self.inside.chunks c.self.inside.settings) c.from_residual.result) c.self.view_is
    (reads_by g.D.Dir.is_honest g.D.Dir.history g.D.Dir.fault_count c.self.inside.log c.body.new.self c.self.inside.chunks c.self.inside.settings c.from_residual.result r.rest r.honest r.time r.same
    (reason_again (g.D.Dir.fault_count c.self.inside.log.dir) (g.D.Dir.fault_count c.body.new.self.dir) c.body.result c.from_residual.result c.in_err-bytes.field-0.0 c.in_err-bytes.was (search rules) r.cause))

pub returns-clause-reads : goal.returns-clause-reads
returns-clause-reads g c =
    let r = c.body.ensures in
    subst (λ (b : Held g.row.D.Denot). OnlyReads g.D.Dir.is_honest g.D.Dir.history g.D.Dir.fault_count b (held_of c.body.new.self c.self.inside.chunks c.self.inside.settings) c.entries_of.result) c.self.view_is
    (reads_by g.D.Dir.is_honest g.D.Dir.history g.D.Dir.fault_count c.self.inside.log c.body.new.self c.self.inside.chunks c.self.inside.settings c.entries_of.result r.rest r.honest r.time r.same
    (reason_quiet (g.D.Dir.fault_count c.self.inside.log.dir) (g.D.Dir.fault_count c.body.new.self.dir) c.entries_of.result c.entries_of.ensures.only c.in_ok-bytes.ensures.cause.passed))

pub invariant_of-self : goal.invariant_of-self
invariant_of-self g c = sound_read g.D.Dir.is_honest g.D.Dir.history c.self.inside.log c.self.inside.chunks c.self.inside.settings (ap (λ (b : Held g.row.D.Denot). b.failed) c.self.view_is ∙ sym c.has_failed.ensures ∙ c.if-has_failed.false) c.self.invariant
    c.body.new.self c.body.ensures.rest c.body.ensures.honest c.body.ensures.same

pub invariant_of-self-2 : goal.invariant_of-self-2
invariant_of-self-2 g c = sound_read g.D.Dir.is_honest g.D.Dir.history c.self.inside.log c.self.inside.chunks c.self.inside.settings (ap (λ (b : Held g.row.D.Denot). b.failed) c.self.view_is ∙ sym c.has_failed.ensures ∙ c.if-has_failed.false) c.self.invariant
    c.body.new.self c.body.ensures.rest c.body.ensures.honest c.body.ensures.same

pub returns-clause-entries : goal.returns-clause-entries
returns-clause-entries g c = λ began.
    let began0 : BeganWell g.D.Dir.is_honest g.D.Dir.history (held_of c.self.inside.log c.self.inside.chunks c.self.inside.settings) = subst (λ (b : Held g.row.D.Denot). BeganWell g.D.Dir.is_honest g.D.Dir.history b) (sym c.self.view_is) began in
    let durable = c.self.invariant.durable began0 in
    let told = durable.going (ap (λ (b : Held g.row.D.Denot). b.failed) c.self.view_is ∙ sym c.has_failed.ensures ∙ c.if-has_failed.false) in
    let at : chunk_at c.self.inside.chunks c.args.serial ≡ Some c.in-Some.chunk.now.chunk = sym c.in-Some.ensures.value in
    let bytes : c.deref.result.now ≡ concat c.in-Some.chunk.now.chunk.entries = c.deref.ensures.value ∙ c.in_ok-bytes.ensures.bytes durable.honest durable.logged told.keeps
    ∙ entries_same durable.logged c.self.inside.chunks c.args.serial c.in-Some.chunk.now.chunk at told.means in
    of_chunk (λ (chunk : Chunk) (entries : List (List ℕ)). entries ≡ chunk.entries) c.entries_of.result (chunk_at c.args.self.now.chunks c.args.serial) c.in-Some.chunk.now.chunk (ap (λ (b : Held g.row.D.Denot). chunk_at b.chunks c.args.serial) (sym c.self.view_is) ∙ at) (c.entries_of.ensures.entries bytes)

pub returns-clause-counted : goal.returns-clause-counted
returns-clause-counted g c =
    let at : chunk_at c.self.inside.chunks c.args.serial ≡ Some c.in-Some.chunk.now.chunk = sym c.in-Some.ensures.value in
    of_chunk (λ (chunk : Chunk) (entries : List (List ℕ)). length entries ≡ length chunk.entries) c.entries_of.result (chunk_at c.args.self.now.chunks c.args.serial) c.in-Some.chunk.now.chunk
    (ap (λ (b : Held g.row.D.Denot). chunk_at b.chunks c.args.serial) (sym c.self.view_is) ∙ at) c.entries_of.ensures.counted

pub returns-clause-undamaged : goal.returns-clause-undamaged
returns-clause-undamaged g c = λ began.
    let began0 : BeganWell g.D.Dir.is_honest g.D.Dir.history (held_of c.self.inside.log c.self.inside.chunks c.self.inside.settings) = subst (λ (b : Held g.row.D.Denot). BeganWell g.D.Dir.is_honest g.D.Dir.history b) (sym c.self.view_is) began in
    let durable = c.self.invariant.durable began0 in
    let told = durable.going (ap (λ (b : Held g.row.D.Denot). b.failed) c.self.view_is ∙ sym c.has_failed.ensures ∙ c.if-has_failed.false) in
    let at : chunk_at c.self.inside.chunks c.args.serial ≡ Some c.in-Some.chunk.now.chunk = sym c.in-Some.ensures.value in
    let bytes : c.deref.result.now ≡ concat c.in-Some.chunk.now.chunk.entries = c.deref.ensures.value ∙ c.in_ok-bytes.ensures.bytes durable.honest durable.logged told.keeps
    ∙ entries_same durable.logged c.self.inside.chunks c.args.serial c.in-Some.chunk.now.chunk at told.means in
    c.entries_of.ensures.undamaged bytes
