use Rattle.std.proofs.Common.{◌≡◌, ◌≤◌, ℕ, Some, Ok, Err, true, false, sym, ap, subst, ◌∙◌, rules}
use Rattle.std.specs.Prelude.{◌↔◌}
use Rattle.buffer_state.specs.Steps.{appended, place_of, CanAppend}
use Rattle.chunk_journal.specs.Records.{Append}
use Rattle.journal_files.specs.JournalLogs.{state_of}
use Rattle.buffer_store.specs.Buffers.{Held, durable_if}
use Rattle.buffer_store.specs.Calls.{Begins, StaysWithin}
use Rattle.buffer_store.specs.Logs.{held_of}
use Rattle.buffer_store.specs.declared.buffer.Appended.{Appended}
use Rattle.buffer_store.specs.declared.fault.BufferFault.{BufferFault}
use Rattle.buffer_store.proofs.Claims.{append_allowed, append_same}
use Rattle.buffer_store.proofs.ShortTags.{tags_appended}
use Rattle.buffer_store.proofs.Told.{refusing, begins_none, begins_by, stays_none, sound_wrote, loses_added, renamed_err, renamed_ok, planned_place}
use Rattle.buffer_store.proofs.Plans.{plan_not_fault}
use Rattle.buffer_store.proofs.buffer.Buffer.add.Goals as goal

pub returns-in_err-serial-clause-rest : goal.returns-in_err-serial-clause-rest
returns-in_err-serial-clause-rest g c =
    let e = c.in_err-serial.field-0.0 in
    let is : c.from_residual.result ≡ Err e = search rules in
    let failed : (refusing Appended e ≡ Err BufferFault.Failed) ↔ (c.args.self.now.failed ≡ true) = (λ q. c.plan.ensures.failed.0 (c.in_err-serial.was ∙ ap (λ (f : BufferFault). Err f) (cc q)), λ q. cc (c.in_err-serial.was, c.plan.ensures.failed.1 q)) in
    subst (StaysWithin g.D.Dir.is_honest g.D.Dir.history g.D.Dir.fault_count c.args.self.now c.args.self.now) (sym is) (stays_none g.D.Dir.is_honest g.D.Dir.history g.D.Dir.fault_count c.args.self.now e (plan_not_fault e c.plan.result c.in_err-serial.was c.plan.ensures.only) failed)

pub returns-in_err-serial-clause-begins : goal.returns-in_err-serial-clause-begins
returns-in_err-serial-clause-begins g c = λ honest.
    let e = c.in_err-serial.field-0.0 in
    let is : c.from_residual.result ≡ Err e = search rules in
    let item = Append (place_of c.args.self.now.limits c.args.self.now.chunks c.args.tag.now c.args.entries.now) c.args.tag.now c.args.entries.now in
    subst (Begins g.D.Dir.history c.args.self.now c.args.self.now (Some item) (durable_if c.args.synced)) (sym is) (begins_none g.D.Dir.is_honest g.D.Dir.history g.D.Dir.fault_count c.args.self.now e (Some item) (durable_if c.args.synced) (plan_not_fault e c.plan.result c.in_err-serial.was c.plan.ensures.only))

pub invariant_of-self : goal.invariant_of-self
invariant_of-self g c =
    let v = c.self.view_is in
    let chunks = c.self.inside.chunks in
    let serial = c.in_ok-serial.serial in
    let tag = c.args.tag.now in
    let entries = c.args.entries.now in
    let can : CanAppend chunks serial tag entries = subst (λ (b : Held g.row.D.Denot). CanAppend b.chunks serial tag entries) (sym v) c.in_ok-serial.ensures.can in
    let near : serial ≤ chunks.next = subst (λ (b : Held g.row.D.Denot). serial ≤ b.chunks.next) (sym v) c.in_ok-serial.ensures.near in
    let going : c.self.inside.log.failed ≡ false = ap (λ (b : Held g.row.D.Denot). b.failed) v ∙ c.in_ok-serial.ensures.going in
    sound_wrote g.D.Dir.is_honest g.D.Dir.history g.D.Dir.fault_count c.self.inside.log c.add_entries.new.log chunks c.add_entries.new.chunks c.self.inside.settings going (Append serial tag entries) (appended serial tag entries chunks)
    (λ t same. (append_allowed (state_of t) chunks same serial tag entries can near, append_same (state_of t) chunks same serial tag entries)) c.args.synced c.add_entries.result c.add_entries.ensures.wrote c.add_entries.ensures.ok c.add_entries.ensures.err (tags_appended chunks serial tag entries c.self.invariant.tags c.requires.tag)
    (λ t h. loses_added c.self.inside.log.staged c.args.synced t serial tag entries h) c.self.invariant

pub invariant_of-self-2 : goal.invariant_of-self-2
invariant_of-self-2 g c =
    let v = c.self.view_is in
    let chunks = c.self.inside.chunks in
    let serial = c.in_ok-serial.serial in
    let tag = c.args.tag.now in
    let entries = c.args.entries.now in
    let can : CanAppend chunks serial tag entries = subst (λ (b : Held g.row.D.Denot). CanAppend b.chunks serial tag entries) (sym v) c.in_ok-serial.ensures.can in
    let near : serial ≤ chunks.next = subst (λ (b : Held g.row.D.Denot). serial ≤ b.chunks.next) (sym v) c.in_ok-serial.ensures.near in
    let going : c.self.inside.log.failed ≡ false = ap (λ (b : Held g.row.D.Denot). b.failed) v ∙ c.in_ok-serial.ensures.going in
    sound_wrote g.D.Dir.is_honest g.D.Dir.history g.D.Dir.fault_count c.self.inside.log c.add_entries.new.log chunks c.add_entries.new.chunks c.self.inside.settings going (Append serial tag entries) (appended serial tag entries chunks)
    (λ t same. (append_allowed (state_of t) chunks same serial tag entries can near, append_same (state_of t) chunks same serial tag entries)) c.args.synced c.add_entries.result c.add_entries.ensures.wrote c.add_entries.ensures.ok c.add_entries.ensures.err (tags_appended chunks serial tag entries c.self.invariant.tags c.requires.tag)
    (λ t h. loses_added c.self.inside.log.staged c.args.synced t serial tag entries h) c.self.invariant

pub returns-in_err-add_entries-clause-begins : goal.returns-in_err-add_entries-clause-begins
returns-in_err-add_entries-clause-begins g c = λ honest.
    let v = c.self.view_is in
    let chunks = c.self.inside.chunks in
    let serial = c.in_ok-serial.serial in
    let tag = c.args.tag.now in
    let entries = c.args.entries.now in
    let can : CanAppend chunks serial tag entries = subst (λ (b : Held g.row.D.Denot). CanAppend b.chunks serial tag entries) (sym v) c.in_ok-serial.ensures.can in
    let near : serial ≤ chunks.next = subst (λ (b : Held g.row.D.Denot). serial ≤ b.chunks.next) (sym v) c.in_ok-serial.ensures.near in
    let going : c.self.inside.log.failed ≡ false = ap (λ (b : Held g.row.D.Denot). b.failed) v ∙ c.in_ok-serial.ensures.going in
    let put : Appended = record { serial = serial } in
    let new : Held g.row.D.Denot = held_of c.add_entries.new.log c.add_entries.new.chunks c.self.inside.settings in
    let place : place_of c.args.self.now.limits c.args.self.now.chunks tag entries ≡ serial = planned_place c.args.self.now.limits c.args.self.now.chunks tag entries serial c.in_ok-serial.ensures.place in
    subst (λ (n : ℕ). Begins g.D.Dir.history c.args.self.now new (Some (Append n tag entries)) (durable_if c.args.synced) c.from_residual-in_err-add_entries.result) (sym place)
    (subst (λ (b : Held g.row.D.Denot). Begins g.D.Dir.history b new (Some (Append serial tag entries)) (durable_if c.args.synced) c.from_residual-in_err-add_entries.result) v
    (renamed_err g.D.Dir.is_honest g.D.Dir.history g.D.Dir.fault_count (held_of c.self.inside.log chunks c.self.inside.settings) new (Some (Append serial tag entries)) (durable_if c.args.synced) c.add_entries.result c.from_residual-in_err-add_entries.result c.in_err-add_entries.field-0.0 c.in_err-add_entries.was (search rules)
    (begins_by g.D.Dir.is_honest g.D.Dir.history g.D.Dir.fault_count c.self.inside.log c.add_entries.new.log chunks c.add_entries.new.chunks c.self.inside.settings going (Append serial tag entries) (appended serial tag entries chunks)
    (λ t same. (append_allowed (state_of t) chunks same serial tag entries can near, append_same (state_of t) chunks same serial tag entries)) c.args.synced c.add_entries.result c.add_entries.ensures.wrote c.add_entries.ensures.ok c.add_entries.ensures.err (subst (λ (b : Held g.row.D.Denot). g.D.Dir.is_honest b.dir) (sym v) honest))))

pub returns-clause-begins : goal.returns-clause-begins
returns-clause-begins g c = λ honest.
    let v = c.self.view_is in
    let chunks = c.self.inside.chunks in
    let serial = c.in_ok-serial.serial in
    let tag = c.args.tag.now in
    let entries = c.args.entries.now in
    let can : CanAppend chunks serial tag entries = subst (λ (b : Held g.row.D.Denot). CanAppend b.chunks serial tag entries) (sym v) c.in_ok-serial.ensures.can in
    let near : serial ≤ chunks.next = subst (λ (b : Held g.row.D.Denot). serial ≤ b.chunks.next) (sym v) c.in_ok-serial.ensures.near in
    let going : c.self.inside.log.failed ≡ false = ap (λ (b : Held g.row.D.Denot). b.failed) v ∙ c.in_ok-serial.ensures.going in
    let put : Appended = record { serial = serial } in
    let new : Held g.row.D.Denot = held_of c.add_entries.new.log c.add_entries.new.chunks c.self.inside.settings in
    let place : place_of c.args.self.now.limits c.args.self.now.chunks tag entries ≡ serial = planned_place c.args.self.now.limits c.args.self.now.chunks tag entries serial c.in_ok-serial.ensures.place in
    subst (λ (n : ℕ). Begins g.D.Dir.history c.args.self.now new (Some (Append n tag entries)) (durable_if c.args.synced) (Ok put)) (sym place)
    (subst (λ (b : Held g.row.D.Denot). Begins g.D.Dir.history b new (Some (Append serial tag entries)) (durable_if c.args.synced) (Ok put)) v
    (renamed_ok g.D.Dir.is_honest g.D.Dir.history g.D.Dir.fault_count (held_of c.self.inside.log chunks c.self.inside.settings) new (Some (Append serial tag entries)) (durable_if c.args.synced) c.add_entries.result (tt {0}) put c.in_ok-add_entries.was
    (begins_by g.D.Dir.is_honest g.D.Dir.history g.D.Dir.fault_count c.self.inside.log c.add_entries.new.log chunks c.add_entries.new.chunks c.self.inside.settings going (Append serial tag entries) (appended serial tag entries chunks)
    (λ t same. (append_allowed (state_of t) chunks same serial tag entries can near, append_same (state_of t) chunks same serial tag entries)) c.args.synced c.add_entries.result c.add_entries.ensures.wrote c.add_entries.ensures.ok c.add_entries.ensures.err (subst (λ (b : Held g.row.D.Denot). g.D.Dir.is_honest b.dir) (sym v) honest))))
