use Rattle.std.proofs.Common.{◌≡◌, Bool, true, false, Ok, None, sym, subst, ◌∙◌, rules}
use Rattle.buffer_store.specs.Buffers.{Held, durable_if}
use Rattle.buffer_store.specs.Calls.{Begins}
use Rattle.buffer_store.specs.Logs.{held_of}
use Rattle.buffer_store.specs.declared.fault.BufferFault.{BufferFault}
use Rattle.buffer_store.proofs.Told.{begins_none, begins_still, syncs_begins, sound_synced}
use Rattle.buffer_store.proofs.buffer.Buffer.sync.Goals as goal

pub returns-then-has_failed-clause-begins : goal.returns-then-has_failed-clause-begins
returns-then-has_failed-clause-begins g c = λ honest. begins_none g.D.Dir.is_honest g.D.Dir.history g.D.Dir.fault_count c.args.self.now BufferFault.Failed None (durable_if c.args.self.now.staged) (λ q. cc q)

pub returns-then-not-has_staged-clause-begins : goal.returns-then-not-has_staged-clause-begins
returns-then-not-has_staged-clause-begins g c = λ honest.
    let none : c.args.self.now.staged ≡ false = search rules in
    subst (λ (b : Bool). Begins g.D.Dir.history c.args.self.now c.args.self.now None (durable_if b) (Ok (tt {0}))) (sym none) (begins_still g.D.Dir.is_honest g.D.Dir.history g.D.Dir.fault_count c.args.self.now (tt {0}) (durable_if false) (λ t holds. holds))

pub invariant_of-self : goal.invariant_of-self
invariant_of-self g c =
    sound_synced g.D.Dir.is_honest g.D.Dir.history g.D.Dir.fault_count c.self.inside.log c.sync.new.self c.self.inside.chunks c.self.inside.settings (sym c.has_failed.ensures ∙ c.if-has_failed.false) c.sync.result c.sync.ensures c.self.invariant

pub returns-clause-begins : goal.returns-clause-begins
returns-clause-begins g c = λ honest.
    let v = c.self.view_is in
    let some : c.args.self.now.staged ≡ true = search rules in
    subst (λ (s : Bool). Begins g.D.Dir.history c.args.self.now (held_of c.sync.new.self c.self.inside.chunks c.self.inside.settings) None (durable_if s) c.sync.result) (sym some)
    (subst (λ (b : Held g.row.D.Denot). Begins g.D.Dir.history b (held_of c.sync.new.self c.self.inside.chunks c.self.inside.settings) None (durable_if true) c.sync.result) v
    (syncs_begins g.D.Dir.is_honest g.D.Dir.history g.D.Dir.fault_count c.self.inside.log c.sync.new.self c.self.inside.chunks c.self.inside.settings (sym c.has_failed.ensures ∙ c.if-has_failed.false) c.sync.result c.sync.ensures (subst (λ (b : Held g.row.D.Denot). g.D.Dir.is_honest b.dir) (sym v) honest)))
