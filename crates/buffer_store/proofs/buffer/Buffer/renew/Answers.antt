use Rattle.std.proofs.Common.{None, refl, inl, sym, subst, ◌∙◌}
use Rattle.journal_files.specs.JournalLogs.{new_generation}
use Rattle.buffer_store.specs.Buffers.{Held}
use Rattle.buffer_store.specs.Calls.{Begins, NextGeneration}
use Rattle.buffer_store.specs.Durability.{BeganWell}
use Rattle.buffer_store.specs.Logs.{held_of}
use Rattle.buffer_store.specs.declared.fault.BufferFault.{BufferFault}
use Rattle.buffer_store.proofs.Told.{begins_none, renews_begins, sound_renewed}
use Rattle.buffer_store.proofs.buffer.Buffer.renew.Goals as goal

pub returns-then-has_failed-clause-begins : goal.returns-then-has_failed-clause-begins
returns-then-has_failed-clause-begins g c = λ honest. begins_none g.D.Dir.is_honest g.D.Dir.history g.D.Dir.fault_count c.args.self.now BufferFault.Failed None (λ _. new_generation c.args.self.now.chunks) (λ q. cc q)

pub invariant_of-self : goal.invariant_of-self
invariant_of-self g c =
    sound_renewed g.D.Dir.is_honest g.D.Dir.history g.D.Dir.fault_count c.self.inside.log c.renew.new.self c.self.inside.chunks c.self.inside.settings (sym c.has_failed.ensures ∙ c.if-has_failed.false) c.renew.result c.renew.ensures c.self.invariant

pub returns-clause-begins : goal.returns-clause-begins
returns-clause-begins g c = λ honest.
    let v = c.self.view_is in
    subst (λ (b : Held g.row.D.Denot). Begins g.D.Dir.history b (held_of c.renew.new.self c.self.inside.chunks c.self.inside.settings) None (λ _. new_generation b.chunks) c.renew.result) v
    (renews_begins g.D.Dir.is_honest g.D.Dir.history g.D.Dir.fault_count c.self.inside.log c.renew.new.self c.self.inside.chunks c.self.inside.settings (sym c.has_failed.ensures ∙ c.if-has_failed.false) c.renew.result c.renew.ensures (subst (λ (b : Held g.row.D.Denot). g.D.Dir.is_honest b.dir) (sym v) honest))

pub returns-clause-undamaged : goal.returns-clause-undamaged
returns-clause-undamaged g c = λ began.
    let began0 : BeganWell g.D.Dir.is_honest g.D.Dir.history (held_of c.self.inside.log c.self.inside.chunks c.self.inside.settings) = subst (λ (b : Held g.row.D.Denot). BeganWell g.D.Dir.is_honest g.D.Dir.history b) (sym c.self.view_is) began in
    let durable = c.self.invariant.durable began0 in
    let told = durable.going (sym c.has_failed.ensures ∙ c.if-has_failed.false) in
    c.renew.ensures.whole durable.honest durable.logged told.keeps told.means

pub returns-then-has_failed-clause-next : goal.returns-then-has_failed-clause-next
returns-then-has_failed-clause-next g c = record {
  number = tt;
  gone = λ honest. tt;
  journal = refl;
  left = λ began. inl (λ q. refl);
  elsewhere = λ honest name other next. refl;
}

pub returns-clause-next : goal.returns-clause-next
returns-clause-next g c =
    let r = c.renew.ensures in
    let old = held_of c.self.inside.log c.self.inside.chunks c.self.inside.settings in
    let new = held_of c.renew.new.self c.self.inside.chunks c.self.inside.settings in
    subst (λ (b : Held g.row.D.Denot). NextGeneration g.D.Dir.is_honest g.D.Dir.history g.D.Dir.fault_count b new c.renew.result) c.self.view_is
    (record {
      number = r.number;
      gone = r.gone;
      journal = r.journal;
      left = λ began. (let durable = c.self.invariant.durable began in let told = durable.going (sym c.has_failed.ensures ∙ c.if-has_failed.false) in r.left durable.honest durable.logged told.keeps told.means);
      elsewhere = r.elsewhere;
    })
