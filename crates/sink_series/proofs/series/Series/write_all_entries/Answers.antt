use Rattle.std.proofs.Common.{ℕ, ◌≡◌, ⊎_elim, ◌≤◌, List, length, refl, sym, subst, ◌∙◌, ap}
use Rattle.sink_series.specs.Events.{Event, under, written_by}
use Rattle.sink_series.specs.Views.{SeriesView, StoredView}
use Rattle.sink_series.specs.Keeping.{Keeps}
use Rattle.sink_series.proofs.Writes.{safe_here, others_here, begun_next, sound_next, is_some_of}
use Rattle.std.proofs.lemmas.Bool.{true≢false}
use Rattle.sink_series.specs.declared.fault.SeriesFault.TheVariants as series
use Rattle.sink_series.proofs.Caused.{never, ok_never, memory_never, fault_never}
use Rattle.sink_series.proofs.Kept.{passes_rest, begins_rest, wrote, keeps_on, honest_given, never_both, same_given, rest_safe_given, rest_others_given, rest_begun_given, safe_given, others_given, memory_given, ok_given, refused_given, begun_write, begun_given, keeps_failed, file_written, keeps_answered}
use Rattle.sink_series.proofs.series.Series.write_all_entries.Goals as goal

-- what the receipt says
stored_as : (a b : StoredView) (given own path tag : List ℕ) (entries : List (List ℕ)) → a ≡ b → b ≡ (let s : StoredView = record { path = given; tag = tag; entries = entries } in s) → given ≡ own → own ≡ path
    → a ≡ (let s : StoredView = record { path = path; tag = tag; entries = entries } in s)
stored_as a b given own path tag entries same is deref view =
    same ∙ is ∙ ap (λ (q : List ℕ). let s : StoredView = record { path = q; tag = tag; entries = entries } in s) (deref ∙ view)

receipt_events : (a b : StoredView) (path tag : List ℕ) (entries : List (List ℕ)) → a ≡ b → b ≡ (let s : StoredView = record { path = path; tag = tag; entries = entries } in s)
    → under tag entries ≡ under a.tag a.entries
receipt_events a b path tag entries same is = ap (λ (s : StoredView). under s.tag s.entries) (sym (same ∙ is))

-- a sink that had failed

pub returns-then-self-clause-kept : goal.returns-then-self-clause-kept
returns-then-self-clause-kept g c = subst (λ s. g.D.Dir.is_honest s.opening → Keeps g.D.Dir.is_honest g.D.Dir.history s) c.self.view_is c.self.invariant.kept

pub returns-then-self-clause-safe : goal.returns-then-self-clause-safe
returns-then-self-clause-safe g c honest name events safe = safe_here _ name events safe

pub returns-then-self-clause-others : goal.returns-then-self-clause-others
returns-then-self-clause-others g c honest = others_here _ _

-- no memory

pub invariant_of-self : goal.invariant_of-self
invariant_of-self g c =
    let p = c.in_err-write.ensures in
    let sound = c.self.invariant.sound in
    record {
      sound = record { named = p.opened c.self.inside.file ∙ sound.named; each = sound.each };
      kept = λ honest.
          let k = c.self.invariant.kept honest in
          keeps_on g.D.Dir.is_honest g.D.Dir.history _ _ k (p.honest k.honest.dir) (passes_rest _ _ (p.time k.honest.dir) (p.same k.honest.dir)) refl refl refl
          (λ ready. let w = k.honest.written ready in (w.0, p.same k.honest.dir _ ∙ w.1)) k.begun
          (begins_rest _ _ _ _ _ k.begins (p.time k.honest.dir) (p.same k.honest.dir));
    }

pub returns-in_err-write-clause-kept : goal.returns-in_err-write-clause-kept
returns-in_err-write-clause-kept g c honest = (invariant_of-self g c).kept (honest_given g.D.Dir.is_honest g.D.Dir.history _ _ c.self.view_is honest)

pub returns-in_err-write-clause-safe : goal.returns-in_err-write-clause-safe
returns-in_err-write-clause-safe g c =
    let p = c.in_err-write.ensures in
    rest_safe_given g.D.Dir.is_honest g.D.Dir.history _ _ _ c.prepare.new.dir c.self.view_is c.self.invariant p.time p.same

pub returns-in_err-write-clause-others : goal.returns-in_err-write-clause-others
returns-in_err-write-clause-others g c =
    let p = c.in_err-write.ensures in
    rest_others_given g.D.Dir.is_honest g.D.Dir.history _ _ _ c.prepare.new.dir c.self.view_is c.self.invariant p.time p.same

pub returns-in_err-write-clause-moments : goal.returns-in_err-write-clause-moments
returns-in_err-write-clause-moments g c =
    let p = c.in_err-write.ensures in
    rest_begun_given g.D.Dir.is_honest g.D.Dir.history _ _ _ c.prepare.new.dir (under c.args.tag.now c.args.entries.now) c.self.view_is c.self.invariant p.time p.same

-- the write

pub put_synced-requires-clause-open : goal.put_synced-requires-clause-open
put_synced-requires-clause-open g c = is_some_of _ _ (c.in_ok-write.ensures.opened c.self.inside.file ∙ c.self.invariant.sound.named)

pub put_synced-requires-clause-room : goal.put_synced-requires-clause-room
put_synced-requires-clause-room g c =
    subst (λ (b : List ℕ). length b ≤ g.D.Dir.bytes_left c.prepare.new.dir c.self.inside.file) (sym c.bytes.ensures) c.in_ok-write.ensures.room

pub same-write : goal.same-write
same-write g c = refl

-- it is answered

pub invariant_of-self-in-Ok : goal.invariant_of-self-in-Ok
invariant_of-self-in-Ok g c =
    let p = c.in_ok-write.ensures in
    let e = c.in-Ok.ensures in
    let sound = c.self.invariant.sound in
    let named = p.opened c.self.inside.file ∙ sound.named in
    let events : List Event = under c.args.tag.now c.args.entries.now in
    let next = begun_next c.self.inside.begun c.then.result _ _ c.args.tag.now c.args.entries.now c.then.ensures p.stored in
    let now_sound =
    sound_next _ _ _ c.self.inside.begun c.then.result _ _ c.args.tag.now c.args.entries.now sound (c.put_synced.ensures.opened c.self.inside.file ∙ p.opened c.self.inside.file) c.then.ensures p.stored p.events in
    record {
      sound = now_sound;
      kept = λ honest.
          let k = c.self.invariant.kept honest in
          let h = k.honest.dir in
          keeps_answered g.D.Dir.is_honest g.D.Dir.history _ c.put_synced.new.dir c.into_stored-stored.result c.then-in-Ok.result events (written_by c.then.result) k (e.honest (p.honest h))
          (wrote _ _ _ _ (p.time h) (p.same h) (e.others (p.honest h) _ named) (λ n es safe. e.safe (p.honest h) _ n es named safe)) c.if-self.false
          (receipt_events c.into_stored-stored.result c.in_ok-write.write.stored _ c.args.tag.now c.args.entries.now c.into_stored-stored.ensures p.stored)
          (begun_write g.D.Dir.is_honest g.D.Dir.history _ c.prepare.new.dir c.put_synced.new.dir events k.honest c.if-self.false sound.each (p.time h) (p.same h)
          (λ is_durable found. e.moments (p.honest h) _ _ events is_durable named found sound.each p.events (c.bytes.ensures ∙ p.bytes)))
          next c.then-in-Ok.ensures now_sound.each
          (file_written g.D.Dir.is_honest g.D.Dir.history _ c.prepare.new.dir c.put_synced.new.dir events (written_by c.then.result) c.bytes.result.now k.honest c.if-self.false (p.same h) (c.bytes.ensures ∙ p.bytes)
          (e.ok (p.honest h) _ named) next);
    }

pub returns-in-Ok-clause-kept : goal.returns-in-Ok-clause-kept
returns-in-Ok-clause-kept g c honest = (invariant_of-self-in-Ok g c).kept (honest_given g.D.Dir.is_honest g.D.Dir.history _ _ c.self.view_is honest)

pub returns-in-Ok-clause-written : goal.returns-in-Ok-clause-written
returns-in-Ok-clause-written g c honest =
    let p = c.in_ok-write.ensures in
    let k = c.self.invariant.kept (honest_given g.D.Dir.is_honest g.D.Dir.history _ _ c.self.view_is honest) in
    let h = k.honest.dir in
    file_written g.D.Dir.is_honest g.D.Dir.history _ c.prepare.new.dir c.put_synced.new.dir (under c.args.tag.now c.args.entries.now) (written_by c.then.result) c.bytes.result.now k.honest c.if-self.false
    (p.same h) (c.bytes.ensures ∙ p.bytes) (c.in-Ok.ensures.ok (p.honest h) _ (p.opened c.self.inside.file ∙ c.self.invariant.sound.named))
    (begun_next c.self.inside.begun c.then.result _ _ c.args.tag.now c.args.entries.now c.then.ensures p.stored)

pub returns-in-Ok-clause-safe : goal.returns-in-Ok-clause-safe
returns-in-Ok-clause-safe g c =
    let p = c.in_ok-write.ensures in
    let e = c.in-Ok.ensures in
    let named = p.opened c.self.inside.file ∙ c.self.invariant.sound.named in
    safe_given g.D.Dir.is_honest g.D.Dir.history _ _ _ c.prepare.new.dir c.put_synced.new.dir c.self.view_is c.self.invariant p.honest p.time p.same (λ on. e.others on _ named) (λ on name events. e.safe on _ name events named)

pub returns-in-Ok-clause-moments : goal.returns-in-Ok-clause-moments
returns-in-Ok-clause-moments g c =
    let p = c.in_ok-write.ensures in
    let sound = c.self.invariant.sound in
    let events : List Event = under c.args.tag.now c.args.entries.now in
    begun_given g.D.Dir.is_honest g.D.Dir.history _ _ _ c.prepare.new.dir c.put_synced.new.dir events c.self.view_is c.self.invariant p.honest p.time p.same
    (λ on is_durable found. c.in-Ok.ensures.moments on _ _ events is_durable (p.opened c.self.inside.file ∙ sound.named) found sound.each p.events (c.bytes.ensures ∙ p.bytes))

-- the device failed

pub invariant_of-self-in-Err-1 : goal.invariant_of-self-in-Err-1
invariant_of-self-in-Err-1 g c =
    let p = c.in_ok-write.ensures in
    let e = c.in-Err.ensures in
    let sound = c.self.invariant.sound in
    let named = p.opened c.self.inside.file ∙ sound.named in
    let events : List Event = under c.args.tag.now c.args.entries.now in
    record {
      sound = sound_next _ _ _ c.self.inside.begun c.then.result _ _ c.args.tag.now c.args.entries.now sound (c.put_synced.ensures.opened c.self.inside.file ∙ p.opened c.self.inside.file) c.then.ensures p.stored p.events;
      kept = λ honest.
          let k = c.self.invariant.kept honest in
          let h = k.honest.dir in
          keeps_failed g.D.Dir.is_honest g.D.Dir.history _ c.put_synced.new.dir events (written_by c.then.result) k (e.honest (p.honest h))
          (wrote _ _ _ _ (p.time h) (p.same h) (e.others (p.honest h) _ named) (λ n es safe. e.safe (p.honest h) _ n es named safe))
          (begun_write g.D.Dir.is_honest g.D.Dir.history _ c.prepare.new.dir c.put_synced.new.dir events k.honest c.if-self.false sound.each (p.time h) (p.same h)
          (λ is_durable found. e.moments (p.honest h) _ _ events is_durable named found sound.each p.events (c.bytes.ensures ∙ p.bytes)))
          (begun_next c.self.inside.begun c.then.result _ _ c.args.tag.now c.args.entries.now c.then.ensures p.stored);
    }

pub returns-in-Err-clause-kept : goal.returns-in-Err-clause-kept
returns-in-Err-clause-kept g c honest = (invariant_of-self-in-Err-1 g c).kept (honest_given g.D.Dir.is_honest g.D.Dir.history _ _ c.self.view_is honest)

pub returns-in-Err-clause-safe : goal.returns-in-Err-clause-safe
returns-in-Err-clause-safe g c =
    let p = c.in_ok-write.ensures in
    let e = c.in-Err.ensures in
    let named = p.opened c.self.inside.file ∙ c.self.invariant.sound.named in
    safe_given g.D.Dir.is_honest g.D.Dir.history _ _ _ c.prepare.new.dir c.put_synced.new.dir c.self.view_is c.self.invariant p.honest p.time p.same (λ on. e.others on _ named) (λ on name events. e.safe on _ name events named)

pub returns-in-Err-clause-moments : goal.returns-in-Err-clause-moments
returns-in-Err-clause-moments g c =
    let p = c.in_ok-write.ensures in
    let sound = c.self.invariant.sound in
    let events : List Event = under c.args.tag.now c.args.entries.now in
    begun_given g.D.Dir.is_honest g.D.Dir.history _ _ _ c.prepare.new.dir c.put_synced.new.dir events c.self.view_is c.self.invariant p.honest p.time p.same
    (λ on is_durable found. c.in-Err.ensures.moments on _ _ events is_durable (p.opened c.self.inside.file ∙ sound.named) found sound.each p.events (c.bytes.ensures ∙ p.bytes))

pub returns-then-self-clause-failed : goal.returns-then-self-clause-failed
returns-then-self-clause-failed g c = ((λ _. sym (ap (λ (s : SeriesView g.row.D.Denot). s.has_failed) c.self.view_is) ∙ c.if-self.true), (λ _. refl))

pub returns-then-self-clause-fault : goal.returns-then-self-clause-fault
returns-then-self-clause-fault g c = λ e. absurd (never series.Failed series.Fault _ refl (λ q. cc q) e)

pub returns-then-self-clause-moments : goal.returns-then-self-clause-moments
returns-then-self-clause-moments g c = λ honest ready. absurd (true≢false (sym c.if-self.true ∙ (ap (λ (s : SeriesView g.row.D.Denot). s.has_failed) c.self.view_is ∙ ready)))

pub returns-then-self-clause-same : goal.returns-then-self-clause-same
returns-then-self-clause-same g c = λ honest _ name. refl

pub returns-then-self-clause-never_last : goal.returns-then-self-clause-never_last
returns-then-self-clause-never_last g c = λ e. cc e

pub returns-in_err-write-clause-failed : goal.returns-in_err-write-clause-failed
returns-in_err-write-clause-failed g c = (
  λ e. absurd ((memory_never c.from_residual.result c.from_residual.ensures.1).0 e),
  λ t. absurd (never_both g.D.Dir.is_honest g.D.Dir.history _ _ c.self.view_is c.if-self.false t),
)

pub returns-in_err-write-clause-fault : goal.returns-in_err-write-clause-fault
returns-in_err-write-clause-fault g c = λ e. absurd ((memory_never c.from_residual.result c.from_residual.ensures.1).1 e)

pub returns-in_err-write-clause-never_last : goal.returns-in_err-write-clause-never_last
returns-in_err-write-clause-never_last g c = (memory_never c.from_residual.result c.from_residual.ensures.1).2

pub returns-in_err-write-clause-refused : goal.returns-in_err-write-clause-refused
returns-in_err-write-clause-refused g c = λ _. ap (λ (s : SeriesView g.row.D.Denot). record s { dir = c.prepare.new.dir }) c.self.view_is

pub returns-in_err-write-clause-same : goal.returns-in_err-write-clause-same
returns-in_err-write-clause-same g c =
    same_given g.D.Dir.is_honest g.D.Dir.history _ _ _ c.prepare.new.dir _ c.self.view_is c.self.invariant c.in_err-write.ensures.same

pub returns-in_err-write-clause-cause : goal.returns-in_err-write-clause-cause
returns-in_err-write-clause-cause g c =
    memory_given g.D.Dir.fault_count _ _ c.self.view_is c.prepare.new.dir c.from_residual.result c.in_err-write.ensures.cause c.from_residual.ensures.1

pub returns-in-Ok-clause-stored : goal.returns-in-Ok-clause-stored
returns-in-Ok-clause-stored g c = stored_as c.into_stored-stored.result c.in_ok-write.write.stored _ c.self.inside.path.items _ c.args.tag.now c.args.entries.now c.into_stored-stored.ensures c.in_ok-write.ensures.stored c.deref.ensures.value (ap (λ (s : SeriesView g.row.D.Denot). s.path) c.self.view_is)

pub returns-in-Ok-clause-failed : goal.returns-in-Ok-clause-failed
returns-in-Ok-clause-failed g c = (
  λ e. absurd (ok_never c.into_stored-stored.result series.Failed e),
  λ t. absurd (never_both g.D.Dir.is_honest g.D.Dir.history _ _ c.self.view_is c.if-self.false t),
)

pub returns-in-Ok-clause-cause : goal.returns-in-Ok-clause-cause
returns-in-Ok-clause-cause g c =
    ok_given g.D.Dir.fault_count _ _ c.self.view_is c.prepare.new.dir c.put_synced.new.dir _ c.in-Ok.ensures.cause.passed c.in_ok-write.ensures.cause

pub returns-in-Err-clause-failed : goal.returns-in-Err-clause-failed
returns-in-Err-clause-failed g c = (
  λ q. absurd ((fault_never c.in-Err.error c.into.result _ _ refl c.in-Err.ensures.only c.into.ensures refl).0 q),
  λ t. absurd (never_both g.D.Dir.is_honest g.D.Dir.history _ _ c.self.view_is c.if-self.false t),
)

pub returns-in-Err-clause-refused : goal.returns-in-Err-clause-refused
returns-in-Err-clause-refused g c = λ q.
    let n = fault_never c.in-Err.error c.into.result _ _ refl c.in-Err.ensures.only c.into.ensures refl in
    absurd (⊎_elim n.0 n.1 q)

pub returns-in-Err-clause-same : goal.returns-in-Err-clause-same
returns-in-Err-clause-same g c = λ honest q.
    let n = fault_never c.in-Err.error c.into.result _ _ refl c.in-Err.ensures.only c.into.ensures refl in
    absurd (⊎_elim n.0 n.1 q)

pub returns-in-Err-clause-never_last : goal.returns-in-Err-clause-never_last
returns-in-Err-clause-never_last g c = (fault_never c.in-Err.error c.into.result _ _ refl c.in-Err.ensures.only c.into.ensures refl).2

pub returns-in-Err-clause-cause : goal.returns-in-Err-clause-cause
returns-in-Err-clause-cause g c =
    refused_given g.D.Dir.fault_count _ _ c.self.view_is c.prepare.new.dir c.put_synced.new.dir c.in-Err.error c.into.result c.in-Err.ensures.cause c.in_ok-write.ensures.cause c.into.ensures

pub returns-in-Ok-clause-others : goal.returns-in-Ok-clause-others
returns-in-Ok-clause-others g c =
    let p = c.in_ok-write.ensures in
    let named = p.opened c.self.inside.file ∙ c.self.invariant.sound.named in
    others_given g.D.Dir.is_honest g.D.Dir.history _ _ _ c.prepare.new.dir c.put_synced.new.dir c.self.view_is c.self.invariant p.honest p.time p.same (λ on. c.in-Ok.ensures.others on _ named)

pub returns-in-Err-clause-others : goal.returns-in-Err-clause-others
returns-in-Err-clause-others g c =
    let p = c.in_ok-write.ensures in
    let named = p.opened c.self.inside.file ∙ c.self.invariant.sound.named in
    others_given g.D.Dir.is_honest g.D.Dir.history _ _ _ c.prepare.new.dir c.put_synced.new.dir c.self.view_is c.self.invariant p.honest p.time p.same (λ on. c.in-Err.ensures.others on _ named)
