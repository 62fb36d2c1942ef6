use Rattle.std.proofs.Common.{refl, sym, subst, ◌∙◌}
use Rattle.sink_series.proofs.Writes.{is_some_of}
use Rattle.sink_series.proofs.Kept.{passes_rest, begins_rest, keeps_on}
use Rattle.sink_series.proofs.series.Series.content.Goals as goal

pub invariant_of-self : goal.invariant_of-self
invariant_of-self g c =
    let r = c.read_all.ensures in
    let sound = c.self.invariant.sound in
    record {
      sound = record { named = r.stays_open (is_some_of _ _ sound.named) ∙ sound.named; each = sound.each };
      kept = λ honest.
          let k = c.self.invariant.kept honest in
          keeps_on g.D.Dir.is_honest g.D.Dir.history _ _ k (r.honest k.honest.dir) (passes_rest _ _ (r.time k.honest.dir) (r.same k.honest.dir)) refl refl refl
          (λ ready. let w = k.honest.written ready in (w.0, r.same k.honest.dir _ ∙ w.1)) k.begun
          (begins_rest _ _ _ _ _ k.begins (r.time k.honest.dir) (r.same k.honest.dir));
    }

pub returns-clause-kept : goal.returns-clause-kept
returns-clause-kept g c honest = (invariant_of-self g c).kept (subst (λ s. g.D.Dir.is_honest s.opening) (sym c.self.view_is) honest)
