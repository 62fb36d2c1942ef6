use Rattle.std.proofs.Common.{IsSome, refl, subst, sym, ◌∙◌}
use Rattle.sink_series.specs.Keeping.{Keeps}
use Rattle.sink_series.specs.Views.{SeriesView}
use Rattle.sink_series.proofs.Kept.{passes_rest, begins_rest, keeps_on}
use Rattle.sink_series.proofs.series.Series.into_dir.Goals as goal

pub returns-clause-kept : goal.returns-clause-kept
returns-clause-kept g c =
    let a = c.close.ensures.alone in
    subst (λ (s : SeriesView g.row.D.Denot). g.D.Dir.is_honest s.opening → Keeps g.D.Dir.is_honest g.D.Dir.history (record s { dir = c.close.new.self })) c.self.view_is
    (λ honest.
    let k = c.self.invariant.kept honest in
    let h = k.honest.dir in
    keeps_on g.D.Dir.is_honest g.D.Dir.history _ _ k (a.honest h) (passes_rest _ _ (a.time h) (a.same h)) refl refl refl
    (λ ready. let w = k.honest.written ready in (w.0, a.same h _ ∙ w.1)) k.begun
    (begins_rest _ _ _ _ _ k.begins (a.time h) (a.same h)))

pub close-requires : goal.close-requires
close-requires g c = subst IsSome (sym c.self.invariant.sound.named) refl
