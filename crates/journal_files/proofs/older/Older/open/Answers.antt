use Rattle.std.proofs.Common.{refl, sym, subst, ◌∙◌, ⊎_elim}
use Rattle.std.specs.Prelude.{IsSome}
use Rattle.std.specs.Ordering.{nat_cmp}
use Rattle.std.specs.BTreeSet.{contains}
use Rattle.file_pieces.proofs.ReadOn.{elapsed}
use Rattle.journal_files.proofs.Reasons.{answered}
use Rattle.journal_files.proofs.Searched.{none_in, not_both}
use Rattle.journal_files.proofs.Wanting.{err_no_value, cause_err, cause_ok}
use Rattle.journal_files.proofs.older.Older.open.Goals as goal

pub returns-in_err-rest-clause-honest : goal.returns-in_err-rest-clause-honest
returns-in_err-rest-clause-honest g c = c.in_err-rest.ensures.device.honest

pub returns-in_err-rest-clause-time : goal.returns-in_err-rest-clause-time
returns-in_err-rest-clause-time g c = c.in_err-rest.ensures.device.time

pub returns-in_err-rest-clause-same : goal.returns-in_err-rest-clause-same
returns-in_err-rest-clause-same g c = c.in_err-rest.ensures.same

pub returns-in_err-rest-clause-path : goal.returns-in_err-rest-clause-path
returns-in_err-rest-clause-path g c = err_no_value c.in_err-rest.field-0.0 c.from_residual.result _ c.from_residual.ensures.1

pub returns-in_err-rest-clause-number : goal.returns-in_err-rest-clause-number
returns-in_err-rest-clause-number g c = err_no_value c.in_err-rest.field-0.0 c.from_residual.result _ c.from_residual.ensures.1

pub returns-in_err-rest-clause-files : goal.returns-in_err-rest-clause-files
returns-in_err-rest-clause-files g c = err_no_value c.in_err-rest.field-0.0 c.from_residual.result _ c.from_residual.ensures.1

pub returns-in_err-rest-clause-all : goal.returns-in_err-rest-clause-all
returns-in_err-rest-clause-all g c = λ h. err_no_value c.in_err-rest.field-0.0 c.from_residual.result _ c.from_residual.ensures.1

pub returns-in_err-rest-clause-others : goal.returns-in_err-rest-clause-others
returns-in_err-rest-clause-others g c = λ other some. c.in_err-rest.ensures.opened other

pub returns-in_err-rest-clause-cause : goal.returns-in_err-rest-clause-cause
returns-in_err-rest-clause-cause g c = cause_err _ _ _ c.in_err-rest.field-0.0 c.from_residual.result refl c.in_err-rest.ensures.device.cause (answered c.in_err-rest.field-0.0 c.from_residual.result c.from_residual.ensures.1)

pub returns-in_err-open_below-clause-honest : goal.returns-in_err-open_below-clause-honest
returns-in_err-open_below-clause-honest g c = λ h. c.in_err-open_below.ensures.honest (c.loop-next.invariant.is_honest h)

pub returns-in_err-open_below-clause-time : goal.returns-in_err-open_below-clause-time
returns-in_err-open_below-clause-time g c = λ h.
    let so = c.loop-next.invariant in
    elapsed (g.D.Dir.history c.args.dir.now) (g.D.Dir.history c.loop-next.dir) (g.D.Dir.history c.open_below.new.dir) (so.time h) (c.in_err-open_below.ensures.time (so.is_honest h)) (c.in_err-open_below.ensures.same (so.is_honest h))

pub returns-in_err-open_below-clause-same : goal.returns-in_err-open_below-clause-same
returns-in_err-open_below-clause-same g c = λ h name. c.in_err-open_below.ensures.same (c.loop-next.invariant.is_honest h) name ∙ c.loop-next.invariant.same h name

pub returns-in_err-open_below-clause-path : goal.returns-in_err-open_below-clause-path
returns-in_err-open_below-clause-path g c = err_no_value c.in_err-open_below.field-0.0 c.from_residual-in_err-open_below.result _ c.from_residual-in_err-open_below.ensures.1

pub returns-in_err-open_below-clause-number : goal.returns-in_err-open_below-clause-number
returns-in_err-open_below-clause-number g c = err_no_value c.in_err-open_below.field-0.0 c.from_residual-in_err-open_below.result _ c.from_residual-in_err-open_below.ensures.1

pub returns-in_err-open_below-clause-files : goal.returns-in_err-open_below-clause-files
returns-in_err-open_below-clause-files g c = err_no_value c.in_err-open_below.field-0.0 c.from_residual-in_err-open_below.result _ c.from_residual-in_err-open_below.ensures.1

pub returns-in_err-open_below-clause-all : goal.returns-in_err-open_below-clause-all
returns-in_err-open_below-clause-all g c = λ h. err_no_value c.in_err-open_below.field-0.0 c.from_residual-in_err-open_below.result _ c.from_residual-in_err-open_below.ensures.1

pub returns-in_err-open_below-clause-others : goal.returns-in_err-open_below-clause-others
returns-in_err-open_below-clause-others g c = λ other some.
    let so = c.loop-next.invariant in
    c.in_err-open_below.ensures.stays_open other (subst IsSome (sym (so.stays_open other some)) some) ∙ so.stays_open other some

pub returns-in_err-open_below-clause-cause : goal.returns-in_err-open_below-clause-cause
returns-in_err-open_below-clause-cause g c = cause_err _ _ _ c.in_err-open_below.field-0.0 c.from_residual-in_err-open_below.result c.loop-next.invariant.quiet c.in_err-open_below.ensures.cause (answered c.in_err-open_below.field-0.0 c.from_residual-in_err-open_below.result c.from_residual-in_err-open_below.ensures.1)

pub returns-clause-honest : goal.returns-clause-honest
returns-clause-honest g c = c.loop-next.invariant.is_honest

pub returns-clause-time : goal.returns-clause-time
returns-clause-time g c = c.loop-next.invariant.time

pub returns-clause-same : goal.returns-clause-same
returns-clause-same g c = c.loop-next.invariant.same

pub returns-clause-path : goal.returns-clause-path
returns-clause-path g c = refl

pub returns-clause-number : goal.returns-clause-number
returns-clause-number g c = refl

pub returns-clause-files : goal.returns-clause-files
returns-clause-files g c = c.loop-next.invariant.older

pub returns-clause-all : goal.returns-clause-all
returns-clause-all g c = λ h n from below.
    ⊎_elim (λ in_rest. absurd (not_both (contains nat_cmp c.loop-next.rest n) (none_in c.loop-next.rest c.in_default.ensures.variant.1 n) in_rest)) (λ gone. gone) (c.loop-next.invariant.all h n from below)

pub returns-clause-others : goal.returns-clause-others
returns-clause-others g c = c.loop-next.invariant.stays_open

pub returns-clause-cause : goal.returns-clause-cause
returns-clause-cause g c = cause_ok _ _ _ c.loop-next.invariant.quiet
