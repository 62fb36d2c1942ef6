use Rattle.sink_series.proofs.Onward.{are_files, whole_content, ok_map, still_here, still_on, still_join}
use Rattle.std.proofs.Common.{IsSome, refl, sym, subst, ◌∙◌, arith}
use Rattle.sink_series.specs.Faults.{fault_of}
use Rattle.sink_series.proofs.Caused.{told, no_value, refused_cause, refused_only, cause_behind}
use Rattle.sink_series.proofs.files.read_all.Goals as goal

pub returns-clause-content : goal.returns-clause-content
returns-clause-content g c honest =
    let n = c.in_ok-found.ensures in
    let are = are_files _ _ c.args.path.now _ _ c.in_ok-found.found c.sinks.ensures.path c.sinks.ensures.kind (n.same honest) (n.numbers honest) in
    ok_map c.read_to.result _ _ (λ events held. whole_content _ _ c.args.path.now c.in_ok-found.found c.greatest_of.result events.items are c.greatest_of.ensures (omega arith) (n.same honest) held)
    (c.read_to.ensures.content (n.device.honest honest) are)

pub returns-in_err-found-clause-content : goal.returns-in_err-found-clause-content
returns-in_err-found-clause-content g c = λ honest. no_value (fault_of c.in_err-found.field-0.0) c.from_residual.result _ (told (fault_of c.in_err-found.field-0.0) c.from_residual.result c.from_residual.ensures.1)

pub returns-in_err-found-clause-cause : goal.returns-in_err-found-clause-cause
returns-in_err-found-clause-cause g c = refused_cause _ _ _ _ c.in_err-found.field-0.0 c.from_residual.result c.in_err-found.ensures.device.cause refl refl (told (fault_of c.in_err-found.field-0.0) c.from_residual.result c.from_residual.ensures.1)

pub returns-in_err-found-clause-only : goal.returns-in_err-found-clause-only
returns-in_err-found-clause-only g c = refused_only c.in_err-found.field-0.0 c.from_residual.result (told (fault_of c.in_err-found.field-0.0) c.from_residual.result c.from_residual.ensures.1)

pub returns-in_err-found-clause-stays_open : goal.returns-in_err-found-clause-stays_open
returns-in_err-found-clause-stays_open g c = λ is. c.in_err-found.ensures.opened c.args.own

pub returns-clause-cause : goal.returns-clause-cause
returns-clause-cause g c = cause_behind _ _ _ c.read_to.result c.in_ok-found.ensures.device.cause.passed c.read_to.ensures.cause

pub returns-clause-only : goal.returns-clause-only
returns-clause-only g c = c.read_to.ensures.only

pub returns-clause-honest : goal.returns-clause-honest
returns-clause-honest g c honest = (c.read_to.ensures.still (c.in_ok-found.ensures.device.honest honest)).0

pub returns-clause-time : goal.returns-clause-time
returns-clause-time g c honest = (let n = c.in_ok-found.ensures in (still_join _ _ _ (still_on _ _ _ (still_here _) (n.device.time honest) (n.same honest)) (c.read_to.ensures.still (n.device.honest honest)).1).time)

pub returns-clause-same : goal.returns-clause-same
returns-clause-same g c honest = (let n = c.in_ok-found.ensures in (still_join _ _ _ (still_on _ _ _ (still_here _) (n.device.time honest) (n.same honest)) (c.read_to.ensures.still (n.device.honest honest)).1).same)

pub returns-clause-stays_open : goal.returns-clause-stays_open
returns-clause-stays_open g c = λ is. (let o = c.in_ok-found.ensures.opened c.args.own in c.read_to.ensures.stays_open (subst IsSome (sym o) is) ∙ o)
