use Rattle.std.proofs.Common.{inr, ◌∙◌}
use Rattle.sink_series.proofs.Made.{before, still, then_made}
use Rattle.sink_series.proofs.Writes.{safe_here, safe_on, safe_rests, safe_same, safe_made, safe_then}
use Rattle.std.proofs.Common.{refl}
use Rattle.sink_series.specs.Faults.{fault_of}
use Rattle.sink_series.specs.declared.fault.SeriesFault.TheVariants as series
use Rattle.sink_series.proofs.Caused.{told, refused_never, memory_cause, cause_of, never}
use Rattle.sink_series.proofs.files.make_next.Goals as goal

pub returns-in_err-own_path-clause-leaves : goal.returns-in_err-own_path-clause-leaves
returns-in_err-own_path-clause-leaves g c honest = record { honest = honest; moments = before _ _; safe = λ name events safe. safe_here _ name events safe }

pub returns-in_err-number-clause-leaves : goal.returns-in_err-number-clause-leaves
returns-in_err-number-clause-leaves g c honest =
    let n = c.in_err-number.ensures in
    record {
      honest = n.honest honest;
      moments = still _ _ _ _ (before _ _) (n.time honest) (n.same honest);
      safe = λ name events safe. safe_rests _ _ name events (n.time honest) (n.same honest) safe;
    }

pub returns-in_err-name-clause-leaves : goal.returns-in_err-name-clause-leaves
returns-in_err-name-clause-leaves g c honest =
    let n = c.in_ok-number.ensures in
    record {
      honest = n.honest honest;
      moments = still _ _ _ _ (before _ _) (n.time honest) (n.same honest);
      safe = λ name events safe. safe_rests _ _ name events (n.time honest) (n.same honest) safe;
    }

pub returns-in_err-file-clause-leaves : goal.returns-in_err-file-clause-leaves
returns-in_err-file-clause-leaves g c honest =
    let n = c.in_ok-number.ensures in
    let on = n.honest honest in
    let e = c.in_err-file.ensures in
    record {
      honest = e.device.honest on;
      moments = then_made _ _ _ c.args.path.now c.deref.result.now c.in_ok-number.number (c.deref.ensures.value ∙ c.in_ok-name.ensures) (still _ _ _ _ (before _ _) (n.time honest) (n.same honest)) (n.same honest) (e.device.time on)
          (e.err on);
      safe = λ name events safe. safe_on _ _ _ name events (safe_rests _ _ name events (n.time honest) (n.same honest) safe) (e.device.time on)
          (safe_then _ _ c.deref.result.now name events (e.err on) (safe_same _ _ name events (n.same honest) safe));
    }

pub returns-clause-leaves : goal.returns-clause-leaves
returns-clause-leaves g c honest =
    let n = c.in_ok-number.ensures in
    let on = n.honest honest in
    let e = c.in_ok-file.ensures in
    record {
      honest = e.device.honest on;
      moments = then_made _ _ _ c.args.path.now c.deref.result.now c.in_ok-number.number (c.deref.ensures.value ∙ c.in_ok-name.ensures) (still _ _ _ _ (before _ _) (n.time honest) (n.same honest)) (n.same honest) (e.device.time on)
          (inr (e.ok on));
      safe = λ name events safe. safe_on _ _ _ name events (safe_rests _ _ name events (n.time honest) (n.same honest) safe) (e.device.time on)
          (safe_made _ _ c.deref.result.now name events (e.ok on) (safe_same _ _ name events (n.same honest) safe));
    }

pub returns-in_err-own_path-clause-cause : goal.returns-in_err-own_path-clause-cause
returns-in_err-own_path-clause-cause g c = memory_cause _ _ c.from_residual.result refl (told series.Memory c.from_residual.result c.from_residual.ensures.1)

pub returns-in_err-own_path-clause-never_failed : goal.returns-in_err-own_path-clause-never_failed
returns-in_err-own_path-clause-never_failed g c = never series.Memory series.Failed c.from_residual.result (told series.Memory c.from_residual.result c.from_residual.ensures.1) (λ e. cc e)

pub returns-in_err-number-clause-cause : goal.returns-in_err-number-clause-cause
returns-in_err-number-clause-cause g c = cause_of _ _ c.in_err-number.field-0.0 c.from_residual-in_err-number.result c.in_err-number.ensures.cause (told c.in_err-number.field-0.0 c.from_residual-in_err-number.result c.from_residual-in_err-number.ensures.1)

pub returns-in_err-name-clause-never_failed : goal.returns-in_err-name-clause-never_failed
returns-in_err-name-clause-never_failed g c = never series.Memory series.Failed c.from_residual-in_err-name.result (told series.Memory c.from_residual-in_err-name.result c.from_residual-in_err-name.ensures.1) (λ e. cc e)

pub returns-in_err-file-clause-never_failed : goal.returns-in_err-file-clause-never_failed
returns-in_err-file-clause-never_failed g c = refused_never c.in_err-file.field-0.0 c.from_residual-in_err-file.result (told (fault_of c.in_err-file.field-0.0) c.from_residual-in_err-file.result c.from_residual-in_err-file.ensures.1)
