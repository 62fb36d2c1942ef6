use Rattle.std.proofs.lemmas.Result.{err_from_is_err_and}
use Rattle.relay_conf.proofs.Findings.{refuses_front, examines_behind}
use Rattle.relay_conf.proofs.configuration.examine_all.Goals as goal

pub returns-in_err-examine_sections : goal.returns-in_err-examine_sections
returns-in_err-examine_sections g c =
    let p = err_from_is_err_and c.from_residual.result c.from_residual.ensures.1 in
    rw (p.1, p.2) (refuses_front _ _ _ c.in_err-examine_sections.ensures)

pub returns : goal.returns
returns g c = examines_behind _ _ _ c.in_ok-examine_sections.ensures c.examine_labels.ensures
