use Rattle.std.proofs.lemmas.Result.{err_from_is_err_and}
use Rattle.relay_conf.proofs.Findings.{refuses_front, refuses_behind, AllPass-append}
use Rattle.relay_conf.proofs.examine.examine_front.Goals as goal

pub returns-in_err-examine_opening-clause-found : goal.returns-in_err-examine_opening-clause-found
returns-in_err-examine_opening-clause-found g c =
    let p = err_from_is_err_and c.from_residual.result c.from_residual.ensures.1 in
    rw (p.1, p.2) (refuses_front _ _ _ c.in_err-examine_opening.ensures)

pub returns-in_err-fault_if-clause-found : goal.returns-in_err-fault_if-clause-found
returns-in_err-fault_if-clause-found g c =
    let p = err_from_is_err_and c.from_residual-in_err-fault_if.result c.from_residual-in_err-fault_if.ensures.1 in
    let wrong = rw (c.lacks_type.ensures, c.pairs_of-pairs.ensures, c.line_of.ensures) at c.in_err-fault_if.ensures in
    rw (p.1, p.2) (refuses_behind _ _ _ c.in_ok-examine_opening.ensures (refuses_front _ _ _ wrong))

pub returns-in_err-examine_settings-clause-found : goal.returns-in_err-examine_settings-clause-found
returns-in_err-examine_settings-clause-found g c =
    let p = err_from_is_err_and c.from_residual-in_err-examine_settings.result c.from_residual-in_err-examine_settings.ensures.1 in
    let right = rw (c.lacks_type.ensures, c.pairs_of-pairs.ensures, c.line_of.ensures) at c.in_ok-fault_if.ensures in
    let wrong = rw (c.section_of-section.ensures, c.value_of.ensures, c.pairs_of-pairs.ensures) at c.in_err-examine_settings.ensures in
    rw (p.1, p.2) (refuses_behind _ _ _ c.in_ok-examine_opening.ensures (refuses_behind _ _ _ right wrong))

pub returns-clause-found : goal.returns-clause-found
returns-clause-found g c =
    let right = rw (c.lacks_type.ensures, c.pairs_of-pairs.ensures, c.line_of.ensures) at c.in_ok-fault_if.ensures in
    let last = rw (c.section_of-section.ensures, c.value_of.ensures, c.pairs_of-pairs.ensures) at c.in_ok-examine_settings.ensures in
    AllPass-append _ _ c.in_ok-examine_opening.ensures (AllPass-append _ _ right last)
