use Rattle.std.proofs.Common.{sym, subst}
use Rattle.sink_series.specs.Steps.{GoesOn}
use Rattle.sink_series.specs.declared.rotation.Files.TheVariants.{Open}
use Rattle.sink_series.proofs.rotation.write.Goals as goal

pub returns-in-Open-clause-goes_on : goal.returns-in-Open-clause-goes_on
returns-in-Open-clause-goes_on g c =
    let e = c.write_all_entries-put.ensures in
    subst (λ files. GoesOn g.D.Dir.is_honest g.D.Dir.history files (Open c.write_all_entries-put.new.self))
    (sym c.in-Open.is)
    (λ honest.
    let others = e.others honest in
    (e.kept honest, record { later = others.later; past = others.past; older = e.safe honest }))
