use Rattle.std.proofs.Common.{⊎_elim, None, Some, IsSome, slice_get, ap, subst}
use Rattle.std.proofs.lemmas.Bool.Decides.{eqb_tells}
use Rattle.disk_files.specs.Real.{open_name}
use Rattle.disk_files.proofs.Table.{get_set, get_set_other}
use Rattle.disk_files.proofs.real.put_at.Goals as goal

pub returns-clause-here : goal.returns-clause-here
returns-clause-here g c = ap open_name (get_set c.args.files.now.items c.args.at None (Some c.args.file) c.requires)

pub returns-clause-others : goal.returns-clause-others
returns-clause-others g c = λ j some.
    let items = c.args.files.now.items in
    ⊎_elim
    (λ own. let gone = subst (λ o. IsSome (open_name o)) c.requires (subst (λ k. IsSome (open_name (slice_get items k))) own.1 some) in absurd (cc gone))
    (λ other. ap open_name (get_set_other items c.args.at j (Some c.args.file) other.1))
    (eqb_tells j c.args.at)
