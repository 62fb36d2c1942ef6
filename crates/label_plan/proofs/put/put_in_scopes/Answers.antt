use Rattle.std.proofs.Common.{refl, subst, vec_len}
use Rattle.std.proofs.lemmas.Option.{slice_get_read}
use Rattle.label_plan.specs.Changes.{PutsInScope, HasMatch}
use Rattle.label_plan.proofs.Changing.{changed}
use Rattle.label_plan.proofs.put.put_in_scopes.Goals as goal

pub put_in_matches-requires : goal.put_in_matches-requires
put_in_matches-requires g c =
    let scopes = c.args.scopes.now in
    subst (HasMatch c.args.rule) (slice_get_read scopes.items (vec_len scopes) c.args.scope c.index_mut.result.now scopes.ok.0 c.requires.scope c.index_mut.ensures.value) c.requires.rule

pub returns : goal.returns
returns g c = changed (PutsInScope c.args.rule c.args.outputs.items) c.args.scope c.args.scopes.now.items (vec_len c.args.scopes.now) c.index_mut.result.now _
    c.args.scopes.now.ok.0 c.requires.scope c.index_mut.ensures.value (record { name_is = refl; matches = c.put_in_matches.ensures })
