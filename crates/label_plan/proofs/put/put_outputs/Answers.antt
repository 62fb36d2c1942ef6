use Rattle.std.proofs.Common.{refl, subst, vec_len}
use Rattle.std.proofs.lemmas.Option.{slice_get_read}
use Rattle.label_plan.specs.Changes.{PutsInNode, HasMatchIn, HasScope}
use Rattle.label_plan.proofs.Changing.{changed}
use Rattle.label_plan.proofs.put.put_outputs.Goals as goal

pub put_in_scopes-requires-clause-scope : goal.put_in_scopes-requires-clause-scope
put_in_scopes-requires-clause-scope g c =
    let relays = c.args.relays.now in
    subst (HasScope c.args.at.scope) (slice_get_read relays.items (vec_len relays) c.args.at.place c.index_mut.result.now relays.ok.0 c.requires.relay c.index_mut.ensures.value) c.requires.scope

pub put_in_scopes-requires-clause-rule : goal.put_in_scopes-requires-clause-rule
put_in_scopes-requires-clause-rule g c =
    let relays = c.args.relays.now in
    subst (HasMatchIn c.args.at.scope c.args.at.rule) (slice_get_read relays.items (vec_len relays) c.args.at.place c.index_mut.result.now relays.ok.0 c.requires.relay c.index_mut.ensures.value) c.requires.rule

pub returns : goal.returns
returns g c = changed (PutsInNode c.args.at.scope c.args.at.rule c.args.outputs.items) c.args.at.place c.args.relays.now.items (vec_len c.args.relays.now) c.index_mut.result.now _
    c.args.relays.now.ok.0 c.requires.relay c.index_mut.ensures.value (record { number_is = refl; host_is = refl; relay = record { sources_are = refl; scopes = c.put_in_scopes.ensures } })
