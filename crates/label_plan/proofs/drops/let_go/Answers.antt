use Rattle.std.proofs.Common.{ap, option_map, refl, vec_len}
use Rattle.std.proofs.lemmas.Option.{slice_get_read}
use Rattle.relay_net.specs.declared.node.Node.{Node}
use Rattle.plan_lines.specs.Parts.{plan_of}
use Rattle.label_plan.proofs.Standing.{relay_fits, scope_fits, rule_fits}
use Rattle.label_plan.proofs.drops.let_go.Goals as goal

pub put_outputs-requires-clause-relay : goal.put_outputs-requires-clause-relay
put_outputs-requires-clause-relay g c =
    let at = c.in-Ok.place in relay_fits c.args.parts.now.relays (plan_of c.args.parts.now).net refl at.place at.scope at.rule c.in-Ok.ensures.meant.means.there

pub put_outputs-requires-clause-scope : goal.put_outputs-requires-clause-scope
put_outputs-requires-clause-scope g c =
    let at = c.in-Ok.place in scope_fits c.args.parts.now.relays (plan_of c.args.parts.now).net refl at.place at.scope at.rule c.in-Ok.ensures.meant.means.there

pub put_outputs-requires-clause-rule : goal.put_outputs-requires-clause-rule
put_outputs-requires-clause-rule g c =
    let at = c.in-Ok.place in rule_fits c.args.parts.now.relays (plan_of c.args.parts.now).net refl at.place at.scope at.rule c.in-Ok.ensures.meant.means.there

pub returns-clause-lets : goal.returns-clause-lets
returns-clause-lets g c =
    let at = c.in-Ok.place in
    let relays = c.args.parts.now.relays in
    let fits = relay_fits relays (plan_of c.args.parts.now).net refl at.place at.scope at.rule c.in-Ok.ensures.meant.means.there in
    record {
      at = at;
      meant = c.in-Ok.ensures.meant;
      relay = c.index.result.now.relay;
      relay_is = ap (option_map (λ (node : Node g.row.A.Denot). node.relay)) (slice_get_read relays.items (vec_len relays) at.place c.index.result.now relays.ok.0 fits c.index.ensures);
      outputs = c.in_ok-outputs.outputs.items;
      own = c.in_ok-outputs.ensures;
      puts = c.put_outputs.ensures;
      rest = refl;
    }
