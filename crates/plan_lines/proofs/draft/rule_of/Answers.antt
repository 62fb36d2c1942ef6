use Rattle.plan_lines.proofs.Read.{no_rule_of, rule_of_is}
use Rattle.plan_lines.proofs.draft.rule_of.Goals as goal

pub returns-in-None : goal.returns-in-None
returns-in-None g c = no_rule_of c.args.relay.now.scopes.items c.deref.result.now c.args.scope c.args.index c.get.result (c.deref.ensures.value, c.get.ensures.lookup, c.in-None.is)

pub returns-in-Some : goal.returns-in-Some
returns-in-Some g c = rule_of_is c.args.relay.now.scopes.items c.deref.result.now c.args.scope c.args.index c.get.result c.in-Some.found c.rule_in.result (c.deref.ensures.value, c.get.ensures.lookup, c.in-Some.is) c.rule_in.ensures
