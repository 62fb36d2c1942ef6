use Rattle.plan_lines.proofs.Read.{no_rule_in, rule_in_is}
use Rattle.plan_lines.proofs.draft.rule_in.Goals as goal

pub returns-in-None : goal.returns-in-None
returns-in-None g c = no_rule_in c.args.scope.now.matches.items c.deref.result.now c.args.index c.get.result (c.deref.ensures.value, c.get.ensures.lookup, c.in-None.is)

pub returns-in-Some : goal.returns-in-Some
returns-in-Some g c = rule_in_is c.args.scope.now.matches.items c.deref.result.now c.args.index c.get.result _ (c.deref.ensures.value, c.get.ensures.lookup, c.in-Some.is)
