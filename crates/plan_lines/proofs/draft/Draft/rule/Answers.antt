use Rattle.plan_lines.specs.Drafts.{draft_of}
use Rattle.plan_lines.proofs.Read.{no_rule, rule_is}
use Rattle.plan_lines.proofs.draft.Draft.rule.Goals as goal

pub returns-in-None : goal.returns-in-None
returns-in-None g c = no_rule (draft_of c.args.self.now).net c.nodes.result.now c.args.place c.args.scope c.args.index c.get.result (c.nodes.ensures, c.get.ensures.lookup, c.in-None.is)

pub returns-in-Some : goal.returns-in-Some
returns-in-Some g c = rule_is (draft_of c.args.self.now).net c.nodes.result.now c.args.place c.args.scope c.args.index c.get.result c.in-Some.node c.rule_of.result (c.nodes.ensures, c.get.ensures.lookup, c.in-Some.is) c.rule_of.ensures
