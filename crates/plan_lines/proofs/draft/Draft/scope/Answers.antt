use Rattle.plan_lines.proofs.Read.{no_scope, scope_is}
use Rattle.plan_lines.proofs.draft.Draft.scope.Goals as goal

pub returns-in-None : goal.returns-in-None
returns-in-None g c = no_scope c.args.self.now.relays c.nodes.result.now c.args.place c.args.word.now c.get.result (c.nodes.ensures, c.get.ensures.lookup, c.in-None.is)

pub returns-in-Some : goal.returns-in-Some
returns-in-Some g c = scope_is c.args.self.now.relays c.nodes.result.now c.args.place c.args.word.now c.get.result c.in-Some.node c.scope_of.result (c.nodes.ensures, c.get.ensures.lookup, c.in-Some.is) c.scope_of.ensures
