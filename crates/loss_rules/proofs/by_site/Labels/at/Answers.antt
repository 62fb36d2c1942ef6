use Rattle.std.proofs.Common.{sym}
use Rattle.loss_rules.proofs.by_site.Labels.at.Goals as goal

pub returns : goal.returns
returns g c = λ list. rw (c.at.ensures, sym c.self.view_is) (c.self.invariant c.args.scope.relay c.args.scope.scope list)
