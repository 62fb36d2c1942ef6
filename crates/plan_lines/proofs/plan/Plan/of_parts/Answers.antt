use Rattle.std.proofs.Common.{length, List, sym, ap, subst, ◌∙◌}
use Rattle.loss_rules.specs.Sites.{BuffersAreDistinct}
use Rattle.relay_net.specs.declared.node.Node.{Node}
use Rattle.plan_lines.specs.Plans.{network}
use Rattle.plan_lines.proofs.plan.Plan.of_parts.Goals as goal

pub invariant_of-result : goal.invariant_of-result
invariant_of-result g c =
    let relays = sym c.in-Ok.ensures.relays in (
      c.requires.relay_lines ∙ ap length relays,
      c.requires.client_lines ∙ ap length (sym c.in-Ok.ensures.clients),
      subst (λ (nodes : List (Node g.row.A.Denot)). BuffersAreDistinct (network nodes c.in-Ok.net.clients)) relays c.requires.distinct,
    )
