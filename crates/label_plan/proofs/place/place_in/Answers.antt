use Rattle.std.proofs.Common.{subst}
use Rattle.std.specs.Prelude.{IfOk, IfErr}
use Rattle.plan_lines.specs.Plans.{network}
use Rattle.label_plan.specs.OneByOne.{IsMeant, IsRefusedAt}
use Rattle.label_plan.proofs.place.place_in.Goals as goal

pub returns-clause-meant : goal.returns-clause-meant
returns-clause-meant g c =
    let clients = c.args.parts.now.clients.items in
    subst (λ rs. IfOk c.place_of.result (IsMeant (network rs clients) c.args.name.now)) c.deref.ensures.value (c.place_of.ensures.meant clients)

pub returns-clause-refused : goal.returns-clause-refused
returns-clause-refused g c =
    let clients = c.args.parts.now.clients.items in
    subst (λ rs. IfErr c.place_of.result (IsRefusedAt (network rs clients) c.args.name.now c.args.at)) c.deref.ensures.value (c.place_of.ensures.refused clients)
