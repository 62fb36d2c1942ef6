use Rattle.std.proofs.Common.{◌≡◌, ◌≢◌, ap, inl, inr, rules, subst, ◌∙◌}
use Rattle.label_plan.specs.OneByOne.{IsMeant, IsRefusedAt}
use Rattle.label_plan.specs.Printed.{error_text}
use Rattle.label_plan.specs.declared.error.DropError.TheVariants as error
use Rattle.plan_lines.specs.Plans.{network}
use Rattle.relayctl.specs.Dropping.{drop_fault, name_text}
use Rattle.relayctl.proofs.drops.missing_line.Goals as goal

pub returns-in-Ok : goal.returns-in-Ok
returns-in-Ok g c =
    let net = c.args.plan.now.net in
    let relays : c.relays.result.now ≡ net.relays = c.relays.ensures ∙ ap (λ n. n.relays) c.net.ensures.net in
    let meant : IsMeant net c.args.name.now c.in-Ok.field-0 = subst (λ rs. IsMeant (network rs net.clients) c.args.name.now c.in-Ok.field-0) relays (c.in-Ok.ensures.meant net.clients) in
    inr ((c.in-Ok.field-0, meant), c.new.ensures.items)

pub returns-in_ok-fault_line-in-Err : goal.returns-in_ok-fault_line-in-Err
returns-in_ok-fault_line-in-Err g c =
    let net = c.args.plan.now.net in
    let why = c.in-Err.why in
    let relays : c.relays.result.now ≡ net.relays = c.relays.ensures ∙ ap (λ n. n.relays) c.net.ensures.net in
    let refused : IsRefusedAt net c.args.name.now 0 why = subst (λ rs. IsRefusedAt (network rs net.clients) c.args.name.now 0 why) relays (c.in-Err.ensures.refused net.clients) in
    let other : why ≢ error.Memory = search rules in
    inl (why, refused, other, c.in_ok-fault_line-in-Err.ensures)
