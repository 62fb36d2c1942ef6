use Rattle.std.proofs.Common.{◌≡◌, false, subst}
use Rattle.std.specs.Prelude.{◌≢◌, IsTrue, ◌↔◌}
use Rattle.std.proofs.lemmas.Result.{IfOk-weaker}
use Rattle.custody_steps.specs.declared.fault.StepFault.TheVariants as fault
use Rattle.relay_net.specs.Network.{Network}
use Rattle.loss_search.specs.Losses.{HasLost, Loses}
use Rattle.loss_search.proofs.LosingSteps.{loses_where_lost, refused_loses_none}
use Rattle.custody_steps.specs.WorldOf.{net_of}
use Rattle.loss_search.proofs.losing.loses_event.Goals as goal

pub returns-in-Ok : goal.returns-in-Ok
returns-in-Ok g c =
    let net = c.args.net.now in
    let steps = c.args.steps.now in
    let w = c.in-Ok.world.shown.world in
    IfOk-weaker c.has_lost.result
    (λ is_so. IsTrue is_so ↔ HasLost c.args.duty (net_of c.in-Ok.world) w)
    (λ is_so. IsTrue is_so ↔ Loses c.args.duty net steps)
    (λ is_so lost. loses_where_lost c.args.duty net steps w is_so c.in-Ok.ensures.taken
    (subst (λ (n : Network _). IsTrue is_so ↔ HasLost c.args.duty n w) c.in-Ok.ensures.net lost))
    c.has_lost.ensures

pub returns-in-Err : goal.returns-in-Err
returns-in-Err g c =
    let net = c.args.net.now in
    let steps = c.args.steps.now in
    let none = refused_loses_none c.args.duty net steps c.in-Err.field-0-0 c.in-Err.fault c.in-Err.ensures.refused in
    IfOk-weaker c.refused.result
    (λ is_so. (is_so ≡ false) × (c.in-Err.fault ≢ fault.Memory))
    (λ is_so. IsTrue is_so ↔ Loses c.args.duty net steps)
    (λ is_so said. (λ t. absurd (let no = said.0 in cc (t, no)), λ loses. absurd (none said.1 loses)))
    c.refused.ensures
