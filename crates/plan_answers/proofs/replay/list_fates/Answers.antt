use Rattle.std.proofs.Common.{◌≡◌, ◌≤◌, ◌+◌, ap, sym, ◌∙◌, cond, add-zero, arith}
use Rattle.std.proofs.lemmas.List.{take_all}
use Rattle.plan_answers.proofs.Fates.{listed_all, listed_more, held_event}
use Rattle.plan_answers.proofs.replay.list_fates.Goals.{then-not-is_held, else-not-is_held}
use Rattle.custody_steps.specs.WorldOf.{net_of}
use Rattle.plan_answers.proofs.replay.list_fates.Goals as goal

pub loop-number-preserved : goal.loop-number-preserved
loop-number-preserved g c =
    let net = net_of c.args.world.now in
    let w = c.args.world.now.shown.world in
    let is_held = c.in_ok-is_held.is_held in
    let lost : c.if-not-is_held.lost ≡ c.loop-number.lost + cond is_held 0 1 = elim c.if-not-is_held.branch [
      | then-not-is_held w ↦ w.lost-is ∙ ap (λ b. c.loop-number.lost + cond b 0 1) (sym w.if-not-is_held.true)
      | else-not-is_held w ↦ w.lost-is ∙ sym (add-zero c.loop-number.lost) ∙ ap (λ b. c.loop-number.lost + cond b 0 1) (sym w.if-not-is_held.false)
    ] in
    let few : c.if-not-is_held.lost ≤ c.loop-number.number + 1 = elim c.if-not-is_held.branch [
      | then-not-is_held w ↦ omega (arith, w.lost-is, c.loop-number.invariant.few)
      | else-not-is_held w ↦ omega (arith, w.lost-is, c.loop-number.invariant.few)
    ] in
    let held = held_event c.args.duty net w c.acknowledged-events.result.now c.loop-number.number c.index-events-number.result is_held c.acknowledged-events.ensures c.loop-number-test.true c.index-events-number.is c.in_ok-is_held.ensures in
    listed_more c.args.duty net w c.acknowledged-events.result.now c.loop-number.number c.loop-number.lines.items c.loop-number.lost c.index-events-number.result is_held
    c.put_fate.new.lines.items c.if-not-is_held.lost c.loop-number.invariant c.loop-number-test.true c.index-events-number.is held
    c.in_ok-put_fate.ensures lost few

pub returns : goal.returns
returns g c =
    let events = c.acknowledged-events.result.now in
    listed_all c.args.duty (net_of c.args.world.now) c.args.world.now.shown.world events c.loop-number.number c.loop-number.lines.items c.loop-number.lost
    c.acknowledged-events.ensures (take_all c.loop-number.number events c.loop-number-test.false) c.loop-number.invariant
