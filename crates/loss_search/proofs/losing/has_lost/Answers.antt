use Rattle.std.proofs.Common.{length, ap, sym, ◌∙◌, arith}
use Rattle.std.proofs.lemmas.List.{length-map}
use Rattle.custody_store.specs.Book.{told_of}
use Rattle.custody_steps.proofs.Keeping.{never}
use Rattle.loss_search.specs.Losses.{HasLost}
use Rattle.loss_search.proofs.LosingSteps.{kept_more, lost_there, none_lost}
use Rattle.custody_steps.specs.WorldOf.{net_of}
use Rattle.loss_search.proofs.losing.has_lost.Goals as goal

pub returns-then-not-branch : goal.returns-then-not-branch
returns-then-not-branch g c =
    lost_there c.args.duty (net_of c.args.world.now) c.args.world.now.shown.world c.acknowledged-number-end.result.now c.loop-number.number c.in_ok-is_kept_as.field-0
    c.acknowledged-number-end.ensures c.loop-number-test.true c.in_ok-is_kept_as.ensures c.if-not-branch.true

pub loop-number-preserved : goal.loop-number-preserved
loop-number-preserved g c =
    kept_more c.args.duty (net_of c.args.world.now) c.args.world.now.shown.world c.loop-number.number c.in_ok-is_kept_as.field-0
    c.loop-number.invariant c.in_ok-is_kept_as.ensures c.if-not-branch.false

pub returns : goal.returns
returns g c =
    let net = net_of c.args.world.now in
    let w = c.args.world.now.shown.world in
    let count = sym (length-map c.acknowledged-number-end.result.now told_of) ∙ ap length c.acknowledged-number-end.ensures in
    never (HasLost c.args.duty net w) (none_lost c.args.duty net w c.loop-number.number (omega (arith, count, c.loop-number-test.false)) c.loop-number.invariant)
