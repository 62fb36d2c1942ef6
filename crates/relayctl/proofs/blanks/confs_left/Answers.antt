use Rattle.std.proofs.Common.{List, ℕ, take, length, subst, arith, ap}
use Rattle.std.proofs.lemmas.List.{take_all}
use Rattle.plan_lines.specs.Plans.{texts}
use Rattle.relayctl.specs.Faults.{AreLeft}
use Rattle.relayctl.proofs.Leaving.{left_more, none_left}
use Rattle.relayctl.proofs.blanks.confs_left.Goals as goal

pub loop-place-init : goal.loop-place-init
loop-place-init g c = none_left c.new-all.result.items c.new-all.ensures.items

pub loop-place-preserved : goal.loop-place-preserved
loop-place-preserved g c =
    left_more c.args.confs.now c.loop-place.place c.index-confs-place.result c.deref.result.now (texts c.put_left.new.all.items) c.loop-place-test.true c.index-confs-place.is c.deref.ensures.value
    (c.in_ok-put_left.ensures (texts (take c.loop-place.place c.args.confs.now)) c.loop-place.invariant)

pub returns : goal.returns
returns g c =
    subst (λ (ts : List (List ℕ)). AreLeft ts (texts c.loop-place.all.items)) (ap texts (take_all c.loop-place.place c.args.confs.now (omega arith))) c.loop-place.invariant
