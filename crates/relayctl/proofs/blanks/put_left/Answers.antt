use Rattle.relayctl.specs.Faults.{gone}
use Rattle.relayctl.proofs.Leaving.{one_kept}
use Rattle.relayctl.proofs.blanks.put_left.Goals as goal

pub returns-then-is_gone : goal.returns-then-is_gone
returns-then-is_gone g c = λ before are. gone c.args.conf.now are

pub returns : goal.returns
returns g c =
    λ before are. one_kept before c.args.conf.now c.args.all.now.items c.in_ok-blanked.field-0 c.push.new.self.items are c.in_ok-blanked.ensures c.in_ok-push.ensures.items
