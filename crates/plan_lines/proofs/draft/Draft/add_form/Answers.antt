use Rattle.std.proofs.Common.{refl}
use Rattle.plan_lines.specs.Plans.{texts}
use Rattle.plan_lines.proofs.Found.{on_ok, map_err}
use Rattle.plan_lines.proofs.draft.Draft.add_form.Goals as goal

pub returns-in-Relay-clause-adds : goal.returns-in-Relay-clause-adds
returns-in-Relay-clause-adds g c = rw c.in-Relay.is (on_ok c.add_relay.result (λ h. h c.in-Relay.conf.now) c.add_relay.ensures.adds)

pub returns-in-Client-clause-adds : goal.returns-in-Client-clause-adds
returns-in-Client-clause-adds g c = rw c.in-Client.is (on_ok c.add_client.result (λ h. h (texts c.args.confs.now)) c.add_client.ensures.adds)

pub returns-in-Label-clause-adds : goal.returns-in-Label-clause-adds
returns-in-Label-clause-adds g c = rw c.in-Label.is (on_ok c.add_label.result (λ h. h (texts c.args.confs.now)) c.add_label.ensures.adds)

pub returns-in-Reach-clause-adds : goal.returns-in-Reach-clause-adds
returns-in-Reach-clause-adds g c = rw c.in-Reach.is (on_ok c.add_reach.result (λ h. h (texts c.args.confs.now)) c.add_reach.ensures.adds)

pub add_relay-requires : goal.add_relay-requires
add_relay-requires g c = rw c.in-Relay.is at c.requires

pub returns-in-Relay-clause-refuses : goal.returns-in-Relay-clause-refuses
returns-in-Relay-clause-refuses g c = rw c.in-Relay.is (map_err c.add_relay.result (λ e h. h c.in-Relay.conf.now) c.add_relay.ensures.refuses)

pub returns-in-Client-clause-refuses : goal.returns-in-Client-clause-refuses
returns-in-Client-clause-refuses g c = rw c.in-Client.is (map_err c.add_client.result (λ e h. h (texts c.args.confs.now)) c.add_client.ensures.refuses)

pub returns-in-Label-clause-refuses : goal.returns-in-Label-clause-refuses
returns-in-Label-clause-refuses g c = rw c.in-Label.is (map_err c.add_label.result (λ e h. h (texts c.args.confs.now)) c.add_label.ensures.refuses)

pub returns-in-Reach-clause-refuses : goal.returns-in-Reach-clause-refuses
returns-in-Reach-clause-refuses g c = rw c.in-Reach.is (map_err c.add_reach.result (λ e h. h (texts c.args.confs.now)) c.add_reach.ensures.refuses)

pub returns-in-Nothing-clause-adds : goal.returns-in-Nothing-clause-adds
returns-in-Nothing-clause-adds g c = rw c.in-Nothing.is refl

pub returns-in-Duty-clause-adds : goal.returns-in-Duty-clause-adds
returns-in-Duty-clause-adds g c = rw c.in-Duty.is refl

pub returns-in-Bad-clause-refuses : goal.returns-in-Bad-clause-refuses
returns-in-Bad-clause-refuses g c = (refl, rw c.in-Bad.is refl)
