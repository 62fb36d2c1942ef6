use Rattle.relay_conf.proofs.OwnBuffers.{own_buffers}
use Rattle.relay_conf.proofs.relay.Relay.read.Goals as goal

pub returns-clause-own_buffers : goal.returns-clause-own_buffers
returns-clause-own_buffers g c = own_buffers _ c.in_ok-filled.field-0 c.in_ok-filled.ensures

pub returns-clause-faultless : goal.returns-clause-faultless
returns-clause-faultless g c = c.in_ok-examine_elements.ensures.faultless

pub returns-clause-meaning : goal.returns-clause-meaning
returns-clause-meaning g c = c.in_ok-filled.ensures

pub returns-clause-fault : goal.returns-clause-fault
returns-clause-fault g c = c.in_ok-examine_elements.ensures.fault
