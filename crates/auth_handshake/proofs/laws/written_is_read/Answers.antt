use Rattle.auth_handshake.proofs.Whole.{helo_is, ping_is, pong_is, refusal_is}
use Rattle.auth_handshake.proofs.laws.written_is_read.Goals as goal

pub returns-clause-helo : goal.returns-clause-helo
returns-clause-helo c = helo_is

pub returns-clause-ping : goal.returns-clause-ping
returns-clause-ping c = ping_is

pub returns-clause-pong : goal.returns-clause-pong
returns-clause-pong c = pong_is

pub returns-clause-refusal : goal.returns-clause-refusal
returns-clause-refusal c = refusal_is
