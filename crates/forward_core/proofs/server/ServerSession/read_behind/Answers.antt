use Rattle.forward_core.proofs.Stepping.{both_len, both_read}
use Rattle.forward_core.proofs.server.ServerSession.read_behind.Goals as goal

pub keep_rest-requires-clause-reads : goal.keep_rest-requires-clause-reads
keep_rest-requires-clause-reads g c =
    both_read c.in_ok-taken.field-0 c.in-Some.taken _ c.args.self.now c.as_slice.result.now c.args.more.now c.self.view_is c.as_slice.ensures c.in-Some.is c.in_ok-taken.ensures.reads

pub keep_rest-requires-clause-len : goal.keep_rest-requires-clause-len
keep_rest-requires-clause-len g c = both_len c.in_ok-taken.field-0 c.in-Some.taken c.args.more.now c.in-Some.is c.in_ok-taken.ensures.len
