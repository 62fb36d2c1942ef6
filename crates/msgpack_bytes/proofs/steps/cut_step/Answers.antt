use Rattle.std.proofs.Common.{arith}
use Rattle.msgpack_bytes.proofs.Alike.{step_of_front}
use Rattle.msgpack_bytes.proofs.steps.cut_step.Goals as goal

pub returns-clause-is : goal.returns-clause-is
returns-clause-is c = λ all size begins. step_of_front c.args.may_open c.args.front.now all c.args.len _ _ (omega arith) c.requires size begins c.tell.ensures.is c.step_from.ensures.is
