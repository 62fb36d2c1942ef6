use Rattle.std.proofs.Common.{arith, length-drop}
use Rattle.msgpack_bytes.proofs.Alike.{step_as_told}
use Rattle.msgpack_bytes.proofs.steps.step.Goals as goal

pub returns-clause-is : goal.returns-clause-is
returns-clause-is c =
    let rest = length-drop c.args.at c.args.bytes.now in
    step_as_told c.args.may_open _ _ _ _ (omega arith) (omega arith) c.tell.ensures.is c.step_from.ensures.is
