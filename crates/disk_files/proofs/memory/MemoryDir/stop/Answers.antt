use Rattle.std.proofs.Common.{slice_get}
use Rattle.disk_files.specs.Memory.{last_written}
use Rattle.disk_files.proofs.Changed.{shut_as}
use Rattle.disk_files.proofs.Stops.{left_known, stop_left, stop_outcome, stop_settled}
use Rattle.disk_files.proofs.memory.MemoryDir.stop.Goals as goal

pub returns-clause-left : goal.returns-clause-left
returns-clause-left g c = λ honest.
    stop_left c.args.self.files.items c.lose.new.self.files.items c.args.self.past c.lose.new.self.past c.args.keep (last_written c.args.self) honest.0 (left_known c.args.self.files.items c.lose.new.self.files.items c.args.keep c.args.self.last _ honest.1 (c.lose.ensures.left honest.0))

pub returns-clause-outcome : goal.returns-clause-outcome
returns-clause-outcome g c = λ honest.
    stop_outcome c.args.self.files.items c.lose.new.self.files.items c.args.self.past c.lose.new.self.past c.args.keep (last_written c.args.self) honest.0 (left_known c.args.self.files.items c.lose.new.self.files.items c.args.keep c.args.self.last _ honest.1 (c.lose.ensures.left honest.0))

pub returns-clause-settled : goal.returns-clause-settled
returns-clause-settled g c = λ honest.
    stop_settled c.args.self.files.items c.lose.new.self.files.items c.args.self.past c.lose.new.self.past c.args.keep (last_written c.args.self) honest.0 (left_known c.args.self.files.items c.lose.new.self.files.items c.args.keep c.args.self.last _ honest.1 (c.lose.ensures.left honest.0))

pub returns-clause-closed : goal.returns-clause-closed
returns-clause-closed g c = λ file. shut_as (slice_get c.lose.new.self.files.items file.0) (c.lose.ensures.closed file.0)
