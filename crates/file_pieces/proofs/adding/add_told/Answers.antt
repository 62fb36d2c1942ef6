use Rattle.std.proofs.Common.{Result, length, subst}
use Rattle.disk_files.specs.declared.dir.DirError.{DirError}
use Rattle.file_pieces.specs.Adding.{Adds, HasAny}
use Rattle.file_pieces.proofs.Steps.{answer_of, adds_given}
use Rattle.file_pieces.proofs.adding.add_told.Goals as goal

pub returns-in-Ok : goal.returns-in-Ok
returns-in-Ok g c from =
    let e = c.append.ensures in
    subst (λ (r : Result (Unit {0}) DirError). Adds g.D.Dir.is_honest g.D.Dir.history g.D.Dir.opened g.D.Dir.bytes_left g.D.Dir.fault_count from c.args.to (length c.args.bytes.now) HasAny (λ _. c.args.bytes.now) c.args.dir.now c.append.new.self (answer_of r)) c.in-Ok.is
    (adds_given g.D.Dir.is_honest g.D.Dir.history g.D.Dir.opened g.D.Dir.bytes_left g.D.Dir.fault_count from c.args.to c.append.result c.args.bytes.now c.args.dir.now c.append.new.self e.device.honest e.opened e.room_left e.device.cause e.only e.device.time e.ok e.err)

pub returns-in-Err : goal.returns-in-Err
returns-in-Err g c from =
    let e = c.append.ensures in
    subst (λ (r : Result (Unit {0}) DirError). Adds g.D.Dir.is_honest g.D.Dir.history g.D.Dir.opened g.D.Dir.bytes_left g.D.Dir.fault_count from c.args.to (length c.args.bytes.now) HasAny (λ _. c.args.bytes.now) c.args.dir.now c.append.new.self (answer_of r)) c.in-Err.is
    (adds_given g.D.Dir.is_honest g.D.Dir.history g.D.Dir.opened g.D.Dir.bytes_left g.D.Dir.fault_count from c.args.to c.append.result c.args.bytes.now c.args.dir.now c.append.new.self e.device.honest e.opened e.room_left e.device.cause e.only e.device.time e.ok e.err)
