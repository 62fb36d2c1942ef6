use Rattle.std.proofs.Common.{◌≡◌, length, arith}
use Rattle.file_pieces.specs.Pieces.{HasPart, part_of}
use Rattle.file_pieces.proofs.ReadOn.{adds_read, adds_unread}
use Rattle.file_pieces.proofs.adding.copy_part.Goals as goal

pub returns-in-Ok-clause-adds : goal.returns-in-Ok-clause-adds
returns-in-Ok-clause-adds g c =
    let e = c.in-Ok.ensures in
    let size = length c.args.part.now in
    adds_read g.D.Dir.is_honest g.D.Dir.history g.D.Dir.opened g.D.Dir.bytes_left g.D.Dir.fault_count c.args.from c.args.to c.in-Ok.field-0 c.add_told.result size (λ seen. HasPart seen c.args.at size) (λ seen. c.read_exact.new.into ≡ part_of seen c.args.at size)
    c.read_exact.new.into (λ seen. part_of seen c.args.at size) c.args.dir.now c.read_exact.new.dir c.add_told.new.dir e.reads (c.add_told.ensures c.args.from) (omega (arith, e.len)) (λ seen has given. given)

pub returns-in-Err-clause-adds : goal.returns-in-Err-clause-adds
returns-in-Err-clause-adds g c =
    let size = length c.args.part.now in
    adds_unread g.D.Dir.is_honest g.D.Dir.history g.D.Dir.opened g.D.Dir.bytes_left g.D.Dir.fault_count c.args.from c.args.to c.in-Err.fault size (λ seen. HasPart seen c.args.at size) (λ seen. c.read_exact.new.into ≡ part_of seen c.args.at size)
    (λ seen. part_of seen c.args.at size) c.args.dir.now c.read_exact.new.dir c.in-Err.ensures.reads
