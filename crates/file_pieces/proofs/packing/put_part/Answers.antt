use Rattle.std.proofs.Common.{ap, take, ◌∙◌, arith}
use Rattle.file_pieces.specs.Pieces.{part_of}
use Rattle.file_pieces.proofs.Sums.{written_behind}
use Rattle.file_pieces.proofs.packing.put_part.Goals as goal

pub returns-clause-bytes : goal.returns-clause-bytes
returns-clause-bytes c =
    let front = c.split_at_mut-behind in
    let part = c.split_at_mut-part in
    written_behind c.args.done c.args.count c.args.into.now front.result.0.now c.copy_from_slice.new.self part.result.1.now (part_of c.args.bytes.now c.args.from c.args.count) front.ensures.front front.ensures.front_len
    (omega (arith, c.copy_from_slice.ensures.len, part.ensures.front_len)) (c.copy_from_slice.ensures.after ∙ c.split_at-2.ensures.front ∙ ap (take c.args.count) c.split_at.ensures.back)
