use Rattle.std.proofs.Common.{ap, sym, ◌∙◌, option_map, arith}
use Rattle.chunk_journal.specs.Fields.{beside}
use Rattle.chunk_journal.proofs.Frames.{frame_split}
use Rattle.chunk_journal.proofs.reading.frame_at.Goals as goal

pub returns : goal.returns
returns c = frame_split c.args.bytes.now c.in-Some.behind.now c.split_at.result.0.now c.split_at.result.1.now c.in-Some.length (λ i. omega (arith, c.type_inv.bytes i))
    (sym c.u32_at.ensures ∙ ap (option_map beside) c.in-Some.is) c.if-length-eq0.false c.if-length-gt-LONGEST_BODY.false c.if-behind-length.false
    c.split_at.ensures.front c.split_at.ensures.back
