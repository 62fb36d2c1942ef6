use Rattle.folder_counts.specs.Lines.{over_lines}
use Rattle.folder_counts.proofs.Rows.{rows_end, rows_more}
use Rattle.folder_counts.proofs.lines.put_overs.Goals as goal

pub loop-buffer-preserved : goal.loop-buffer-preserved
loop-buffer-preserved g c =
    rows_more (over_lines c.args.limits) c.args.buffers.now c.loop-buffer.buffer-index c.buffer-item.result c.args.lines.now.items c.loop-buffer.lines.items c.put_over.new.lines.items c.loop-buffer-test.true c.buffer-item.is c.loop-buffer.invariant
    c.in_ok-put_over.ensures

pub returns : goal.returns
returns g c = rows_end (over_lines c.args.limits) c.args.buffers.now c.loop-buffer.buffer-index c.args.lines.now.items c.loop-buffer.lines.items c.loop-buffer-test.false c.loop-buffer.invariant
