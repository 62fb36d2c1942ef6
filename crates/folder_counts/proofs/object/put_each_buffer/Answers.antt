use Rattle.folder_counts.specs.Object.{with_buffer}
use Rattle.folder_counts.proofs.Rows.{each_end, each_more}
use Rattle.folder_counts.proofs.object.put_each_buffer.Goals as goal

pub loop-buffer-preserved : goal.loop-buffer-preserved
loop-buffer-preserved g c =
    each_more with_buffer c.args.buffers.now c.loop-buffer.buffer-index c.buffer-item.result c.args.writer.now c.loop-buffer.writer c.put_buffer.new.writer c.loop-buffer-test.true c.buffer-item.is c.loop-buffer.invariant
    c.in_ok-put_buffer.ensures

pub returns : goal.returns
returns g c = each_end with_buffer c.args.buffers.now c.loop-buffer.buffer-index c.args.writer.now c.loop-buffer.writer c.loop-buffer-test.false c.loop-buffer.invariant
