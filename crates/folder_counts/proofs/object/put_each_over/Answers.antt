use Rattle.folder_counts.specs.Object.{with_over}
use Rattle.folder_counts.proofs.Rows.{each_end, each_more}
use Rattle.folder_counts.proofs.object.put_each_over.Goals as goal

pub loop-buffer-preserved : goal.loop-buffer-preserved
loop-buffer-preserved g c =
    each_more (with_over c.args.limits) c.args.buffers.now c.loop-buffer.buffer-index c.buffer-item.result c.args.writer.now c.loop-buffer.writer c.put_over.new.writer c.loop-buffer-test.true c.buffer-item.is c.loop-buffer.invariant
    c.in_ok-put_over.ensures

pub returns : goal.returns
returns g c = each_end (with_over c.args.limits) c.args.buffers.now c.loop-buffer.buffer-index c.args.writer.now c.loop-buffer.writer c.loop-buffer-test.false c.loop-buffer.invariant
