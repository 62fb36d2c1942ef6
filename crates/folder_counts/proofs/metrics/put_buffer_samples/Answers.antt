use Rattle.folder_counts.specs.Metrics.{buffer_sample}
use Rattle.folder_counts.proofs.Rows.{rows_end, rows_more}
use Rattle.folder_counts.proofs.metrics.put_buffer_samples.Goals as goal

pub loop-buffer-preserved : goal.loop-buffer-preserved
loop-buffer-preserved g c =
    rows_more (buffer_sample c.args.metric) c.args.buffers.now c.loop-buffer.buffer-index c.buffer-item.result c.args.text.now.items c.loop-buffer.text.items c.put_buffer_sample.new.text.items c.loop-buffer-test.true c.buffer-item.is c.loop-buffer.invariant
    c.in_ok-put_buffer_sample.ensures

pub returns : goal.returns
returns g c = rows_end (buffer_sample c.args.metric) c.args.buffers.now c.loop-buffer.buffer-index c.args.text.now.items c.loop-buffer.text.items c.loop-buffer-test.false c.loop-buffer.invariant
