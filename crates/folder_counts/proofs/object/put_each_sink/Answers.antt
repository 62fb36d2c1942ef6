use Rattle.folder_counts.specs.Object.{with_sink}
use Rattle.folder_counts.proofs.Rows.{each_end, each_more}
use Rattle.folder_counts.proofs.object.put_each_sink.Goals as goal

pub loop-sink-preserved : goal.loop-sink-preserved
loop-sink-preserved g c =
    each_more with_sink c.args.sinks.now c.loop-sink.sink-index c.sink-item.result c.args.writer.now c.loop-sink.writer c.put_sink.new.writer c.loop-sink-test.true c.sink-item.is c.loop-sink.invariant
    c.in_ok-put_sink.ensures

pub returns : goal.returns
returns g c = each_end with_sink c.args.sinks.now c.loop-sink.sink-index c.args.writer.now c.loop-sink.writer c.loop-sink-test.false c.loop-sink.invariant
