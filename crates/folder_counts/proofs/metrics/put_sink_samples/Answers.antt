use Rattle.folder_counts.specs.Metrics.{sink_sample}
use Rattle.folder_counts.proofs.Rows.{rows_end, rows_more}
use Rattle.folder_counts.proofs.metrics.put_sink_samples.Goals as goal

pub loop-sink-preserved : goal.loop-sink-preserved
loop-sink-preserved g c =
    rows_more (sink_sample c.args.metric) c.args.sinks.now c.loop-sink.sink-index c.sink-item.result c.args.text.now.items c.loop-sink.text.items c.put_sink_sample.new.text.items c.loop-sink-test.true c.sink-item.is c.loop-sink.invariant
    c.in_ok-put_sink_sample.ensures

pub returns : goal.returns
returns g c = rows_end (sink_sample c.args.metric) c.args.sinks.now c.loop-sink.sink-index c.args.text.now.items c.loop-sink.text.items c.loop-sink-test.false c.loop-sink.invariant
