use Rattle.folder_counts.specs.Lines.{sink_lines}
use Rattle.folder_counts.proofs.Rows.{rows_end, rows_more}
use Rattle.folder_counts.proofs.lines.put_sinks.Goals as goal

pub loop-sink-preserved : goal.loop-sink-preserved
loop-sink-preserved g c =
    rows_more sink_lines c.args.sinks.now c.loop-sink.sink-index c.sink-item.result c.args.lines.now.items c.loop-sink.lines.items c.put_sink.new.lines.items c.loop-sink-test.true c.sink-item.is
    c.loop-sink.invariant c.in_ok-put_sink.ensures

pub returns : goal.returns
returns g c = rows_end sink_lines c.args.sinks.now c.loop-sink.sink-index c.args.lines.now.items c.loop-sink.lines.items c.loop-sink-test.false c.loop-sink.invariant
