use Rattle.folder_counts.specs.Outputs.{output_sample}
use Rattle.folder_counts.proofs.Rows.{rows_end, rows_more}
use Rattle.folder_counts.proofs.outputs_metrics.put_samples.Goals as goal

pub loop-output-preserved : goal.loop-output-preserved
loop-output-preserved g c =
    rows_more (output_sample c.args.metric) c.args.outputs.now c.loop-output.output-index c.output-item.result c.args.text.now.items c.loop-output.text.items c.put_output_sample.new.text.items c.loop-output-test.true c.output-item.is c.loop-output.invariant
    c.in_ok-put_output_sample.ensures

pub returns : goal.returns
returns g c = rows_end (output_sample c.args.metric) c.args.outputs.now c.loop-output.output-index c.args.text.now.items c.loop-output.text.items c.loop-output-test.false c.loop-output.invariant
