use Rattle.folder_counts.specs.Outputs.{output_line}
use Rattle.folder_counts.proofs.Rows.{rows_end, rows_more}
use Rattle.folder_counts.proofs.outputs_lines.put_outputs.Goals as goal

pub loop-output-preserved : goal.loop-output-preserved
loop-output-preserved g c =
    rows_more (output_line c.args.buffers.now) c.args.outputs.now c.loop-output.output-index c.output-item.result c.args.lines.now.items c.loop-output.lines.items c.put_output.new.lines.items c.loop-output-test.true c.output-item.is
    c.loop-output.invariant c.in_ok-put_output.ensures

pub returns : goal.returns
returns g c = rows_end (output_line c.args.buffers.now) c.args.outputs.now c.loop-output.output-index c.args.lines.now.items c.loop-output.lines.items c.loop-output-test.false c.loop-output.invariant
