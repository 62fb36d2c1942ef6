use Rattle.folder_counts.specs.Outputs.{with_output}
use Rattle.folder_counts.proofs.Rows.{each_end, each_more}
use Rattle.folder_counts.proofs.outputs_object.put_each_output.Goals as goal

pub loop-output-preserved : goal.loop-output-preserved
loop-output-preserved g c =
    each_more (with_output c.args.buffers.now) c.args.outputs.now c.loop-output.output-index c.output-item.result c.args.writer.now c.loop-output.writer c.put_output.new.writer c.loop-output-test.true c.output-item.is c.loop-output.invariant
    c.in_ok-put_output.ensures

pub returns : goal.returns
returns g c = each_end (with_output c.args.buffers.now) c.args.outputs.now c.loop-output.output-index c.args.writer.now c.loop-output.writer c.loop-output-test.false c.loop-output.invariant
