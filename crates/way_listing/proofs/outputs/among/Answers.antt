use Rattle.std.proofs.Common.{arith, sym, ◌∙◌}
use Rattle.relay_conf.specs.Buffers.{buffer_number}
use Rattle.relay_net.specs.Outputs.{is_numbered}
use Rattle.way_listing.proofs.Seeking.{found_one, none_one, none_at_all}
use Rattle.way_listing.proofs.outputs.among.Goals as goal

pub returns-then-has_buffer : goal.returns-then-has_buffer
returns-then-has_buffer g c =
    found_one (λ output. is_numbered (buffer_number output) c.args.buffer.0) c.args.outputs.now c.loop-output.output-index c.output-item.result c.loop-output.invariant (omega arith) c.output-item.is
    (sym c.has_buffer.ensures ∙ c.if-has_buffer.true)

pub loop-output-preserved : goal.loop-output-preserved
loop-output-preserved g c =
    none_one (λ output. is_numbered (buffer_number output) c.args.buffer.0) c.args.outputs.now c.loop-output.output-index c.output-item.result c.loop-output.invariant (omega arith) c.output-item.is
    (sym c.has_buffer.ensures ∙ c.if-has_buffer.false)

pub returns : goal.returns
returns g c = none_at_all (λ output. is_numbered (buffer_number output) c.args.buffer.0) c.args.outputs.now c.loop-output.output-index c.loop-output.invariant (omega arith)
