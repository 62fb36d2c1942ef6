use Rattle.std.proofs.Common.{suc, cond, Some, None, refl, sym, arith}
use Rattle.relay_net.specs.Index.{among_outputs}
use Rattle.relay_conf.specs.Buffers.{buffer_number}
use Rattle.relay_net.specs.Outputs.{is_numbered}
use Rattle.relay_net.proofs.Passing.{one_turn, no_turn, or_none, or_test}
use Rattle.relay_net.proofs.index.OutputIndex.add_outputs.Goals as goal
use Rattle.relay_net.proofs.index.OutputIndex.add_outputs.Goals.{in-Some+in_ok-add, in_default}

pub loop-place-preserved : goal.loop-place-preserved
loop-place-preserved g c = λ buffer.
    one_turn (λ place outputs. among_outputs c.args.scope c.args.rule place outputs buffer) (λ place o. cond (is_numbered (buffer_number o) buffer) (Some (record { scope = c.args.scope; rule = c.args.rule; output = place })) None)
    (λ place o outputs. sym (or_test (is_numbered (buffer_number o) buffer) _ (among_outputs c.args.scope c.args.rule (suc place) outputs buffer)))
    c.args.outputs.now c.loop-place.place c.index-outputs-place.result (omega arith) c.index-outputs-place.is _ _ _
    (elim c.match-buffer_number.branch [
      | in-Some+in_ok-add w ↦ rw (w.self-is, w.in_ok-add.ensures buffer, ← c.buffer_number.ensures, w.in-Some.is) refl
      | in_default w ↦ rw (w.self-is, ← c.buffer_number.ensures, w.in_default.is) (sym (or_none _))
    ]) (c.loop-place.invariant buffer)

pub returns : goal.returns
returns g c = λ buffer. no_turn (λ place outputs. among_outputs c.args.scope c.args.rule place outputs buffer) (λ _. refl) c.args.outputs.now c.loop-place.place (omega arith) _ _ (c.loop-place.invariant buffer)
