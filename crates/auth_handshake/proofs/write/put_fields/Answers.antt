use Rattle.std.proofs.Common.{refl, sym, ◌∙◌, arith}
use Rattle.auth_handshake.proofs.Puts.{puts_starts, puts_on, puts_back, puts_full, on_err, if_ok}
use Rattle.auth_handshake.proofs.write.put_fields.Goals as goal

pub loop-field-init : goal.loop-field-init
loop-field-init g c = puts_starts _ _ _ _ c.args.fields.now refl (omega arith)

pub loop-field-preserved : goal.loop-field-preserved
loop-field-preserved g c =
    puts_on _ _ _ _ _ _ c.args.fields.now c.loop-field.field-index _ c.loop-field.invariant (omega arith)
    (if_ok c.put_field-written.result (sym c.is_err.ensures.value ∙ c.if-is_err.false) c.put_field-written.ensures.ok) c.put_field-written.ensures.kept

pub returns-then-is_err-clause-err : goal.returns-then-is_err-clause-err
returns-then-is_err-clause-err g c =
    on_err c.put_field-written.result
    (λ same. c.truncate.ensures.items ∙ puts_back _ _ _ _ _ c.args.fields.now c.loop-field.field-index _ c.loop-field.invariant same (c.len-start.ensures ∙ c.args.out.now.ok.0)) c.put_field-written.ensures.err

pub returns-then-is_err-clause-full : goal.returns-then-is_err-clause-full
returns-then-is_err-clause-full g c = on_err c.put_field-written.result
    (puts_full _ _ _ _ _ _ _ _ _ c.loop-field.invariant (omega arith) c.args.out.now.ok.0 c.loop-field.out.ok.0) c.put_field-written.ensures.full
