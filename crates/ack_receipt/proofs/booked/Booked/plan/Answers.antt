use Rattle.std.proofs.Common.{◌≡◌, inr, ◌∙◌, refl, sym, arith}
use Rattle.std.specs.Prelude.{Err}
use Rattle.std.proofs.lemmas.Result.{err_from_is_err_and}
use Rattle.buffer_state.specs.Steps.{planned}
use Rattle.buffer_store.specs.declared.fault.BufferFault.TheVariants as fault
use Rattle.ack_receipt.proofs.Answered.{err_of, plan_quiet}
use Rattle.ack_receipt.proofs.Ends.{refuses_not}
use Rattle.ack_receipt.proofs.booked.Booked.plan.Goals as goal

pub returns-in_err-serial-clause-quiet : goal.returns-in_err-serial-clause-quiet
returns-in_err-serial-clause-quiet g c = λ q.
    let e = c.plan.ensures in
    let p = err_from_is_err_and c.from_residual.result c.from_residual.ensures.1 in
    let other : c.from_residual.result ≡ Err c.in_err-serial.field-0.0 = cc (p.1, p.2) in
    plan_quiet c.self.inside.buffer.failed (planned c.self.inside.buffer.limits c.self.inside.buffer.chunks c.args.tag.now c.args.entries.now) c.plan.result e.failed e.refused e.accepted (err_of c.from_residual.result c.plan.result c.in_err-serial.field-0.0 fault.Fault other c.in_err-serial.was q)

pub returns-then-self-clause-refused : goal.returns-then-self-clause-refused
returns-then-self-clause-refused g c = rw (← c.self.view_is) (record {
  long = λ going long. absurd (let z = long in let y = c.if-tag-gt-LONGEST_TAG.false in omega arith);
  refused = λ going short f at. absurd (cc (sym at ∙ c.in_ok-serial.ensures.place));
  accepted = λ going short s at. inr (inr (refl, (let z = c.if-self.true in let y = c.self.invariant.0 in omega arith)));
})

pub returns-clause-refused : goal.returns-clause-refused
returns-clause-refused g c =
    refuses_not c.args.tag.now c.args.entries.now _ c.args.self.now c.in_ok-serial.serial c.self.view_is (let z = c.if-tag-gt-LONGEST_TAG.false in omega arith) c.in_ok-serial.ensures.place
