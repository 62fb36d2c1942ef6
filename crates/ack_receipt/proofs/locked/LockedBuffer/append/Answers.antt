use Rattle.std.proofs.Common.{ap, subst}
use Rattle.std.specs.Prelude.{Ok}
use Rattle.std.proofs.lemmas.Result.{err_from_is_err_and}
use Rattle.ack_receipt.specs.Books.{Book, Steady}
use Rattle.ack_receipt.proofs.Appending.{appends_so, stays_itself, stays_so, writes_so}
use Rattle.ack_receipt.proofs.Steady.{steady_memory, steady_ok, steady_refused, steady_unasked}
use Rattle.ack_receipt.proofs.locked.LockedBuffer.append.Goals as goal

pub returns-clause-steady : goal.returns-clause-steady
returns-clause-steady g c =
    let same = subst (λ (b : Book g.row.D.Denot). Steady b.buffer c.append.new.self.buffer (Ok c.in_ok-serial.field-0)) c.self.view_is c.in_ok-serial.ensures.steady in
    steady_ok c.args.self.now.buffer c.append.new.self.buffer c.in_ok-serial.field-0 _ same

pub returns-clause-appended : goal.returns-clause-appended
returns-clause-appended g c =
    appends_so c.number.result c.args.delivery.now.number c.in_ok-serial.field-0.serial c.tag-tag.result.now c.args.delivery.now.tag c.entries-entries.result.now c.args.delivery.now.message.entries
    c.self.inside.booked c.args.self.now c.append.new.self c.number.ensures c.tag-tag.ensures c.entries-entries.ensures c.self.view_is c.in_ok-serial.ensures.noted

pub returns-clause-written : goal.returns-clause-written
returns-clause-written g c =
    writes_so c.number.result c.args.delivery.now.number c.in_ok-serial.field-0.serial c.entries-entries.result.now c.args.delivery.now.message.entries
    c.self.inside.booked c.args.self.now c.append.new.self c.number.ensures c.entries-entries.ensures c.self.view_is c.in_ok-serial.ensures.written

pub returns-in_err-plan-clause-same : goal.returns-in_err-plan-clause-same
returns-in_err-plan-clause-same g c = stays_itself c.from_residual.result c.args.self.now

pub returns-in_err-room-clause-same : goal.returns-in_err-room-clause-same
returns-in_err-room-clause-same g c = stays_itself c.from_residual-in_err-room.result c.args.self.now

pub returns-in_err-serial-clause-same : goal.returns-in_err-serial-clause-same
returns-in_err-serial-clause-same g c = stays_so c.from_residual-in_err-serial.result c.self.inside.booked c.args.self.now c.append.new.self c.self.view_is c.in_err-serial.ensures.same

pub returns-in_err-plan-clause-steady : goal.returns-in_err-plan-clause-steady
returns-in_err-plan-clause-steady g c =
    let p = err_from_is_err_and c.from_residual.result c.from_residual.ensures.1 in
    steady_unasked c.self.inside.booked.buffer c.args.self.now.buffer c.in_err-plan.field-0.0 p.0 c.from_residual.result (ap (λ b. b.buffer) c.self.view_is) p.1 p.2
    c.in_err-plan.ensures.failed c.in_err-plan.ensures.quiet

pub returns-in_err-room-clause-steady : goal.returns-in_err-room-clause-steady
returns-in_err-room-clause-steady g c =
    let p = err_from_is_err_and c.from_residual-in_err-room.result c.from_residual-in_err-room.ensures.1 in
    steady_memory c.self.inside.booked.buffer c.args.self.now.buffer p.0 c.from_residual-in_err-room.result (ap (λ b. b.buffer) c.self.view_is) p.1 p.2 c.in_ok-plan.ensures.going

pub returns-in_err-serial-clause-steady : goal.returns-in_err-serial-clause-steady
returns-in_err-serial-clause-steady g c =
    let p = err_from_is_err_and c.from_residual-in_err-serial.result c.from_residual-in_err-serial.ensures.1 in
    steady_refused c.self.inside.booked.buffer c.args.self.now.buffer c.append.new.self.buffer c.in_err-serial.field-0.0 p.0 c.from_residual-in_err-serial.result (ap (λ b. b.buffer) c.self.view_is) p.1 p.2
    c.in_err-serial.ensures.steady
