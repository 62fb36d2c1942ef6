use Rattle.std.proofs.Common.{sym, subst}
use Rattle.std.proofs.lemmas.Result.{err_from_is_err_and}
use Rattle.event_modes.specs.Message.{Packed, Carries}
use Rattle.event_modes.proofs.Again.{not_empty}
use Rattle.event_modes.proofs.Evented.{failed}
use Rattle.event_modes.proofs.Collected.{Packing, packed_more, packed_torn, packed_bad}
use Rattle.event_modes.proofs.entries.packed.Goals as goal

pub returns-in_err-entry : goal.returns-in_err-entry
returns-in_err-entry g c =
    let p = err_from_is_err_and c.from_residual.result c.from_residual.ensures.1 in
    rw (p.1, p.2) (packed_torn c.args.content.now c.loop-rest.rest.now c.loop-rest.entries c.in_err-entry.field-0.0 c.loop-rest.invariant (not_empty c.loop-rest.rest.now c.loop-rest-test.ensures) c.in_err-entry.ensures)

pub loop-rest-preserved : goal.loop-rest-preserved
loop-rest-preserved g c =
    let a = c.in_ok-add.ensures in
    subst (Packing c.args.content.now c.in_ok-entry.behind.now) (sym a.all)
    (packed_more c.args.content.now c.loop-rest.rest.now c.in_ok-entry.entry.now c.in_ok-entry.behind.now a.stored c.loop-rest.entries c.loop-rest.invariant c.in_ok-entry.ensures.0 c.in_ok-entry.ensures.1 a.entry)

pub returns-in_err-add : goal.returns-in_err-add
returns-in_err-add g c =
    let p = err_from_is_err_and c.from_residual-in_err-add.result c.from_residual-in_err-add.ensures.1 in
    rw (p.1, p.2) (failed (Carries (Packed c.args.content.now)) c.in_err-add.field-0.0
    (λ fault f. packed_bad c.args.content.now c.loop-rest.rest.now c.in_ok-entry.entry.now c.in_ok-entry.behind.now c.loop-rest.entries fault c.loop-rest.invariant c.in_ok-entry.ensures.0 c.in_ok-entry.ensures.1 f)
    c.in_err-add.ensures)
