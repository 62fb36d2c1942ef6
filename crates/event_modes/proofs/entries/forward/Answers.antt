use Rattle.std.proofs.Common.{sym, subst}
use Rattle.std.proofs.lemmas.Result.{err_from_is_err_and}
use Rattle.event_modes.specs.Message.{Forward, Carries}
use Rattle.event_modes.proofs.Evented.{failed}
use Rattle.event_modes.proofs.Collected.{Collected, forward_text, forward_more, forward_fault}
use Rattle.event_modes.proofs.entries.forward.Goals as goal

pub add-requires : goal.add-requires
add-requires g c = forward_text c.args.array.now c.in-Some-next.entry.now c.loop-entry.items c.next.new.self c.loop-entry.entries c.requires.0 c.loop-entry.invariant c.in-Some-next.ensures.steps

pub loop-entry-preserved : goal.loop-entry-preserved
loop-entry-preserved g c =
    let a = c.in_ok-add.ensures in
    subst (Collected c.args.array.now c.next.new.self) (sym a.all) (forward_more c.args.array.now c.in-Some-next.entry.now a.stored c.loop-entry.items c.next.new.self c.loop-entry.entries c.loop-entry.invariant c.in-Some-next.ensures.steps a.entry)

pub returns-in_err-add : goal.returns-in_err-add
returns-in_err-add g c =
    let p = err_from_is_err_and c.from_residual.result c.from_residual.ensures.1 in
    rw (p.1, p.2) (failed (Carries (Forward c.args.array.now)) c.in_err-add.field-0.0
    (λ fault f. forward_fault c.args.array.now c.in-Some-next.entry.now c.loop-entry.items c.next.new.self c.loop-entry.entries fault c.loop-entry.invariant c.in-Some-next.ensures.steps f)
    c.in_err-add.ensures)
