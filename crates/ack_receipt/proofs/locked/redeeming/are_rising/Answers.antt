use Rattle.std.proofs.Common.{◌≡◌, ◌+◌, ◌∙◌, ℕ, List, take, get_or, sym, ap, subst, arith}
use Rattle.std.proofs.lemmas.List.{take_all}
use Rattle.ack_receipt.specs.Deliveries.{Pended}
use Rattle.ack_receipt.specs.Redeeming.{AreApart, AreBefore}
use Rattle.ack_receipt.proofs.Redeem.{rises_more}
use Rattle.ack_receipt.proofs.locked.redeeming.are_rising.Goals as goal

pub loop-pending-preserved : goal.loop-pending-preserved
loop-pending-preserved g c =
    let ps : List Pended = c.args.pendings.now in
    let i = c.loop-pending.pending-index in
    let d : Pended = c.pending-item.result in
    let at : c.pending.inside.place ≡ (get_or ps i d).place = ap (λ (q : Pended). q.place) (c.pending.view_is ∙ c.pending-item.is) in
    let above = c.if-pending-next.false in
    let m = rises_more ps i d c.loop-pending.next (omega arith) (omega arith) c.loop-pending.invariant.apart c.loop-pending.invariant.before in
    record { apart = m.0; before = subst (λ (n : ℕ). AreBefore n (take (i + 1) ps)) (ap (λ (n : ℕ). n + 1) (sym at)) m.1 }

pub returns : goal.returns
returns g c = λ _. subst AreApart (take_all c.loop-pending.pending-index c.args.pendings.now (omega arith)) c.loop-pending.invariant.apart
