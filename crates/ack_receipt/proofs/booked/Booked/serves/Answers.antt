use Rattle.std.proofs.Common.{◌≡◌, ◌↔◌, ℕ, Option, Some, IsSome, refl, sym, subst}
use Rattle.std.specs.Prelude.{IsTrue, IfSome}
use Rattle.sink_series.specs.Views.{StoredView}
use Rattle.ack_receipt.specs.Evidences.{IsFor, IsLike, IsWhole, Serves, ShowsLike, stored_of}
use Rattle.ack_receipt.proofs.Answered.{if_ok}
use Rattle.ack_receipt.proofs.booked.Booked.serves.Goals as goal

pub returns-in-Some-clause-serves : goal.returns-in-Some-clause-serves
returns-in-Some-clause-serves g c = λ can.
    let shown : stored_of c.args.evidence.now ≡ Some c.in-Some.stored.now = sym c.in-Some.ensures in
    let for : IsFor c.args.leaf c.args.takes.now c.args.claim.now c.args.evidence.now = c.is_for.ensures.0 c.if-not-is_for.false in
    if_ok c.is_stored.result (λ whole. IsTrue whole ↔ IsWhole c.args.self.now.buffer.chunks c.serial.result c.in-Some.stored.now) (λ serves. IsTrue serves ↔ Serves c.args.leaf c.args.takes.now c.args.self.now.buffer.chunks c.args.claim.now c.args.evidence.now)
    (λ b e. (
      (λ t. (for, subst (λ (o : Option StoredView). IfSome o (IsWhole c.args.self.now.buffer.chunks c.args.claim.now.serial)) (sym shown) (subst (λ (n : ℕ). IsWhole c.args.self.now.buffer.chunks n c.in-Some.stored.now) c.serial.ensures (e.0 t)))),
      (λ h. e.1 (subst (λ (n : ℕ). IsWhole c.args.self.now.buffer.chunks n c.in-Some.stored.now) (sym c.serial.ensures) (subst (λ (o : Option StoredView). IfSome o (IsWhole c.args.self.now.buffer.chunks c.args.claim.now.serial)) shown h.1))),
    ))
    (c.is_stored.ensures.whole (can (subst (λ (o : Option StoredView). IsSome o) (sym shown) refl)))

pub returns-in-Some-clause-like : goal.returns-in-Some-clause-like
returns-in-Some-clause-like g c =
    let shown : stored_of c.args.evidence.now ≡ Some c.in-Some.stored.now = sym c.in-Some.ensures in
    if_ok c.is_stored.result (λ whole. IsTrue whole → IsLike c.args.self.now.buffer.chunks c.serial.result c.in-Some.stored.now) (λ serves. IsTrue serves → ShowsLike c.args.self.now.buffer.chunks c.args.claim.now.serial c.args.evidence.now)
    (λ b is t. subst (λ (o : Option StoredView). IfSome o (IsLike c.args.self.now.buffer.chunks c.args.claim.now.serial)) (sym shown)
    (subst (λ (n : ℕ). IsLike c.args.self.now.buffer.chunks n c.in-Some.stored.now) c.serial.ensures (is t)))
    c.is_stored.ensures.like
