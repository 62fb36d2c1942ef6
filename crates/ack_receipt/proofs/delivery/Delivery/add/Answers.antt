use Rattle.std.proofs.Common.{◌≡◌, ◌<◌, List, length, refl, sym, ap, subst, ◌∙◌, arith, Contains}
use Rattle.std.proofs.Math.Logic.{∥∥₁_map}
use Rattle.std.proofs.lemmas.Bool.{false≢true}
use Rattle.book_audit.specs.declared.line.Leaf.{Leaf}
use Rattle.ack_receipt.specs.Deliveries.{Appended, IsAdded, IsFor, IsReceived, OpenDelivery}
use Rattle.ack_receipt.specs.Holding.{IsHeld}
use Rattle.ack_receipt.proofs.Held.{has-room, one-more, received-same}
use Rattle.ack_receipt.proofs.delivery.Delivery.add.Goals as goal

pub returns-then-has_receipt-clause-when : goal.returns-then-has_receipt-clause-when
returns-then-has_receipt-clause-when g c =
    let number = c.get.ensures ∙ ap (λ (d : OpenDelivery). d.number) c.self.view_is in
    let receipts = c.deref.ensures.value ∙ ap (λ (d : OpenDelivery). d.receipts) c.self.view_is in
    let added : IsAdded c.args.self c.args.receipt = received-same number receipts c.leaf.ensures (c.has_receipt.ensures.0 c.if-has_receipt.true) in
    (λ e. absurd (false≢true e), λ both. absurd (both.1 added))

pub returns-then-has_receipt-clause-double : goal.returns-then-has_receipt-clause-double
returns-then-has_receipt-clause-double g c =
    let number = c.get.ensures ∙ ap (λ (d : OpenDelivery). d.number) c.self.view_is in
    let receipts = c.deref.ensures.value ∙ ap (λ (d : OpenDelivery). d.receipts) c.self.view_is in
    let added : IsAdded c.args.self c.args.receipt = received-same number receipts c.leaf.ensures (c.has_receipt.ensures.0 c.if-has_receipt.true) in
    let for_it : IsFor c.args.self c.args.receipt = c.is_for.ensures.0 c.if-not-is_for.false in
    (λ _. (for_it, added), λ _. refl)

pub push_reserved-requires : goal.push_reserved-requires
push_reserved-requires g c =
    let d = c.self.inside in
    let for_it : IsFor c.args.self c.args.receipt = c.is_for.ensures.0 c.if-not-is_for.false in
    let own : c.args.receipt.delivery ≡ d.number = for_it.number ∙ sym (ap (λ (o : OpenDelivery). o.number) c.self.view_is) in
    let there : Contains d.leaves.items c.args.receipt.leaf = subst (λ (ls : List Leaf). Contains ls c.args.receipt.leaf) (sym (ap (λ (o : OpenDelivery). o.leaves) c.self.view_is)) for_it.leaf in
    let fresh : ¬ IsReceived d.number d.receipts.items c.args.receipt.leaf = λ r. false≢true (sym c.if-has_receipt.false ∙ c.has_receipt.ensures.1 (received-same (sym c.get.ensures) (sym c.deref.ensures.value) (sym c.leaf.ensures) r)) in
    let room : length d.receipts.items < length d.leaves.items = has-room d.number d.leaves.items d.receipts.items c.args.receipt c.self.invariant.0 own there fresh in
    omega (arith, d.receipts.ok.0, d.leaves.ok.0)

pub invariant_of-self : goal.invariant_of-self
invariant_of-self g c =
    let d = c.self.inside in
    let for_it : IsFor c.args.self c.args.receipt = c.is_for.ensures.0 c.if-not-is_for.false in
    let own : c.args.receipt.delivery ≡ d.number = for_it.number ∙ sym (ap (λ (o : OpenDelivery). o.number) c.self.view_is) in
    let there : Contains d.leaves.items c.args.receipt.leaf = subst (λ (ls : List Leaf). Contains ls c.args.receipt.leaf) (sym (ap (λ (o : OpenDelivery). o.leaves) c.self.view_is)) for_it.leaf in
    let fresh : ¬ IsReceived d.number d.receipts.items c.args.receipt.leaf = λ r. false≢true (sym c.if-has_receipt.false ∙ c.has_receipt.ensures.1 (received-same (sym c.get.ensures) (sym c.deref.ensures.value) (sym c.leaf.ensures) r)) in
    let room : length d.receipts.items < length d.leaves.items = has-room d.number d.leaves.items d.receipts.items c.args.receipt c.self.invariant.0 own there fresh in (
      ∥∥₁_map c.self.invariant.0 (λ (h : IsHeld d.number d.leaves.items d.receipts.items). subst (λ (rs : List Appended). IsHeld d.number d.leaves.items rs) (sym c.push_reserved.ensures.items) (one-more d.number d.leaves.items d.receipts.items c.args.receipt h own there fresh)),
      omega (arith, d.receipts.ok.0, d.leaves.ok.0, c.push_reserved.ensures.len),
      omega (arith, c.push_reserved.ensures.capacity),
      omega arith,
      c.self.invariant.4,
    )

pub returns-clause-when : goal.returns-clause-when
returns-clause-when g c =
    let number = c.get.ensures ∙ ap (λ (d : OpenDelivery). d.number) c.self.view_is in
    let receipts = c.deref.ensures.value ∙ ap (λ (d : OpenDelivery). d.receipts) c.self.view_is in
    let for_it : IsFor c.args.self c.args.receipt = c.is_for.ensures.0 c.if-not-is_for.false in
    let fresh : ¬ IsAdded c.args.self c.args.receipt = λ a. false≢true (sym c.if-has_receipt.false ∙ c.has_receipt.ensures.1 (received-same (sym number) (sym receipts) (sym c.leaf.ensures) a)) in
    (λ _. (for_it, fresh), λ _. refl)
