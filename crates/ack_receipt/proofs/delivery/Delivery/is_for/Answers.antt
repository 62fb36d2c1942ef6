use Rattle.std.proofs.Common.{◌≡◌, List, sym, ap, subst, ◌∙◌, Contains}
use Rattle.book_audit.specs.declared.line.Leaf.{Leaf}
use Rattle.ack_receipt.specs.Deliveries.{OpenDelivery}
use Rattle.ack_receipt.proofs.delivery.Delivery.is_for.Goals as goal

pub returns-then-delivery-get : goal.returns-then-delivery-get
returns-then-delivery-get g c =
    let number : c.args.receipt.now.delivery ≡ c.args.self.now.number = sym c.delivery.ensures ∙ c.if-delivery-get.true ∙ c.get.ensures ∙ ap (λ (d : OpenDelivery). d.number) c.self.view_is in
    let leaves : c.deref.result.now ≡ c.args.self.now.leaves = c.deref.ensures.value ∙ ap (λ (d : OpenDelivery). d.leaves) c.self.view_is in (
      λ t. record {
        number = number;
        leaf = subst (λ (l : Leaf). Contains c.args.self.now.leaves l) c.leaf.ensures (subst (λ (ls : List Leaf). Contains ls c.leaf.result) leaves (c.has_leaf.ensures.0 t));
      },
      λ f. c.has_leaf.ensures.1 (subst (λ (ls : List Leaf). Contains ls c.leaf.result) (sym leaves) (subst (λ (l : Leaf). Contains c.args.self.now.leaves l) (sym c.leaf.ensures) f.leaf)),
    )
