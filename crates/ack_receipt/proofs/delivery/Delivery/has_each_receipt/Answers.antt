use Rattle.ack_receipt.proofs.delivery.Delivery.has_each_receipt.Goals as goal

pub returns : goal.returns
returns g c = rw (← c.self.view_is, ← c.get.ensures, ← c.deref.ensures.value, ← c.deref-2.ensures.value) c.have_receipts.ensures
