use Rattle.std.proofs.Common.{◌∙◌, ◌∷◌, [], ap}
use Rattle.ack_receipt.specs.Deliveries.{Appended}
use Rattle.loop_core.specs.Waits.{left_of}
use Rattle.loop_core.proofs.unsettled.Handed.spent.Goals as goal

pub returns : goal.returns
returns g c = (λ i. record { delivery = c.spend.ensures.number i; parts = c.spend.ensures.part i }) ∙ ap (λ (r : Appended). left_of r.delivery (r ∷ [])) c.self.view_is
