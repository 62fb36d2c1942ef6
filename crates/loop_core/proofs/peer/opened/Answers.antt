use Rattle.std.proofs.Common.{◌∙◌, ℕ, List, [], ap}
use Rattle.ack_receipt.specs.Deliveries.{OpenDelivery}
use Rattle.event_modes.specs.Reading.{meaning}
use Rattle.loop_core.proofs.peer.opened.Goals as goal

pub returns-in-Ok-clause-delivery : goal.returns-in-Ok-clause-delivery
returns-in-Ok-clause-delivery g c =
    c.in-Ok.ensures.opens
    ∙ ap {B = OpenDelivery} (λ (t : List ℕ). record { number = c.args.number; message = meaning c.args.message; tag = t; leaves = c.args.branches.leaves.items; receipts = [] }) c.as_bytes.ensures.bytes
