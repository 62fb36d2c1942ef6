use Rattle.std.proofs.Common.{◌∙◌, [], None, length, map, ap, sym}
use Rattle.ack_receipt.specs.Deliveries.{OpenDelivery}
use Rattle.ack_receipt.specs.Reservations.{Reservation, asked_of}
use Rattle.event_modes.specs.Reading.{meaning}
use Rattle.relay_conf.specs.declared.output.BufferNo.{BufferNo}
use Rattle.loop_core.proofs.Keeping.{begun_as, has_entries}
use Rattle.loop_core.proofs.peer.begin_to.Goals as goal

pub store-requires-clause-reserved : goal.store-requires-clause-reserved
store-requires-clause-reserved g c =
    c.in-Ok.ensures.reserved ∙ ap {B = Reservation} (λ (d : OpenDelivery). record { asked = asked_of d.message; filled = None }) (sym c.in-Some.ensures.delivery)

pub store-requires-clause-entries : goal.store-requires-clause-entries
store-requires-clause-entries g c =
    has_entries c.in-Some.delivery (length c.args.message.entries) c.in-Some.buffers.items c.args.branches.buffers.items
    (ap (λ (d : OpenDelivery). length d.message.entries) c.in-Some.ensures.delivery) (ap (λ b. b.items) c.in-Some.ensures.buffers) c.requires.entries

pub store-requires-clause-same : goal.store-requires-clause-same
store-requires-clause-same g c =
    ap (λ (d : OpenDelivery). map (λ leaf. leaf.buffer) d.leaves) c.in-Some.ensures.delivery ∙ c.requires.same
    ∙ sym (ap (λ b. map (λ (buffer : BufferNo). buffer.0) b.items) c.in-Some.ensures.buffers)

pub returns-clause-waits : goal.returns-clause-waits
returns-clause-waits g c =
    begun_as c.args.waiting.now.items c.room_for.new.waiting.items c.store.new.waiting.items c.in-Some.delivery
    (record { number = c.args.number; message = meaning c.args.message; tag = c.args.branches.tag; leaves = c.args.branches.leaves.items; receipts = [] })
    c.room_for.ensures.items c.in-Some.ensures.delivery c.store.ensures.waits
