use Rattle.std.proofs.Common.{◌≡◌, ◌<◌, [], Option, length, map, refl, subst}
use Rattle.std.specs.Prelude.{IfSome, ◌⊎◌}
use Rattle.ack_receipt.specs.Reservations.{asked_of}
use Rattle.event_modes.specs.Reading.{meaning}
use Rattle.relay_ports.specs.declared.inlet.Branches.{Branches}
use Rattle.relay_ports.specs.Leaves.{IsRoutedTo, leaf_of}
use Rattle.loop_core.proofs.Keeping.{begun_behind, places_of}
use Rattle.loop_core.proofs.peer.begin.Goals as goal

pub begin_to-requires-clause-entries : goal.begin_to-requires-clause-entries
begin_to-requires-clause-entries g c =
    subst (λ (o : Option (Branches _)). IfSome o (λ branches. (0 < length c.args.message.entries) ⊎ (branches.buffers.items ≡ []))) c.in-Ok-Some.field-0-is c.in-Ok-Some.ensures.buffers

pub begin_to-requires-clause-same : goal.begin_to-requires-clause-same
begin_to-requires-clause-same g c =
    places_of c.args.inlet.now.number c.in-Ok-Some.branches.leaves.items c.in-Ok-Some.branches.leaves.items c.in-Ok-Some.branches.buffers.items refl
    (subst (λ (o : Option (Branches _)). IfSome o (λ branches. branches.leaves.items ≡ map (leaf_of c.args.inlet.now.number) branches.buffers.items)) c.in-Ok-Some.field-0-is c.in-Ok-Some.ensures.same)

pub returns-in-Ok-Some-clause-waits : goal.returns-in-Ok-Some-clause-waits
returns-in-Ok-Some-clause-waits g c =
    begun_behind c.args.inlet.now c.args.number (asked_of (meaning c.args.message)) c.in-Ok-Some.branches.tag c.in-Ok-Some.branches.leaves.items
    c.args.waiting.now.items c.begin_to.new.waiting.items
    (subst (λ (o : Option (Branches _)). IfSome o (λ branches. IsRoutedTo c.args.inlet.now (asked_of (meaning c.args.message)) branches.tag branches.leaves.items)) c.in-Ok-Some.field-0-is c.in-Ok-Some.ensures.leaves)
    c.begin_to.ensures.waits
