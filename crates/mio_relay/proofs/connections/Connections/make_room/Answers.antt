use Rattle.std.proofs.Common.{◌≡◌, List, Option, None, Some, subst}
use Rattle.std.specs.Prelude.{IfSome, slice_get}
use Rattle.mio_relay.specs.Connections.{ConnectionState, GoOn}
use Rattle.mio_relay.specs.Turning.{StandOn}
use Rattle.mio_relay.proofs.connections.Connections.make_room.Goals as goal

pub returns-clause-goes : goal.returns-clause-goes
returns-clause-goes g c =
    subst (λ (old : List (Option ConnectionState)). GoOn old c.grow_to.new.slots.items) c.self.view_is c.grow_to.ensures.goes

pub returns-clause-stands : goal.returns-clause-stands
returns-clause-stands g c =
    subst (λ (old : List (Option ConnectionState)). StandOn old c.grow_to.new.slots.items) c.self.view_is c.grow_to.ensures.stands

pub returns-clause-vacant : goal.returns-clause-vacant
returns-clause-vacant g c =
    subst (λ (slots : List (Option _)). IfSome c.vacant_at.result (λ key. slice_get slots key.0 ≡ Some None)) c.deref.ensures.value c.vacant_at.ensures
