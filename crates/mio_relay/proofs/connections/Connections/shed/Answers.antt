use Rattle.std.proofs.Common.{◌∙◌, List, Option, ap, arith, refl, sym, subst}
use Rattle.std.specs.Prelude.{slice_index_or}
use Rattle.std.proofs.lemmas.List.{get_or-set_other}
use Rattle.mio_relay.specs.Connections.{ConnectionState, AreFlushed, AreInTime, AreServed, AreSettled, HoldsInTime}
use Rattle.mio_relay.proofs.Slots.{flushed_at, holds_still, kept_at, rests_at}
use Rattle.mio_relay.proofs.Turning.{stand_at, stand_still}
use Rattle.mio_relay.proofs.connections.Connections.shed.Goals as goal

pub returns-clause-goes : goal.returns-clause-goes
returns-clause-goes g c =
    λ sources all.
    kept_at c.self.inside.slots.items c.args.key c.in-Some.slot.now c.shed_slot.new.slot (omega (arith, c.in-Some.ensures.variant.0 refl, c.self.inside.slots.ok.0))
    c.in-Some.ensures.value c.shed_slot.ensures.goes sources (subst (AreServed sources) (sym c.self.view_is) all)

pub returns-clause-settled : goal.returns-clause-settled
returns-clause-settled g c =
    λ all.
    rests_at c.self.inside.slots.items c.args.key c.in-Some.slot.now c.shed_slot.new.slot (omega (arith, c.in-Some.ensures.variant.0 refl, c.self.inside.slots.ok.0))
    c.in-Some.ensures.value c.shed_slot.ensures.settled (subst AreSettled (sym c.self.view_is) all)

pub returns-clause-flushed : goal.returns-clause-flushed
returns-clause-flushed g c =
    λ all.
    flushed_at c.self.inside.slots.items c.args.key c.in-Some.slot.now c.shed_slot.new.slot (omega (arith, c.in-Some.ensures.variant.0 refl, c.self.inside.slots.ok.0))
    c.in-Some.ensures.value c.shed_slot.ensures.flushed (subst AreFlushed (sym c.self.view_is) all)

pub returns-clause-in_time : goal.returns-clause-in_time
returns-clause-in_time g c =
    λ time all.
    holds_still (HoldsInTime time) c.self.inside.slots.items c.args.key c.in-Some.slot.now c.shed_slot.new.slot
    (omega (arith, c.in-Some.ensures.variant.0 refl, c.self.inside.slots.ok.0)) c.in-Some.ensures.value (c.shed_slot.ensures.in_time time)
    (subst (AreInTime time) (sym c.self.view_is) all)

pub returns-clause-others : goal.returns-clause-others
returns-clause-others g c =
    λ k none other.
    get_or-set_other c.self.inside.slots.items c.args.key k c.shed_slot.new.slot none other
    ∙ ap (λ (l : List (Option ConnectionState)). slice_index_or l k none) c.self.view_is

pub returns-in_default-clause-stands : goal.returns-in_default-clause-stands
returns-in_default-clause-stands g c = stand_still c.self.inside.slots.items c.args.self.now c.self.view_is

pub returns-clause-stands : goal.returns-clause-stands
returns-clause-stands g c =
    stand_at c.self.inside.slots.items c.args.self.now c.args.key c.in-Some.slot.now c.shed_slot.new.slot c.self.view_is
    (omega (arith, c.in-Some.ensures.variant.0 refl, c.self.inside.slots.ok.0)) c.in-Some.ensures.value c.shed_slot.ensures.stands
