use Rattle.std.proofs.Common.{◌∙◌, List, Option, ap, arith, refl, sym, subst}
use Rattle.std.specs.Prelude.{slice_index_or}
use Rattle.std.proofs.lemmas.List.{get_or-set_other}
use Rattle.mio_relay.specs.Connections.{AreServed, ConnectionState}
use Rattle.mio_relay.proofs.Slots.{put_at}
use Rattle.mio_relay.proofs.Turning.{get_at, get_none}
use Rattle.mio_relay.proofs.connections.Connections.put.Goals as goal

pub returns-in_default-clause-served : goal.returns-in_default-clause-served
returns-in_default-clause-served g c = λ sources all one. subst (AreServed sources) (sym c.self.view_is) all

pub returns-in_default-clause-gets : goal.returns-in_default-clause-gets
returns-in_default-clause-gets g c = get_none c.args.connection c.self.inside.slots.items c.args.self.now c.self.view_is

pub returns-in_default-get_mut-clause-served : goal.returns-in_default-get_mut-clause-served
returns-in_default-get_mut-clause-served g c = λ sources all one. subst (AreServed sources) (sym c.self.view_is) all

pub returns-in_default-get_mut-clause-gets : goal.returns-in_default-get_mut-clause-gets
returns-in_default-get_mut-clause-gets g c = get_none c.args.connection c.self.inside.slots.items c.args.self.now c.self.view_is

pub returns-clause-served : goal.returns-clause-served
returns-clause-served g c =
    λ sources all one.
    put_at c.self.inside.slots.items c.args.key.0 c.in-Some.slot.now c.put_in.new.slot c.args.connection (omega (arith, c.in-Some.ensures.variant.0 refl, c.self.inside.slots.ok.0))
    c.in-Some.ensures.value c.put_in.ensures sources (subst (AreServed sources) (sym c.self.view_is) all) one

pub returns-clause-gets : goal.returns-clause-gets
returns-clause-gets g c =
    get_at c.args.connection c.self.inside.slots.items c.args.self.now c.args.key.0 c.in-Some.slot.now c.put_in.new.slot c.self.view_is
    (omega (arith, c.in-Some.ensures.variant.0 refl, c.self.inside.slots.ok.0)) c.in-Some.ensures.value c.put_in.ensures

pub returns-clause-others : goal.returns-clause-others
returns-clause-others g c =
    λ k none other.
    get_or-set_other c.self.inside.slots.items c.args.key.0 k c.put_in.new.slot none other
    ∙ ap (λ (l : List (Option ConnectionState)). slice_index_or l k none) c.self.view_is
