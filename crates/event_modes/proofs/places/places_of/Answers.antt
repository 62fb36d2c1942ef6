use Rattle.std.proofs.Common.{[], ◌∷◌, subst}
use Rattle.event_modes.specs.declared.places.Elements.{Elements}
use Rattle.msgpack_bytes.specs.Containers.{IsArray}
use Rattle.event_modes.specs.Places.{elements_list, carrier_of}
use Rattle.event_modes.proofs.Framed.{second_text, no_two, no_four}
use Rattle.event_modes.proofs.places.places_of.Goals as goal

pub bulk_of-requires : goal.bulk_of-requires
bulk_of-requires c =
    second_text c.in-Two.tag.now c.in-Two.second.now [] c.args.item.now c.requires
    (subst (λ (e : Elements). IsArray (elements_list e) c.args.item.now) c.in-Two.is c.in_ok-tag.ensures)

pub returns-in_err-carried-in-Two : goal.returns-in_err-carried-in-Two
returns-in_err-carried-in-Two c =
    rw c.from_residual-in_err-carried-in-Two.ensures
    (no_two c.in-Two.tag.now c.in-Two.second.now c.args.item.now c.in_err-carried-in-Two.ensures
    (subst (λ (e : Elements). IsArray (elements_list e) c.args.item.now) c.in-Two.is c.in_ok-tag.ensures))

pub bulk_of-requires-in-Three : goal.bulk_of-requires-in-Three
bulk_of-requires-in-Three c =
    second_text c.in-Three.tag.now c.in-Three.second.now (c.in-Three.third.now ∷ []) c.args.item.now c.requires
    (subst (λ (e : Elements). IsArray (elements_list e) c.args.item.now) c.in-Three.is c.in_ok-tag.ensures)

pub bulk_of-requires-in-Four : goal.bulk_of-requires-in-Four
bulk_of-requires-in-Four c =
    second_text c.in-Four.tag.now c.in-Four.second.now (c.in-Four.third.now ∷ c.in-Four.fourth.now ∷ []) c.args.item.now c.requires
    (subst (λ (e : Elements). IsArray (elements_list e) c.args.item.now) c.in-Four.is c.in_ok-tag.ensures)

pub returns-in-Some-bulk_of : goal.returns-in-Some-bulk_of
returns-in-Some-bulk_of c =
    no_four c.in-Four.tag.now c.in-Four.second.now c.in-Four.third.now c.in-Four.fourth.now c.args.item.now (carrier_of c.in-Some-bulk_of.field-0) c.in-Some-bulk_of.ensures
    (subst (λ (e : Elements). IsArray (elements_list e) c.args.item.now) c.in-Four.is c.in_ok-tag.ensures)
