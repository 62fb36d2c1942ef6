use Rattle.std.proofs.Common.{◌≡◌, ◌<◌, Some, slice_get, length, refl, ap, arith}
use Rattle.std.proofs.lemmas.Option.{slice_get_read, slice_get_within}
use Rattle.std.proofs.lemmas.Bool.Decides.{Decides-not}
use Rattle.loss_rules.proofs.News.{shown_within, place_within, source_of, not_new, port_not_new, is_new}
use Rattle.loss_rules.proofs.Seeks.{not_true}
use Rattle.loss_rules.proofs.addresses.source_is_new.Goals as goal

pub index-source-requires : goal.index-source-requires
index-source-requires g c =
    let size : length c.relays.result.now ≡ length c.args.net.now.relays = ap length c.relays.ensures in
    let within : c.args.place < length c.args.net.now.relays = place_within c.args.net.now c.args.place c.args.number c.requires.0 c.requires.1 in
    let node_is : slice_get c.args.net.now.relays c.args.place ≡ Some c.index-relays-place.result = rw (← c.relays.ensures) (slice_get_read c.relays.result.now _ c.args.place c.index-relays-place.result refl (omega arith) c.index-relays-place.is) in
    let wanted : slice_get c.index-relays-place.result.relay.sources.items c.args.number ≡ Some c.requires.0 = source_of c.args.net.now c.args.place c.args.number c.index-relays-place.result c.requires.0 node_is c.requires.1 in
    let inside : c.args.number < length c.index-relays-place.result.relay.sources.items = slice_get_within c.index-relays-place.result.relay.sources.items c.args.number c.requires.0 wanted in
    let counted = c.index-relays-place.result.relay.sources.ok.0 in
    omega (arith, counted, inside)

pub is_taken_before-requires : goal.is_taken_before-requires
is_taken_before-requires g c =
    let within : c.args.place < length c.args.net.now.relays = place_within c.args.net.now c.args.place c.args.number c.requires.0 c.requires.1 in
    rw c.relays-2.ensures (omega arith)

pub is_port_before-requires : goal.is_port_before-requires
is_port_before-requires g c =
    let size : length c.relays.result.now ≡ length c.args.net.now.relays = ap length c.relays.ensures in
    let within : c.args.place < length c.args.net.now.relays = place_within c.args.net.now c.args.place c.args.number c.requires.0 c.requires.1 in
    let node_is : slice_get c.args.net.now.relays c.args.place ≡ Some c.index-relays-place.result = rw (← c.relays.ensures) (slice_get_read c.relays.result.now _ c.args.place c.index-relays-place.result refl (omega arith) c.index-relays-place.is) in
    let wanted : slice_get c.index-relays-place.result.relay.sources.items c.args.number ≡ Some c.requires.0 = source_of c.args.net.now c.args.place c.args.number c.index-relays-place.result c.requires.0 node_is c.requires.1 in
    let inside : c.args.number < length c.index-relays-place.result.relay.sources.items = slice_get_within c.index-relays-place.result.relay.sources.items c.args.number c.requires.0 wanted in
    rw c.deref.ensures.value (omega arith)

pub returns-then-is_taken_before : goal.returns-then-is_taken_before
returns-then-is_taken_before g c =
    let size : length c.relays.result.now ≡ length c.args.net.now.relays = ap length c.relays.ensures in
    let within : c.args.place < length c.args.net.now.relays = place_within c.args.net.now c.args.place c.args.number c.requires.0 c.requires.1 in
    let node_is : slice_get c.args.net.now.relays c.args.place ≡ Some c.index-relays-place.result = rw (← c.relays.ensures) (slice_get_read c.relays.result.now _ c.args.place c.index-relays-place.result refl (omega arith) c.index-relays-place.is) in
    let wanted : slice_get c.index-relays-place.result.relay.sources.items c.args.number ≡ Some c.requires.0 = source_of c.args.net.now c.args.place c.args.number c.index-relays-place.result c.requires.0 node_is c.requires.1 in
    let inside : c.args.number < length c.index-relays-place.result.relay.sources.items = slice_get_within c.index-relays-place.result.relay.sources.items c.args.number c.requires.0 wanted in
    let source_is : slice_get c.index-relays-place.result.relay.sources.items c.args.number ≡ Some c.index-source.result.now = slice_get_read c.index-relays-place.result.relay.sources.items _ c.args.number c.index-source.result.now refl inside c.index-source.ensures in
    let e = rw (c.as_bytes.ensures.value, c.relays-2.ensures) at c.if-is_taken_before.ensures in
    (λ f. absurd (not_true f), λ new. absurd (not_new c.args.net.now c.args.place c.args.number c.index-relays-place.result c.index-source.result.now node_is source_is (e.0 refl) new))

pub returns : goal.returns
returns g c =
    let size : length c.relays.result.now ≡ length c.args.net.now.relays = ap length c.relays.ensures in
    let within : c.args.place < length c.args.net.now.relays = place_within c.args.net.now c.args.place c.args.number c.requires.0 c.requires.1 in
    let node_is : slice_get c.args.net.now.relays c.args.place ≡ Some c.index-relays-place.result = rw (← c.relays.ensures) (slice_get_read c.relays.result.now _ c.args.place c.index-relays-place.result refl (omega arith) c.index-relays-place.is) in
    let wanted : slice_get c.index-relays-place.result.relay.sources.items c.args.number ≡ Some c.requires.0 = source_of c.args.net.now c.args.place c.args.number c.index-relays-place.result c.requires.0 node_is c.requires.1 in
    let inside : c.args.number < length c.index-relays-place.result.relay.sources.items = slice_get_within c.index-relays-place.result.relay.sources.items c.args.number c.requires.0 wanted in
    let source_is : slice_get c.index-relays-place.result.relay.sources.items c.args.number ≡ Some c.index-source.result.now = slice_get_read c.index-relays-place.result.relay.sources.items _ c.args.number c.index-source.result.now refl inside c.index-source.ensures in
    let e = rw (c.as_bytes.ensures.value, c.relays-2.ensures) at c.if-is_taken_before.ensures in
    let d = Decides-not c.is_port_before.result (rw c.deref.ensures.value at c.is_port_before.ensures) in
    (λ t. is_new c.args.net.now c.args.place c.args.number c.index-relays-place.result c.index-source.result.now node_is source_is (λ h. not_true (e.1 h)) (d.0 t), λ new. d.1 (λ h. port_not_new c.args.net.now c.args.place c.args.number c.index-relays-place.result c.index-source.result.now node_is source_is h new))

pub bounds-relays-place : goal.bounds-relays-place
bounds-relays-place g c = shown_within c.args.net.now.relays c.relays.result.now c.relays.ensures c.args.place (place_within c.args.net.now c.args.place c.args.number c.requires.0 c.requires.1)

pub as_bytes-requires : goal.as_bytes-requires
as_bytes-requires g c = λ κs lives. lives
