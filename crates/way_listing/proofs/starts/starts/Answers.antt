use Rattle.std.proofs.Common.{◌≡◌, ap, get_or, length, map, refl, subst, arith}
use Rattle.std.specs.Prelude.{string_bytes}
use Rattle.std.proofs.lemmas.List.{take_all}
use Rattle.std.proofs.lemmas.Option.{slice_get_read}
use Rattle.relay_net.proofs.Pairing.{taken_more}
use Rattle.way_listing.specs.Sendings.{Sends}
use Rattle.way_listing.proofs.Adding.{adds_more}
use Rattle.way_listing.proofs.starts.starts.Goals as goal

pub of_number-requires : goal.of_number-requires
of_number-requires g c =
    let clients = c.args.net.now.clients in
    let client = c.client-item.result in
    let same = c.clients-client-items.ensures in
    let at = subst (λ xs. client ≡ get_or xs c.loop-number.number client) same c.client-item.is in
    slice_get_read clients (length clients) c.loop-number.number client refl (omega (arith, ap length same)) at

pub loop-number-preserved : goal.loop-number-preserved
loop-number-preserved g c =
    let clients = c.args.net.now.clients in
    let client = c.client-item.result in
    let same = c.clients-client-items.ensures in
    let at = subst (λ xs. client ≡ get_or xs c.loop-number.number client) same c.client-item.is in
    let more = taken_more clients c.loop-number.number client (omega (arith, ap length same)) at in
    rw more (adds_more (Sends c.args.net.now (map string_bytes c.args.tags.now)) _ client _ _ _ c.loop-number.invariant c.in_ok-of_number.ensures)

pub returns : goal.returns
returns g c = rw (take_all c.loop-number.number c.args.net.now.clients (omega (arith, ap length c.clients-client-items.ensures))) at c.loop-number.invariant
