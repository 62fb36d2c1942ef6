use Rattle.std.proofs.Common.{length, refl}
use Rattle.std.proofs.lemmas.Option.{slice_get_read, slice_get_past}
use Rattle.label_plan.proofs.place.match_line.Goals as goal

pub returns : goal.returns
returns g c =
    let relays = c.args.relays.now in
    let scopes = c.in_ok-node.node.now.relay.scopes.items in
    let matches = c.in_ok-within.within.now.matches.items in
    let at = c.in_ok-node.ensures.lookup in
    let there = rw c.deref.ensures.value at c.in_ok-within.ensures.lookup in
    let inside = rw c.deref-2.ensures.value at c.in_ok-found.ensures.lookup in
    rw (slice_get_read relays (length relays) c.args.place c.in_ok-node.node.now refl at.3.0 at.1, slice_get_read scopes (length scopes) c.args.scope c.in_ok-within.within.now refl there.3.0 there.1, slice_get_read matches (length matches) c.args.rule c.in_ok-found.found.now refl inside.3.0 inside.1) refl

pub returns-in_err-node : goal.returns-in_err-node
returns-in_err-node g c = rw (c.from_residual.ensures, slice_get_past c.args.relays.now c.args.place c.in_err-node.ensures.lookup.3) refl

pub returns-in_err-within : goal.returns-in_err-within
returns-in_err-within g c =
    let relays = c.args.relays.now in
    let at = c.in_ok-node.ensures.lookup in
    let there = rw c.deref.ensures.value at c.in_err-within.ensures.lookup in
    rw (c.from_residual-in_err-within.ensures, slice_get_read relays (length relays) c.args.place c.in_ok-node.node.now refl at.3.0 at.1, slice_get_past c.in_ok-node.node.now.relay.scopes.items c.args.scope there.3) refl

pub returns-in_err-found : goal.returns-in_err-found
returns-in_err-found g c =
    let relays = c.args.relays.now in
    let scopes = c.in_ok-node.node.now.relay.scopes.items in
    let at = c.in_ok-node.ensures.lookup in
    let there = rw c.deref.ensures.value at c.in_ok-within.ensures.lookup in
    let inside = rw c.deref-2.ensures.value at c.in_err-found.ensures.lookup in
    rw (c.from_residual-in_err-found.ensures, slice_get_read relays (length relays) c.args.place c.in_ok-node.node.now refl at.3.0 at.1, slice_get_read scopes (length scopes) c.args.scope c.in_ok-within.within.now refl there.3.0 there.1, slice_get_past c.in_ok-within.within.now.matches.items c.args.rule inside.3) refl
