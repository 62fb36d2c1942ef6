use Rattle.std.proofs.Common.{◌≡◌, ◌<◌, ◌≤◌, ℕ, List, Some, None, length, option_copied, subst, sym, ◌∙◌}
use Rattle.std.proofs.lemmas.Result.{on_ok_weaker}
use Rattle.relay_net.specs.Network.{entrance, prefix_at}
use Rattle.relay_net.specs.Ways.{table_at}
use Rattle.route_graph.specs.Ways.{IsLoop}
use Rattle.tag_pattern.specs.Parts.{most_tag_bytes}
use Rattle.way_listing.proofs.Adding.{adds_as, adds_never}
use Rattle.way_listing.proofs.Sending.{by_leaf, loops, no_entrance, of_leaf, same_tag, too_long}
use Rattle.way_listing.proofs.onward.onward.Goals as goal

pub returns-in_default : goal.returns-in_default
returns-in_default g c =
    let none : entrance c.args.net.now c.args.here.now.address ≡ None = sym (rw (c.host.ensures, c.port.ensures) at c.entrance.ensures) ∙ c.in_default.is in
    adds_never _ c.args.found.now.items (λ next. no_entrance c.args.net.now c.args.here.now next none)

pub returns-in_default-2 : goal.returns-in_default-2
returns-in_default-2 g c =
    let net = c.args.net.now in
    let here = c.args.here.now in
    let prefix : option_copied c.prefix-prefix.result ≡ prefix_at net here.address = rw (c.host-2.ensures, c.port-2.ensures) at c.prefix-prefix.ensures in
    let same = same_tag net here.address c.prefix-prefix.result here.tag c.tag.result.now prefix c.tag.ensures in
    let known = rw c.in_default-2.is at c.in_ok-tag.ensures in
    adds_never _ c.args.found.now.items (λ next. too_long net here next (subst (λ (t : List ℕ). most_tag_bytes < length t) same known))

pub returns-in-Loop : goal.returns-in-Loop
returns-in-Loop g c =
    let net = c.args.net.now in
    let here = c.args.here.now in
    let at = c.in-Some.at in
    let enters : entrance net here.address ≡ Some at = sym (rw (c.host.ensures, c.port.ensures) at c.entrance.ensures) ∙ c.in-Some.is in
    let prefix : option_copied c.prefix-prefix.result ≡ prefix_at net here.address = rw (c.host-2.ensures, c.port-2.ensures) at c.prefix-prefix.ensures in
    let same = same_tag net here.address c.prefix-prefix.result here.tag c.tag.result.now prefix c.tag.ensures in
    let known = rw c.in-Some-2.is at c.in_ok-tag.ensures in
    let loop : IsLoop (table_at net at.relay) c.in-Some-2.tag at.scope = rw c.in-Loop.is at c.in_ok-way.ensures.way in
    adds_never _ c.args.found.now.items (λ next. loops net here next at enters (subst (λ (t : List ℕ). IsLoop (table_at net at.relay) t at.scope) (known.0 ∙ same) loop))

pub returns : goal.returns
returns g c =
    let net = c.args.net.now in
    let here = c.args.here.now in
    let tag = c.in-Some-2.tag in
    let enters : entrance net here.address ≡ Some c.in-Some.at = sym (rw (c.host.ensures, c.port.ensures) at c.entrance.ensures) ∙ c.in-Some.is in
    let prefix : option_copied c.prefix-prefix.result ≡ prefix_at net here.address = rw (c.host-2.ensures, c.port-2.ensures) at c.prefix-prefix.ensures in
    let same = same_tag net here.address c.prefix-prefix.result here.tag c.tag.result.now prefix c.tag.ensures in
    let known = rw c.in-Some-2.is at c.in_ok-tag.ensures in
    let is = known.0 ∙ same in
    let short : length tag ≤ most_tag_bytes = subst (λ (t : List ℕ). length t ≤ most_tag_bytes) (sym known.0) known.1 in
    let way = rw c.in-Leaves.is at c.in_ok-way.ensures.way in
    let leaves = rw c.in-Leaves.is at c.in_ok-way.ensures.leaves in
    on_ok_weaker c.send_all.result (adds_as _ _ _ _
    (by_leaf net here c.in-Some.at enters tag is short c.in-Leaves.leaves.items way.0 leaves)
    (of_leaf net here c.in-Some.at enters tag is short c.in-Leaves.leaves.items way.0 leaves)) (rw (c.deref.ensures.value, c.as_bytes.ensures.bytes) at c.send_all.ensures)
