use Rattle.std.proofs.Common.{◌≡◌, ◌≤◌, ◌∙◌, ℕ, List, codes, inr, length, option_copied, refl, subst}
use Rattle.std.proofs.lemmas.Result.{IfOk-weaker}
use Rattle.relay_net.specs.Network.{prefix_at, tag_at}
use Rattle.relay_net.specs.Ways.{table_at}
use Rattle.route_graph.specs.Listing.{IsWay}
use Rattle.tag_pattern.specs.Parts.{most_tag_bytes}
use Rattle.way_listing.specs.Lines.{way_text}
use Rattle.way_listing.proofs.Joining.{three}
use Rattle.way_listing.proofs.Sending.{same_tag}
use Rattle.way_listing.proofs.listing.behind.Goals as goal

pub returns : goal.returns
returns g c =
    let net = c.args.net.now in
    let at = c.args.at in
    let sent = c.args.sent.now in
    let way = c.in_ok-way.way in
    let tag = tag_at net sent.address sent.tag in
    let prefix : option_copied c.prefix-prefix.result ≡ prefix_at net sent.address = rw (c.host.ensures, c.port.ensures) at c.prefix-prefix.ensures in
    let same = same_tag net sent.address c.prefix-prefix.result sent.tag c.tag.result.now prefix c.tag.ensures in
    let known = rw c.in-Some.is at c.in_ok-tag.ensures in
    let is = known.0 ∙ same in
    IfOk-weaker c.joined.result _ _ (λ text joined. inr (record {
      short = subst (λ (t : List ℕ). length t ≤ most_tag_bytes) same known.1;
      way = way;
      is_way = subst (λ (t : List ℕ). IsWay (table_at net at.relay) t at.scope way) is c.in_ok-way.ensures.way;
      text_is = three (codes " ") tag (way_text net at.relay way) _ _ _ text.items refl (c.as_bytes.ensures.bytes ∙ is) (c.deref.ensures.value ∙ c.in_ok-gone.ensures) joined;
    })) c.joined.ensures
