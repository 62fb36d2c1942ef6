use Rattle.std.proofs.Common.{rules, ◌≡◌, ◌++◌, codes, decimal}
use Rattle.std.proofs.lemmas.Result.{IfOk-weaker}
use Rattle.way_listing.proofs.Joining.{line_of_four}
use Rattle.way_listing.proofs.listing.sent_line.Goals as goal

pub returns : goal.returns
returns g c =
    let sent = c.args.sent.now in
    let said = c.in_ok-said.said.items in
    let behind : c.as_bytes.result.now ≡ codes ":" ++ decimal sent.address.port ++ codes " " = search rules in
    IfOk-weaker c.joined.result _ _ (λ text is. record {
      said = said;
      is_said = c.in_ok-said.ensures;
      text_is = line_of_four sent.address.host (codes ":" ++ decimal sent.address.port ++ codes " ") sent.tag said _ _ _ _ text.items c.host-host.ensures behind c.tag.ensures c.deref.ensures.value is;
    }) c.joined.ensures
