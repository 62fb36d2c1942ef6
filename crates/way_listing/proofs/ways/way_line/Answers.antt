use Rattle.std.proofs.Common.{rules, refl, ◌≡◌, ◌++◌, codes, decimal}
use Rattle.std.proofs.lemmas.Result.{IfOk-weaker}
use Rattle.way_listing.proofs.Joining.{line_of_three}
use Rattle.way_listing.proofs.ways.way_line.Goals as goal

pub returns : goal.returns
returns g c =
    let port = decimal c.args.source.now.port in
    let tag = c.args.tag.now in
    let behind = c.in_ok-behind.behind.items in
    let front : c.as_bytes.result.now ≡ port ++ codes " " = search rules in
    IfOk-weaker c.joined.result _ _ (λ text is. record {
      behind = behind;
      is_behind = c.in_ok-behind.ensures;
      text_is = line_of_three (port ++ codes " ") tag behind _ _ _ text.items front refl c.deref.ensures.value is;
    }) c.joined.ensures
