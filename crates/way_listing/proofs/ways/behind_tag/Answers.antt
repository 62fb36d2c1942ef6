use Rattle.std.proofs.Common.{◌≡◌, ◌≤◌, List, ℕ, length, inr, subst, rules}
use Rattle.std.proofs.lemmas.Result.{IfOk-weaker}
use Rattle.route_graph.specs.Listing.{IsWay}
use Rattle.route_graph.specs.Table.{Table, table_of}
use Rattle.tag_pattern.specs.Prefixes.{entered_tag}
use Rattle.way_listing.proofs.ways.behind_tag.Goals as goal
use Rattle.tag_pattern.specs.Parts.{most_tag_bytes}

pub returns : goal.returns
returns g c =
    let tag = entered_tag c.args.source.now.prefix c.args.tag.now in
    let is : c.in-Some.tag ≡ tag = search rules in
    let short : length tag ≤ most_tag_bytes = search rules in
    let is_way =
    subst (λ (t : List ℕ). IsWay (table_of c.args.relay.now) t c.args.source.now.label.0 c.in_ok-way.way) is
    (subst (λ (t : Table). IsWay t c.in-Some.tag c.args.source.now.label.0 c.in_ok-way.way) c.requires c.in_ok-way.ensures.way) in
    IfOk-weaker c.way_text.result _ _ (λ text are. inr (record { short = short; way = c.in_ok-way.way; is_way = is_way; text_is = are })) c.way_text.ensures
