use Rattle.std.proofs.Common.{◌≡◌, ◌≤◌, ◌<◌, IsTrue, length, arith, rules}
use Rattle.std.proofs.lemmas.Result.{on_ok_weaker}
use Rattle.route_graph.specs.Ways.{HaveTag}
use Rattle.tag_pattern.specs.Parts.{most_tag_bytes}
use Rattle.way_listing.proofs.Adding.{adds_as, adds_never}
use Rattle.way_listing.proofs.starts.of_tag.Goals as goal

pub returns-then-have_tag : goal.returns-then-have_tag
returns-then-have_tag g c =
    let tag = c.args.tag.now in
    let short : length tag ≤ most_tag_bytes = search rules in
    let has : HaveTag c.args.client.now.patterns.items tag = search rules in
    on_ok_weaker c.add.result (adds_as _ _ _ _ (λ x e. record { short = short; has = has; is = e }) (λ x s. s.is)) c.add.ensures

pub returns-in-Err-TagTooLong : goal.returns-in-Err-TagTooLong
returns-in-Err-TagTooLong g c =
    let long : most_tag_bytes < length c.args.tag.now = search rules in
    adds_never _ c.args.found.now.items (λ x s. absurd (let short = s.short in omega arith))

pub returns : goal.returns
returns g c =
    let none : HaveTag c.args.client.now.patterns.items c.args.tag.now → ⊥ = search rules in
    adds_never _ c.args.found.now.items (λ x s. none s.has)
