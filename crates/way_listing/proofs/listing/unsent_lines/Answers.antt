use Rattle.std.proofs.Common.{◌≡◌, ◌++◌, ◌∷◌, [], List, ℕ, map, take, subst, sym, ap, ◌∙◌, rules}
use Rattle.std.specs.Prelude.{string_bytes}
use Rattle.std.proofs.lemmas.List.{map_more}
use Rattle.program_text.specs.Listings.{AreListed}
use Rattle.program_text.proofs.ListingSteps.{listed_push}
use Rattle.way_listing.specs.Lines.{IsUnsentLine}
use Rattle.way_listing.proofs.listing.unsent_lines.Goals as goal

pub loop-tag-preserved : goal.loop-tag-preserved
loop-tag-preserved g c =
    let P = IsUnsentLine c.args.begun.now in
    let tag = c.tag-item.result in
    let before = map string_bytes (take c.loop-tag.tag-index c.args.tags.now) in
    let is : P (string_bytes tag) c.in_ok-line.line.items = subst (λ (t : List ℕ). P t c.in_ok-line.line.items) c.as_bytes.ensures.value c.in_ok-line.ensures in
    let more : c.extend_from_slice.new.self.items ≡ c.loop-tag.lines.items ++ c.in_ok-line.line.items = search rules in
    subst (λ ys. AreListed P ys c.extend_from_slice.new.self.items)
    (sym (map_more string_bytes c.args.tags.now c.loop-tag.tag-index tag c.loop-tag-test.true ∙ ap (λ t. before ++ string_bytes t ∷ []) (sym c.tag-item.is)))
    (listed_push P before (string_bytes tag) c.loop-tag.lines.items c.in_ok-line.line.items c.extend_from_slice.new.self.items c.loop-tag.invariant is more)
