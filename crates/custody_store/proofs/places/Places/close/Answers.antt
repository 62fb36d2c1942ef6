use Rattle.std.proofs.Common.{◌∙◌, ap, cond, refl, ◌==◌}
use Rattle.custody_store.proofs.PlaceLists.{contents_in-set}
use Rattle.custody_store.proofs.Changes.{closed_in-changed}
use Rattle.custody_store.proofs.places.Places.close.Goals as goal

pub returns-clause-ok : goal.returns-clause-ok
returns-clause-ok g c = λ p.
    let made = c.make_place.new.self.list.items in
    closed_in-changed made c.args.place _ p c.in_ok-make_place.ensures.there ∙ ap (cond (p == c.args.place) c.args.number) (c.in_ok-make_place.ensures.same.closed p)

pub returns-clause-contents : goal.returns-clause-contents
returns-clause-contents g c = λ p b.
    let made = c.make_place.new.self.list.items in
    contents_in-set made c.args.place c.index_mut-there.result.now _ p b c.in_ok-make_place.ensures.there c.index_mut-there.ensures.value (λ d. refl) ∙ c.in_ok-make_place.ensures.same.contents p b
