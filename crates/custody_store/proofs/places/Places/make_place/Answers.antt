use Rattle.std.proofs.Common.{refl, ◌∙◌}
use Rattle.custody_store.proofs.PlaceLists.{contents_in-push, closed_in-push}
use Rattle.custody_store.proofs.places.Places.make_place.Goals as goal

pub loop-alloc-preserved : goal.loop-alloc-preserved
loop-alloc-preserved g c =
    let list = c.loop-alloc.self.list.items in
    record {
      contents = λ p b. rw c.in_ok-push.ensures.items (contents_in-push list _ p b c.new.ensures.items ∙ c.loop-alloc.invariant.contents p b);
      closed = λ p. rw c.in_ok-push.ensures.items (closed_in-push list _ p refl ∙ c.loop-alloc.invariant.closed p);
    }
