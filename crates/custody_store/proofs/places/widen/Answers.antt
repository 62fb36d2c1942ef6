use Rattle.std.proofs.Common.{◌∙◌}
use Rattle.custody_store.proofs.PlaceLists.{contents_of-push}
use Rattle.custody_store.proofs.places.widen.Goals as goal

pub loop-alloc-preserved : goal.loop-alloc-preserved
loop-alloc-preserved g c = (λ b. rw (c.in_ok-push.ensures.items, c.new-empty.ensures) (contents_of-push c.loop-alloc.place.buffers.items b ∙ c.loop-alloc.invariant.0 b), c.loop-alloc.invariant.1)
