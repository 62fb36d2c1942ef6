use Rattle.std.proofs.Common.{sym, subst}
use Rattle.custody_store.specs.Buffers.{Holds}
use Rattle.custody_store.specs.Contents.{Contents, buffer_of}
use Rattle.custody_store.proofs.Members.{if_some}
use Rattle.custody_store.proofs.places.Places.tag_at.Goals as goal

pub returns : goal.returns
returns g c = if_some c.tag_at.result _ _
    (λ tag h. (c.args.spot.place, c.args.spot.buffer, subst (λ (x : Contents). Holds (buffer_of x) (record { tag = tag.now; entry = c.args.entry.now })) (sym c.in_ok-found.ensures.some.1) h))
    c.tag_at.ensures
