use Rattle.std.proofs.Common.{ℕ, List, sym, subst}
use Rattle.custody_store.specs.Branches.{buffers_of}
use Rattle.custody_store.specs.Searches.{AreSettled}
use Rattle.custody_store.proofs.Settling.{one_more}
use Rattle.custody_store.proofs.search.settle.Goals as goal

pub loop-next-preserved : goal.loop-next-preserved
loop-next-preserved g c =
    let s = c.args.seen.now in
    let new = rw c.in-Some.is at c.loop-next.invariant.1 in
    let more = one_more s.net.now (buffers_of s.places.now) s.book.now.messages s.entry.now c.loop-next.kept.items c.loop-next.invariant.0 c.in-Some.number new in (
      subst (λ (kept : List ℕ). AreSettled s.net.now (buffers_of s.places.now) s.book.now.messages s.entry.now kept) (sym c.in_ok-push.ensures.items) more,
      rw c.deref-in-Some.ensures.value at c.in_ok-next-2.ensures,
    )
