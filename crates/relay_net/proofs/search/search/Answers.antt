use Rattle.std.proofs.Common.{◌≡◌, ◌<◌, ◌≤◌, length, length-append, slice_get, Some, refl, subst, arith, Contains}
use Rattle.std.proofs.lemmas.Option.{slice_get_read}
use Rattle.relay_net.specs.Addresses.{Address}
use Rattle.relay_net.proofs.Growing.{still}
use Rattle.relay_net.proofs.Reaching.{IsSearched, searched_none, searched_more, searched_all, contains_get}
use Rattle.relay_net.proofs.search.search.Goals as goal

pub loop-next-init : goal.loop-next-init
loop-next-init g c =
    (omega arith, omega arith, searched_none c.args.net.now (record { host = c.args.host.now; port = c.args.port }) c.args.tag.now c.args.wanted.now c.comes_in.result c.comes_in.ensures c.add.new.found.items (rw c.new-found.ensures.items at c.in_ok-add.ensures))

pub follow-requires-clause-within : goal.follow-requires-clause-within
follow-requires-clause-within g c =
    let to : Address = record { host = c.args.host.now; port = c.args.port } in
    let less : c.loop-next.next < length c.loop-next.found.items = omega arith in
    let at : slice_get c.loop-next.found.items c.loop-next.next ≡ Some c.index-here.result.now = slice_get_read c.loop-next.found.items _ c.loop-next.next c.index-here.result.now refl less c.index-here.ensures in
    (c.loop-next.invariant.2.sound c.index-here.result.now (contains_get c.args.net.now to c.args.tag.now c.args.wanted.now c.loop-next.found.items c.loop-next.next c.index-here.result.now at)).arrives.within

pub loop-next-preserved : goal.loop-next-preserved
loop-next-preserved g c =
    let to : Address = record { host = c.args.host.now; port = c.args.port } in
    let less : c.loop-next.next < length c.loop-next.found.items = omega arith in
    let at : slice_get c.loop-next.found.items c.loop-next.next ≡ Some c.index-here.result.now = slice_get_read c.loop-next.found.items _ c.loop-next.next c.index-here.result.now refl less c.index-here.ensures in
    let more = c.in_ok-follow.ensures.new_is in
    let longer = length-append c.loop-next.found.items c.in_ok-follow.ensures.more in
    let long : length c.loop-next.found.items ≤ length c.follow.new.found.items = rw (more, longer) (omega arith) in
    (omega arith, c.loop-next.invariant.1, searched_more c.args.net.now to c.args.tag.now c.args.wanted.now c.loop-next.found.items c.follow.new.found.items c.loop-next.next c.index-here.result.now less at c.in_ok-follow.ensures c.loop-next.invariant.2)

pub returns : goal.returns
returns g c =
    let to : Address = record { host = c.args.host.now; port = c.args.port } in
    let all : c.loop-next.next ≡ length c.loop-next.found.items = omega arith in
    let searched = subst (λ n. IsSearched c.args.net.now to c.args.tag.now c.args.wanted.now c.loop-next.found.items n) all c.loop-next.invariant.2 in
    let s = searched_all c.args.net.now to c.args.tag.now c.args.wanted.now c.loop-next.found.items searched c.loop-next.invariant.1 in
    let h = rw c.deref.ensures.value at c.has_whole.ensures in (
      λ yes. (let any = h.0 yes in s.0 (any.1, (any.0, any.2, any.3), any.4)),
      λ is. (let one = s.1 is in h.1 (one.1.0, one.0, one.1.1, one.1.2, one.2)),
    )
