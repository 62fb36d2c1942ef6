use Rattle.std.proofs.Common.{◌≡◌, ap, subst, sym, ◌∙◌}
use Rattle.std.specs.List.Sorted.{IsStrictlySortedBy}
use Rattle.std.specs.Map.{keys_of}
use Rattle.std.specs.Ordering.{nat_cmp}
use Rattle.buffer_state.specs.Slots.{chunks_in}
use Rattle.folder_counts.proofs.Live.{chunk_more, known_read, live_start, LiveOn}
use Rattle.folder_counts.proofs.journal.oldest_live.Goals as goal

pub loop-serial-init : goal.loop-serial-init
loop-serial-init g c =
    let outlined = c.args.outlined.now in
    let live = c.live-live.ensures in
    let slots = c.into_iter-serial-iterator.result in
    let gives : slots ≡ c.live-live.result.now.entries = c.into_iter-serial-iterator.ensures.into_iter_gives.0 in
    live_start outlined.places (g.R.ReadAt.bytes_of c.args.file.now) slots outlined.chunks (ap chunks_in gives ∙ live.chunks)
    (subst (λ z. IsStrictlySortedBy nat_cmp (keys_of z)) (sym gives) live.rising)

pub loop-serial-preserved : goal.loop-serial-preserved
loop-serial-preserved g c =
    let places = c.args.outlined.now.places in
    let known = g.R.ReadAt.bytes_of c.args.file.now in
    let oldest = c.loop-serial.oldest in
    let nanos = c.in-Known.nanos in
    let here = known_read known places c.in-Some.serial.now c.at-places.result.now c.in_ok-nanos.field-0 nanos c.at-places.ensures c.in-Known.is c.in_ok-nanos.ensures in
    subst (λ o. LiveOn places known o c.next.new.self c.args.outlined.now.chunks) (sym c.earlier-oldest.ensures)
    (chunk_more c.prefix_free.ensures.one_front places c.in-Some.serial.now c.in-Some.chunk.now c.args.outlined.now.chunks c.stays_stored.ensures known c.loop-serial.serial-iterator c.next.new.self oldest nanos
    c.in-Some.ensures.steps c.loop-serial.invariant here)
