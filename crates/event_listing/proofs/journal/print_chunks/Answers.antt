use Rattle.std.proofs.Common.{◌≡◌, ap, subst, sym, ◌∙◌}
use Rattle.std.specs.List.Sorted.{IsStrictlySortedBy}
use Rattle.std.specs.Map.{keys_of}
use Rattle.std.specs.Ordering.{nat_cmp}
use Rattle.buffer_state.specs.Slots.{chunks_in}
use Rattle.event_listing.proofs.Chunks.{chunk_more, its_chunk, live_end, live_start, stops_there}
use Rattle.event_listing.proofs.journal.print_chunks.Goals as goal

pub loop-serial-init : goal.loop-serial-init
loop-serial-init g c =
    let outlined = c.args.outlined.now in
    let live = c.live-live.ensures in
    let slots = c.into_iter-serial-iterator.result in
    let gives : slots ≡ c.live-live.result.now.entries = c.into_iter-serial-iterator.ensures.into_iter_gives.0 in
    live_start c.args.choice.now outlined.places (g.R.ReadAt.bytes_of c.args.file.now) c.args.out.now slots outlined.chunks (ap chunks_in gives ∙ live.chunks)
    (subst (λ z. IsStrictlySortedBy nat_cmp (keys_of z)) (sym gives) live.rising)

pub loop-serial-preserved : goal.loop-serial-preserved
loop-serial-preserved g c =
    let outlined = c.args.outlined.now in
    let known = g.R.ReadAt.bytes_of c.args.file.now in
    chunk_more c.prefix_free.ensures.one_front c.args.choice.now outlined.places c.args.out.now c.loop-serial.out c.print_chunk.new.out c.in-Some.serial.now c.in-Some.chunk.now outlined.chunks
    c.stays_stored.ensures known c.loop-serial.serial-iterator c.next.new.self c.print_chunk.result c.in_default.field-0 c.in-Some.ensures.steps c.loop-serial.invariant
    (its_chunk c.args.choice.now c.tag.result.now c.in-Some.chunk.now.chunk.tag outlined.places c.in-Some.serial.now c.at-places.result.now known c.loop-serial.out c.print_chunk.new.out c.print_chunk.result
    c.tag.ensures c.at-places.ensures c.print_chunk.ensures)
    c.in_default.is

pub returns-in-Err : goal.returns-in-Err
returns-in-Err g c =
    let outlined = c.args.outlined.now in
    let known = g.R.ReadAt.bytes_of c.args.file.now in
    stops_there c.prefix_free.ensures.one_front c.args.choice.now outlined.places c.args.out.now c.loop-serial.out c.print_chunk.new.out c.in-Some.serial.now c.in-Some.chunk.now outlined.chunks
    c.stays_stored.ensures known c.loop-serial.serial-iterator c.next.new.self c.in-Err.stop c.in-Some.ensures.steps c.loop-serial.invariant
    (its_chunk c.args.choice.now c.tag.result.now c.in-Some.chunk.now.chunk.tag outlined.places c.in-Some.serial.now c.at-places.result.now known c.loop-serial.out c.print_chunk.new.out _
    c.tag.ensures c.at-places.ensures c.in-Err.ensures)

pub returns : goal.returns
returns g c =
    let outlined = c.args.outlined.now in
    live_end c.args.choice.now outlined.places (g.R.ReadAt.bytes_of c.args.file.now) c.args.out.now c.loop-serial.out c.loop-serial.serial-iterator outlined.chunks
    c.in-None.ensures.steps.0 c.loop-serial.invariant
