use Rattle.std.proofs.Common.{◌≡◌, ℕ, ◌≤◌, refl, ap, sym, subst, ◌∙◌}
use Rattle.std.specs.List.{All}
use Rattle.std.specs.Map.{values_of}
use Rattle.buffer_state.specs.Steps.{greatest_size}
use Rattle.buffer_state.specs.Slots.{Slots, slot_size, chunks_in}
use Rattle.chunk_journal.specs.Records.{Seal, record_bytes, IsRecord}
use Rattle.journal_files.proofs.Spelled.{starts, goes, small_here, tag_here, told_bytes, told_len, told_records, told_places, can_be_told}
use Rattle.journal_files.proofs.Wanting.{err_no_ok, err_no_value}
use Rattle.journal_files.proofs.spelling.tell_chunks.Goals as goal

pub loop-serial-init : goal.loop-serial-init
loop-serial-init g c =
    let s = c.args.chunks.now in
    let live = c.live-live.ensures in
    let told = can_be_told c.live-live.result.now.entries s.chunks s.next live.chunks live.rising live.below live.small in
    let next = subst (λ (n : ℕ). IsRecord (Seal n)) c.next.ensures c.in_ok-seal.ensures.record in
    let gives : c.into_iter-serial-iterator.result ≡ c.live-live.result.now.entries = c.into_iter-serial-iterator.ensures.into_iter_gives.0 in
    starts c.in_ok-pieces.pieces.items 0 c.args.from.now c.new-places.result c.into_iter-serial-iterator.result s c.in_ok-pieces.ensures.items refl c.new-places.ensures
    (ap chunks_in gives ∙ live.chunks) told next.fields c.requires (subst (λ (z : Slots). All (λ slot. slot_size slot ≤ greatest_size) (values_of z)) (sym gives) live.small)

pub tell_chunk-requires-clause-small : goal.tell_chunk-requires-clause-small
tell_chunk-requires-clause-small g c =
    small_here c.loop-serial.pieces.items c.loop-serial.len c.args.from.now c.loop-serial.places c.in-Some.serial.now c.in-Some.chunk.now c.next-in-loop-serial.new.self c.loop-serial.serial-iterator c.args.chunks.now
    c.loop-serial.invariant c.in-Some.ensures.steps

pub loop-serial-preserved : goal.loop-serial-preserved
loop-serial-preserved g c =
    let did = c.in_ok-len.ensures in
    goes c.places_follow.ensures c.leads_in_order.ensures.before c.loop-serial.pieces.items c.tell_chunk.new.pieces.items c.loop-serial.len c.in_ok-len.len c.args.from.now c.loop-serial.places c.tell_chunk.new.places
    c.in-Some.serial.now c.in-Some.chunk.now c.args.chunks.now c.next-in-loop-serial.new.self c.loop-serial.serial-iterator c.loop-serial.invariant c.in-Some.ensures.steps
    (record { bytes = did.bytes; within = did.within; len_is = did.len; places = did.places; records = did.records })

pub returns-in_err-seal-clause-told : goal.returns-in_err-seal-clause-told
returns-in_err-seal-clause-told g c =
    let live = c.live-live.ensures in
    can_be_told c.live-live.result.now.entries c.args.chunks.now.chunks c.args.chunks.now.next live.chunks live.rising live.below live.small

pub returns-in_err-pieces-clause-told : goal.returns-in_err-pieces-clause-told
returns-in_err-pieces-clause-told g c =
    let live = c.live-live.ensures in
    can_be_told c.live-live.result.now.entries c.args.chunks.now.chunks c.args.chunks.now.next live.chunks live.rising live.below live.small

pub returns-in_err-len-clause-told : goal.returns-in_err-len-clause-told
returns-in_err-len-clause-told g c =
    let live = c.live-live.ensures in
    can_be_told c.live-live.result.now.entries c.args.chunks.now.chunks c.args.chunks.now.next live.chunks live.rising live.below live.small

pub returns-clause-told : goal.returns-clause-told
returns-clause-told g c =
    let live = c.live-live.ensures in
    can_be_told c.live-live.result.now.entries c.args.chunks.now.chunks c.args.chunks.now.next live.chunks live.rising live.below live.small

pub returns-clause-places : goal.returns-clause-places
returns-clause-places g c =
    told_places c.loop-serial.pieces.items c.loop-serial.len c.args.from.now c.loop-serial.places c.loop-serial.serial-iterator c.args.chunks.now c.loop-serial.invariant c.in-None.ensures.steps.0
    c.places_follow.ensures c.leads_in_order.ensures.before

pub returns-in_err-seal-clause-bytes : goal.returns-in_err-seal-clause-bytes
returns-in_err-seal-clause-bytes g c = err_no_value c.in_err-seal.field-0.0 c.from_residual.result _ c.from_residual.ensures.1

pub returns-in_err-seal-clause-within : goal.returns-in_err-seal-clause-within
returns-in_err-seal-clause-within g c = err_no_value c.in_err-seal.field-0.0 c.from_residual.result _ c.from_residual.ensures.1

pub returns-in_err-seal-clause-len : goal.returns-in_err-seal-clause-len
returns-in_err-seal-clause-len g c = err_no_value c.in_err-seal.field-0.0 c.from_residual.result _ c.from_residual.ensures.1

pub returns-in_err-seal-clause-places : goal.returns-in_err-seal-clause-places
returns-in_err-seal-clause-places g c = err_no_value c.in_err-seal.field-0.0 c.from_residual.result _ c.from_residual.ensures.1

pub returns-in_err-seal-clause-seal : goal.returns-in_err-seal-clause-seal
returns-in_err-seal-clause-seal g c = err_no_value c.in_err-seal.field-0.0 c.from_residual.result _ c.from_residual.ensures.1

pub returns-in_err-seal-clause-records : goal.returns-in_err-seal-clause-records
returns-in_err-seal-clause-records g c = err_no_ok c.in_err-seal.field-0.0 c.from_residual.result _ c.from_residual.ensures.1

pub returns-in_err-seal-clause-next : goal.returns-in_err-seal-clause-next
returns-in_err-seal-clause-next g c = subst (λ (n : ℕ). IsRecord (Seal n)) c.next.ensures c.in_err-seal.ensures.record

pub returns-in_err-pieces-clause-bytes : goal.returns-in_err-pieces-clause-bytes
returns-in_err-pieces-clause-bytes g c = err_no_value c.in_err-pieces.field-0.0 c.from_residual-in_err-pieces.result _ c.from_residual-in_err-pieces.ensures.1

pub returns-in_err-pieces-clause-within : goal.returns-in_err-pieces-clause-within
returns-in_err-pieces-clause-within g c = err_no_value c.in_err-pieces.field-0.0 c.from_residual-in_err-pieces.result _ c.from_residual-in_err-pieces.ensures.1

pub returns-in_err-pieces-clause-len : goal.returns-in_err-pieces-clause-len
returns-in_err-pieces-clause-len g c = err_no_value c.in_err-pieces.field-0.0 c.from_residual-in_err-pieces.result _ c.from_residual-in_err-pieces.ensures.1

pub returns-in_err-pieces-clause-places : goal.returns-in_err-pieces-clause-places
returns-in_err-pieces-clause-places g c = err_no_value c.in_err-pieces.field-0.0 c.from_residual-in_err-pieces.result _ c.from_residual-in_err-pieces.ensures.1

pub returns-in_err-pieces-clause-seal : goal.returns-in_err-pieces-clause-seal
returns-in_err-pieces-clause-seal g c = err_no_value c.in_err-pieces.field-0.0 c.from_residual-in_err-pieces.result _ c.from_residual-in_err-pieces.ensures.1

pub returns-in_err-pieces-clause-records : goal.returns-in_err-pieces-clause-records
returns-in_err-pieces-clause-records g c = err_no_ok c.in_err-pieces.field-0.0 c.from_residual-in_err-pieces.result _ c.from_residual-in_err-pieces.ensures.1

pub returns-in_err-pieces-clause-next : goal.returns-in_err-pieces-clause-next
returns-in_err-pieces-clause-next g c = subst (λ (n : ℕ). IsRecord (Seal n)) c.next.ensures c.in_ok-seal.ensures.record

pub returns-in_err-len-clause-bytes : goal.returns-in_err-len-clause-bytes
returns-in_err-len-clause-bytes g c = err_no_value c.in_err-len.field-0.0 c.from_residual-in_err-len.result _ c.from_residual-in_err-len.ensures.1

pub returns-in_err-len-clause-within : goal.returns-in_err-len-clause-within
returns-in_err-len-clause-within g c = err_no_value c.in_err-len.field-0.0 c.from_residual-in_err-len.result _ c.from_residual-in_err-len.ensures.1

pub returns-in_err-len-clause-len : goal.returns-in_err-len-clause-len
returns-in_err-len-clause-len g c = err_no_value c.in_err-len.field-0.0 c.from_residual-in_err-len.result _ c.from_residual-in_err-len.ensures.1

pub returns-in_err-len-clause-places : goal.returns-in_err-len-clause-places
returns-in_err-len-clause-places g c = err_no_value c.in_err-len.field-0.0 c.from_residual-in_err-len.result _ c.from_residual-in_err-len.ensures.1

pub returns-in_err-len-clause-seal : goal.returns-in_err-len-clause-seal
returns-in_err-len-clause-seal g c = err_no_value c.in_err-len.field-0.0 c.from_residual-in_err-len.result _ c.from_residual-in_err-len.ensures.1

pub returns-in_err-len-clause-records : goal.returns-in_err-len-clause-records
returns-in_err-len-clause-records g c = err_no_ok c.in_err-len.field-0.0 c.from_residual-in_err-len.result _ c.from_residual-in_err-len.ensures.1

pub returns-in_err-len-clause-next : goal.returns-in_err-len-clause-next
returns-in_err-len-clause-next g c = subst (λ (n : ℕ). IsRecord (Seal n)) c.next.ensures c.in_ok-seal.ensures.record

pub returns-clause-next : goal.returns-clause-next
returns-clause-next g c = subst (λ (n : ℕ). IsRecord (Seal n)) c.next.ensures c.in_ok-seal.ensures.record

pub returns-clause-seal : goal.returns-clause-seal
returns-clause-seal g c = c.in_ok-seal.ensures.bytes ∙ ap (λ (n : ℕ). record_bytes (Seal n)) c.next.ensures

pub returns-clause-bytes : goal.returns-clause-bytes
returns-clause-bytes g c = told_bytes c.loop-serial.pieces.items c.loop-serial.len c.args.from.now c.loop-serial.places c.loop-serial.serial-iterator c.args.chunks.now c.loop-serial.invariant c.in-None.ensures.steps.0

pub returns-clause-len : goal.returns-clause-len
returns-clause-len g c = told_len c.loop-serial.pieces.items c.loop-serial.len c.args.from.now c.loop-serial.places c.loop-serial.serial-iterator c.args.chunks.now c.loop-serial.invariant c.in-None.ensures.steps.0

pub returns-clause-records : goal.returns-clause-records
returns-clause-records g c = told_records c.loop-serial.pieces.items c.loop-serial.len c.args.from.now c.loop-serial.places c.loop-serial.serial-iterator c.args.chunks.now c.loop-serial.invariant c.in-None.ensures.steps.0

pub returns-clause-within : goal.returns-clause-within
returns-clause-within g c = c.loop-serial.invariant.within

pub tell_chunk-requires-clause-tag : goal.tell_chunk-requires-clause-tag
tell_chunk-requires-clause-tag g c =
    tag_here c.loop-serial.pieces.items c.loop-serial.len c.args.from.now c.loop-serial.places c.in-Some.serial.now c.in-Some.chunk.now c.next-in-loop-serial.new.self c.loop-serial.serial-iterator c.args.chunks.now
    c.loop-serial.invariant c.in-Some.ensures.steps
