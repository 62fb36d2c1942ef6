use Rattle.std.proofs.Common.{◌≡◌, ℕ, Option, get_or, subst, sym, ◌∙◌, arith, below_more, IsSomeAnd, refl}
use Rattle.std.proofs.lemmas.Bool.{false≢true, both_ways}
use Rattle.std.proofs.lemmas.List.{get_or_read}
use Rattle.custody_store.specs.Marks.{slot_from}
use Rattle.custody_store.specs.Buffers.{IsInChunk}
use Rattle.custody_store.specs.declared.chunk.Chunk.{Chunk}
use Rattle.custody_store.proofs.Slots.{slot_shown, slot_there}
use Rattle.custody_store.proofs.chunk.have_entry.Goals as goal

pub loop-slot-preserved : goal.loop-slot-preserved
loop-slot-preserved g c =
    let chunks = c.args.chunks.now in
    let i = c.loop-slot.slot-index in
    let item = c.slot-item.result in
    λ k x h. below_more (λ k. (x : Option (Chunk g.row.A.Denot)) → get_or chunks k x ≡ x → (now : ℕ) → IsSomeAnd (slot_from now x) (λ chunk. IsInChunk chunk (record { tag = c.args.tag.now; entry = c.args.entry.now })) → ⊥) i
    (λ k h x at. c.loop-slot.invariant k x h at)
    (λ x at now has.
    let same : item ≡ x = get_or_read chunks i item c.loop-slot-test.true c.slot-item.is x ∙ at in
    both_ways c.has_entry.result c.if-has_entry.false
    ((c.has_entry.ensures now).1 (subst (λ (slot : Option (Chunk g.row.A.Denot)). IsSomeAnd (slot_from now slot) (λ chunk. IsInChunk chunk (record { tag = c.args.tag.now; entry = c.args.entry.now }))) (sym same) has)))
    k h x

pub returns : goal.returns
returns g c = λ now. (
  λ t. absurd (false≢true t),
  λ m. let w = slot_shown now c.args.chunks.now m.0 _ m.1 in absurd (c.loop-slot.invariant m.0 w.0 (omega arith) w.2 now w.3),
)

pub returns-then-has_entry : goal.returns-then-has_entry
returns-then-has_entry g c = λ now. (
  λ t. (
    c.loop-slot.slot-index,
    slot_there now c.args.chunks.now c.loop-slot.slot-index c.slot-item.result (λ chunk. IsInChunk chunk (record { tag = c.args.tag.now; entry = c.args.entry.now })) c.loop-slot-test.true c.slot-item.is ((c.if-has_entry.ensures now).0 refl),
  ),
  λ m. refl,
)
