use Rattle.std.proofs.Common.{◌≡◌, get_or, subst, sym, ◌∙◌, arith, below_more, refl}
use Rattle.std.proofs.lemmas.Bool.{false≢true, both_ways}
use Rattle.std.proofs.lemmas.List.{get_or_read}
use Rattle.custody_store.specs.Buffers.{Holds}
use Rattle.custody_store.specs.Contents.{Contents, buffer_of}
use Rattle.custody_store.proofs.PlaceLists.{held_there, contents_of-read}
use Rattle.custody_store.proofs.places.holds_any.Goals as goal

pub loop-buffer-preserved : goal.loop-buffer-preserved
loop-buffer-preserved g c =
    let buffers = c.args.buffers.now in
    let i = c.loop-buffer.buffer-index in
    let item = c.buffer-item.result in
    λ k x h. below_more (λ k. (x : Contents) → get_or buffers k x ≡ x → Holds (buffer_of x) (record { tag = c.args.tag.now; entry = c.args.entry.now }) → ⊥) i
    (λ k h x at. c.loop-buffer.invariant k x h at)
    (λ x at has.
    let same : item ≡ x = get_or_read buffers i item c.loop-buffer-test.true c.buffer-item.is x ∙ at in
    both_ways c.holds.result c.if-holds.false
    (c.holds.ensures.1 (subst (λ (y : Contents). Holds (buffer_of y) (record { tag = c.args.tag.now; entry = c.args.entry.now })) (sym same) has)))
    k h x

pub returns-then-holds : goal.returns-then-holds
returns-then-holds g c =
    let i = c.loop-buffer.buffer-index in
    (λ _. (i, rw (contents_of-read c.args.buffers.now i c.buffer-item.result c.loop-buffer-test.true c.buffer-item.is) (c.holds.ensures.0 c.if-holds.true)), λ _. refl)

pub returns : goal.returns
returns g c = (
  λ t. absurd (false≢true t),
  λ m. let w = held_there c.args.buffers.now m.0 _ m.1 in absurd (c.loop-buffer.invariant m.0 w.0 (omega arith) w.2 w.3),
)
