use Rattle.std.proofs.Common.{◌≡◌, ℕ, get_or, subst, sym, ◌∙◌, arith, below_more, refl}
use Rattle.std.proofs.lemmas.Bool.{false≢true, both_ways}
use Rattle.std.proofs.lemmas.List.{get_or_read}
use Rattle.custody_store.specs.Buffers.{Holds}
use Rattle.custody_store.specs.Contents.{contents_of, buffer_of}
use Rattle.custody_store.specs.declared.places.Place.{Place}
use Rattle.custody_store.proofs.PlaceLists.{held_in, contents_in-read}
use Rattle.custody_store.proofs.places.hold_any.Goals as goal

pub loop-there-preserved : goal.loop-there-preserved
loop-there-preserved g c =
    let list = c.args.list.now in
    let i = c.loop-there.there-index in
    let item = c.there-item.result in
    λ k x h. below_more (λ k. (x : Place g.row.A.Denot) → get_or list k x ≡ x → ((b : ℕ) × Holds (buffer_of (contents_of x.buffers.items b)) (record { tag = c.args.tag.now; entry = c.args.entry.now })) → ⊥) i
    (λ k h x at. c.loop-there.invariant k x h at)
    (λ x at has.
    let same : item ≡ x = get_or_read list i item c.loop-there-test.true c.there-item.is x ∙ at in
    let any = rw c.as_slice.ensures.value at c.holds_any.ensures in
    both_ways c.holds_any.result c.if-holds_any.false
    (any.1 (subst (λ (y : Place g.row.A.Denot). (b : ℕ) × Holds (buffer_of (contents_of y.buffers.items b)) (record { tag = c.args.tag.now; entry = c.args.entry.now })) (sym same) has)))
    k h x

pub returns-then-holds_any : goal.returns-then-holds_any
returns-then-holds_any g c =
    let i = c.loop-there.there-index in
    let any = rw c.as_slice.ensures.value at c.holds_any.ensures in
    let found = any.0 c.if-holds_any.true in
    (λ _. (i, found.0, rw (contents_in-read c.args.list.now i found.0 c.there-item.result c.loop-there-test.true c.there-item.is) found.1), λ _. refl)

pub returns : goal.returns
returns g c = (
  λ t. absurd (false≢true t),
  λ m. let w = held_in c.args.list.now m.0 m.1 _ m.2 in absurd (c.loop-there.invariant m.0 w.0 (omega arith) w.2 (m.1, w.3)),
)
