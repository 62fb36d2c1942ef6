use Rattle.std.proofs.Common.{◌≡◌, ◌<◌, ℕ, length, get_or, refl, subst, inl, inr, arith}
use Rattle.std.proofs.lemmas.Bool.{cases_lt, false≢true}
use Rattle.relay_conf.specs.declared.output.BufferNo.{BufferNo}
use Rattle.custody_store.specs.Branches.{buffers_of}
use Rattle.custody_store.specs.Searches.{KeepsSoFar}
use Rattle.custody_store.proofs.Lists.{any_default}
use Rattle.custody_store.proofs.branch.Seen.all_keep.Goals as goal

pub returns-then-not-leaf_keeps : goal.returns-then-not-leaf_keeps
returns-then-not-leaf_keeps g c = (λ t. absurd (false≢true t), λ all. c.if-not-leaf_keeps.ensures.1 (all c.loop-leaf.leaf-index _ (omega arith)))

pub loop-leaf-preserved : goal.loop-leaf-preserved
loop-leaf-preserved g c = λ k d less.
    let s = c.args.self.now in
    let leaves = c.args.leaves.now in
    let i = c.loop-leaf.leaf-index in
    let P : BufferNo → Type 0 = λ leaf. KeepsSoFar (buffers_of s.places.now) s.book.now.messages s.entry.now c.args.kept.now c.args.place leaf.0 c.args.tag.now in
    let within : i < length leaves = omega arith in
    elim (cases_lt k i) [
      | inl before ↦ c.loop-leaf.invariant k d before
      | inr past ↦ (let same : i ≡ k = omega arith in
          subst (λ (m : ℕ). P (get_or leaves m d)) same (subst P (any_default leaves i _ d within) (c.if-not-leaf_keeps.ensures.0 refl)))
    ]

pub returns : goal.returns
returns g c = (λ t k d less. c.loop-leaf.invariant k d (omega arith), λ all. refl)
