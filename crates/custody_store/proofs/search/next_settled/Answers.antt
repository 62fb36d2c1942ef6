use Rattle.std.proofs.Common.{◌≡◌, inl, inr, arith, subst}
use Rattle.std.proofs.lemmas.Bool.{cases_lt}
use Rattle.std.proofs.lemmas.Option.{slice_get_within}
use Rattle.custody_store.specs.Branches.{buffers_of}
use Rattle.custody_store.specs.Searches.{IsDone}
use Rattle.custody_store.proofs.search.next_settled.Goals as goal

pub loop-number-preserved : goal.loop-number-preserved
loop-number-preserved g c = λ n less.
    elim (cases_lt n c.loop-number.number) [
      | inl before ↦ c.loop-number.invariant n before
      | inr past ↦ (let s = c.args.seen.now in
          let same : c.loop-number.number ≡ n = omega arith in
          let done = rw c.if-branch.false at c.in_ok-is_new.ensures in
          subst (λ k. IsDone s.net.now (buffers_of s.places.now) s.book.now.messages s.entry.now c.args.kept.now k) same done)
    ]

pub returns : goal.returns
returns g c = λ n. elim (cases_lt n c.loop-number.number) [
  | inl before ↦ c.loop-number.invariant n before
  | inr past ↦ λ message at settled. absurd (let less = slice_get_within c.args.seen.now.book.now.messages n message at in let end = c.loop-number-test.false in let count = c.message_count-number-end.ensures in omega (arith, less, count))
]
