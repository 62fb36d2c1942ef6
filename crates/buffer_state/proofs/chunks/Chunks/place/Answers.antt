use Rattle.std.proofs.Common.{◌≡◌, ◌+◌, true, false, Some, None, refl, sym, ap, subst, ◌∙◌, arith, inl}
use Rattle.std.specs.Prelude.{nat_le}
use Rattle.std.specs.List.{last_or}
use Rattle.buffer_state.specs.State.{State, size_at, newest_staged, IsStagedOf}
use Rattle.std.proofs.lemmas.Bool.{le-leb, lt-leb}
use Rattle.buffer_state.proofs.Steps.{staged_chunks, placed, staged_there}
use Rattle.buffer_state.proofs.Steps.{newest_there, below_at}
use Rattle.buffer_state.proofs.chunks.Chunks.place.Goals as goal

pub returns-in_default-clause-place : goal.returns-in_default-clause-place
returns-in_default-clause-place g c =
    let new = ap (λ (state : State). newest_staged state c.args.tag.now) (sym c.self.view_is) ∙ ap (last_or None) (sym (staged_chunks c.self.inside.table c.args.tag.now c.self.inside.queue.items c.self.inside.next)) ∙ sym c.newest.ensures ∙ c.in_default.is in
    let p = placed c.args.limit c.args.size c.args.tag.now c.args.self.now None new in
    let next : c.self.inside.next ≡ c.args.self.now.next = ap (λ (state : State). state.next) c.self.view_is in
    next ∙ sym p

pub returns-then-size_at-size-clause-place : goal.returns-then-size_at-size-clause-place
returns-then-size_at-size-clause-place g c =
    let new = ap (λ (state : State). newest_staged state c.args.tag.now) (sym c.self.view_is) ∙ ap (last_or None) (sym (staged_chunks c.self.inside.table c.args.tag.now c.self.inside.queue.items c.self.inside.next)) ∙ sym c.newest.ensures ∙ c.in-Some.is in
    let p = placed c.args.limit c.args.size c.args.tag.now c.args.self.now (Some c.in-Some.serial) new in
    let next : c.self.inside.next ≡ c.args.self.now.next = ap (λ (state : State). state.next) c.self.view_is in
    let le = c.if-size_at-size.true in
    let held = c.size_at.ensures.size in
    let fits : nat_le (size_at c.args.self.now c.in-Some.serial + c.args.size) c.args.limit ≡ true = le-leb _ _ (omega (arith, le, held)) in
    sym (p ∙ rw fits refl)

pub returns-else-size_at-size-clause-place : goal.returns-else-size_at-size-clause-place
returns-else-size_at-size-clause-place g c =
    let new = ap (λ (state : State). newest_staged state c.args.tag.now) (sym c.self.view_is) ∙ ap (last_or None) (sym (staged_chunks c.self.inside.table c.args.tag.now c.self.inside.queue.items c.self.inside.next)) ∙ sym c.newest.ensures ∙ c.in-Some.is in
    let p = placed c.args.limit c.args.size c.args.tag.now c.args.self.now (Some c.in-Some.serial) new in
    let next : c.self.inside.next ≡ c.args.self.now.next = ap (λ (state : State). state.next) c.self.view_is in
    let lt = c.if-size_at-size.false in
    let held = c.size_at.ensures.size in
    let fails : nat_le (size_at c.args.self.now c.in-Some.serial + c.args.size) c.args.limit ≡ false = lt-leb _ _ (omega (arith, lt, held)) in
    next ∙ sym (p ∙ rw fails refl)

pub returns-then-size_at-size-clause-here : goal.returns-then-size_at-size-clause-here
returns-then-size_at-size-clause-here g c =
    let le = c.if-size_at-size.true in
    let held = c.size_at.ensures.size in
    let limit = c.requires.limit in
    inl (
      subst (λ (state : State). IsStagedOf state c.in-Some.serial c.args.tag.now) c.self.view_is
          (staged_there c.self.inside.table c.self.inside.queue.items c.self.inside.next c.in-Some.serial c.args.tag.now c.self.invariant.rising (sym c.newest.ensures ∙ c.in-Some.is)),
      omega (arith, le, held, limit),
    )

pub returns-then-size_at-size-clause-near : goal.returns-then-size_at-size-clause-near
returns-then-size_at-size-clause-near g c =
    let v = newest_there c.self.inside.table c.args.tag.now c.in-Some.serial c.self.invariant.rising (sym c.newest.ensures ∙ c.in-Some.is) in
    let lt = below_at c.self.inside.table c.self.inside.next c.in-Some.serial v.0 c.self.invariant.below v.1 in
    let next : c.self.inside.next ≡ c.args.self.now.next = ap (λ (state : State). state.next) c.self.view_is in
    omega (arith, lt, next)
