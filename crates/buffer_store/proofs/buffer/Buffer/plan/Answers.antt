use Rattle.std.proofs.Common.{◌≡◌, ◌≤◌, ℕ, None, Result, Ok, Err, refl, sym, ap, subst, ◌∙◌}
use Rattle.std.proofs.lemmas.Bool.{true≢false}
use Rattle.std.specs.Result.{IsErrAnd}
use Rattle.std.proofs.lemmas.Result.{err_from_is_err_and}
use Rattle.buffer_state.specs.State.{chunk_at}
use Rattle.buffer_state.specs.Steps.{CanAppend, planned}
use Rattle.buffer_state.specs.declared.limits.AppendFault.{AppendFault}
use Rattle.buffer_store.specs.Buffers.{Held}
use Rattle.buffer_store.specs.declared.fault.BufferFault.{BufferFault}
use Rattle.buffer_store.specs.Refusals.{of_plan}
use Rattle.buffer_store.proofs.Plans.{never_failed, never_fault}
use Rattle.buffer_store.proofs.buffer.Buffer.plan.Goals as goal

-- the plan's refusal is the answer
told : (f : AppendFault) (r : Result ℕ BufferFault) → IsErrAnd r (λ e. e ≡ of_plan f) → r ≡ Err (of_plan f)
told f r is = let p = err_from_is_err_and r is in p.1 ∙ ap Err p.2

pub returns-in_err-place-clause-failed : goal.returns-in_err-place-clause-failed
returns-in_err-place-clause-failed g c =
    let is : c.from_residual.result ≡ Err (of_plan c.in_err-place.field-0.0) = told c.in_err-place.field-0.0 c.from_residual.result c.from_residual.ensures.1 in (
      λ q. absurd (never_failed c.in_err-place.field-0.0 c.from_residual.result is q),
      λ t. absurd (true≢false (sym t ∙ (sym (ap (λ (b : Held g.row.D.Denot). b.failed) c.self.view_is) ∙ (sym c.has_failed.ensures ∙ c.if-has_failed.false)))),
    )

pub returns-in_err-place-clause-refused : goal.returns-in_err-place-clause-refused
returns-in_err-place-clause-refused g c = λ going f plan.
    let is : c.from_residual.result ≡ Err (of_plan c.in_err-place.field-0.0) = told c.in_err-place.field-0.0 c.from_residual.result c.from_residual.ensures.1 in
    let now : planned c.self.inside.settings.limits c.self.inside.chunks c.args.tag.now c.args.entries.now ≡ Err f = subst (λ (b : Held g.row.D.Denot). planned b.limits b.chunks c.args.tag.now c.args.entries.now ≡ Err f) (sym c.self.view_is) plan in
    let same : c.in_err-place.field-0.0 ≡ f = cc (c.plan.ensures.place, c.in_err-place.was, now) in
    is ∙ ap (λ (x : AppendFault). Err (of_plan x)) same

pub returns-clause-can : goal.returns-clause-can
returns-clause-can g c = subst (λ (b : Held g.row.D.Denot). CanAppend b.chunks c.in_ok-place.place c.args.tag.now c.args.entries.now) c.self.view_is c.in_ok-place.ensures.can

pub returns-in_err-place-clause-only : goal.returns-in_err-place-clause-only
returns-in_err-place-clause-only g c =
    let is : c.from_residual.result ≡ Err (of_plan c.in_err-place.field-0.0) = told c.in_err-place.field-0.0 c.from_residual.result c.from_residual.ensures.1 in
    never_fault c.in_err-place.field-0.0 c.from_residual.result is

pub returns-clause-place : goal.returns-clause-place
returns-clause-place g c =
    let now : planned c.self.inside.settings.limits c.self.inside.chunks c.args.tag.now c.args.entries.now ≡ Ok c.in_ok-place.place = sym c.plan.ensures.place ∙ c.in_ok-place.was in
    subst (λ (b : Held g.row.D.Denot). planned b.limits b.chunks c.args.tag.now c.args.entries.now ≡ Ok c.in_ok-place.place) c.self.view_is now

pub returns-clause-near : goal.returns-clause-near
returns-clause-near g c = subst (λ (b : Held g.row.D.Denot). c.in_ok-place.place ≤ b.chunks.next) c.self.view_is c.in_ok-place.ensures.near

pub returns-clause-free : goal.returns-clause-free
returns-clause-free g c = subst (λ (b : Held g.row.D.Denot). chunk_at b.chunks b.chunks.next ≡ None) c.self.view_is c.in_ok-place.ensures.free

pub returns-clause-refused : goal.returns-clause-refused
returns-clause-refused g c = λ going f plan.
    let now : planned c.self.inside.settings.limits c.self.inside.chunks c.args.tag.now c.args.entries.now ≡ Ok c.in_ok-place.place = sym c.plan.ensures.place ∙ c.in_ok-place.was in
    let other : planned c.self.inside.settings.limits c.self.inside.chunks c.args.tag.now c.args.entries.now ≡ Err f = subst (λ (b : Held g.row.D.Denot). planned b.limits b.chunks c.args.tag.now c.args.entries.now ≡ Err f) (sym c.self.view_is) plan in
    absurd (cc (now, other))

pub returns-clause-accepted : goal.returns-clause-accepted
returns-clause-accepted g c = λ going serial plan.
    let other : planned c.self.inside.settings.limits c.self.inside.chunks c.args.tag.now c.args.entries.now ≡ Ok serial = subst (λ (b : Held g.row.D.Denot). planned b.limits b.chunks c.args.tag.now c.args.entries.now ≡ Ok serial) (sym c.self.view_is) plan in
    let same : c.plan.result ≡ Ok serial = c.plan.ensures.place ∙ other in
    cc (same, c.in_ok-place.was)

pub returns-in_err-place-clause-accepted : goal.returns-in_err-place-clause-accepted
returns-in_err-place-clause-accepted g c = λ going serial plan.
    let now : planned c.self.inside.settings.limits c.self.inside.chunks c.args.tag.now c.args.entries.now ≡ Ok serial = subst (λ (b : Held g.row.D.Denot). planned b.limits b.chunks c.args.tag.now c.args.entries.now ≡ Ok serial) (sym c.self.view_is) plan in
    absurd (cc (c.plan.ensures.place, c.in_err-place.was, now))

pub returns-clause-going : goal.returns-clause-going
returns-clause-going g c = sym (ap (λ (b : Held g.row.D.Denot). b.failed) c.self.view_is) ∙ (sym c.has_failed.ensures ∙ c.if-has_failed.false)

pub returns-clause-failed : goal.returns-clause-failed
returns-clause-failed g c =
    let going = sym (ap (λ (b : Held g.row.D.Denot). b.failed) c.self.view_is) ∙ (sym c.has_failed.ensures ∙ c.if-has_failed.false) in
    ((λ e. absurd (cc e)), (λ t. absurd (true≢false (sym t ∙ going))))

pub returns-then-has_failed-clause-failed : goal.returns-then-has_failed-clause-failed
returns-then-has_failed-clause-failed g c = ((λ _. sym (ap (λ (b : Held g.row.D.Denot). b.failed) c.self.view_is) ∙ (sym c.has_failed.ensures ∙ c.if-has_failed.true)), (λ _. refl))

pub returns-then-has_failed-clause-refused : goal.returns-then-has_failed-clause-refused
returns-then-has_failed-clause-refused g c = λ going f plan. absurd (true≢false (sym (sym (ap (λ (b : Held g.row.D.Denot). b.failed) c.self.view_is) ∙ (sym c.has_failed.ensures ∙ c.if-has_failed.true)) ∙ going))

pub returns-then-has_failed-clause-accepted : goal.returns-then-has_failed-clause-accepted
returns-then-has_failed-clause-accepted g c = λ going serial plan. absurd (true≢false (sym (sym (ap (λ (b : Held g.row.D.Denot). b.failed) c.self.view_is) ∙ (sym c.has_failed.ensures ∙ c.if-has_failed.true)) ∙ going))
