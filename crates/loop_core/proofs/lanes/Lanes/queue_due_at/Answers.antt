use Rattle.std.proofs.Common.{ℕ, ◌∙◌, ap, arith, refl, subst, sym}
use Rattle.std.specs.Prelude.{OnOk}
use Rattle.loop_core.specs.Lanes.{LaneState, LanesState, fault_after}
use Rattle.loop_core.specs.Schedules.{IsNoneDue}
use Rattle.loop_core.proofs.KeepingLanes.{kept_at, one_kept}
use Rattle.loop_core.proofs.Noting.{none_at, one_else}
use Rattle.loop_core.proofs.lanes.Lanes.queue_due_at.Goals as goal

pub returns-clause-kept : goal.returns-clause-kept
returns-clause-kept g c =
    one_kept c.self.inside.lanes.items c.args.at c.in-Some.lane.now c.queue_due-answer.new.self _ _ c.self.inside.fault c.queue_due-answer.result c.args.self.now c.heed.new.self
    c.in-Some.ensures.value c.queue_due-answer.ensures.kept c.self.view_is c.heed.ensures.rest

pub returns-clause-rest : goal.returns-clause-rest
returns-clause-rest g c =
    let lanes = c.self.inside.lanes.items in
    let old = c.in-Some.lane.now in
    let new = c.queue_due-answer.new.self in
    let at = c.in-Some.ensures.value in
    let is = c.queue_due-answer.ensures.rest in
    let heard = c.heed.ensures.rest in
    let was = c.self.view_is in
    λ i.
    record {
      terms = (ap (λ (s : LanesState _). s.terms) heard ∙ kept_at (λ (l : LaneState _). l.terms) lanes c.args.at old new at (ap (λ (l : LaneState _). l.terms) is) ∙ ap (λ (s : LanesState _). s.terms) was) i;
      plans = c.heed.new.self.plans;
      waiting = (ap (λ (s : LanesState _). s.waiting) heard ∙ kept_at (λ (l : LaneState _). l.waiting) lanes c.args.at old new at (ap (λ (l : LaneState _). l.waiting) is) ∙ ap (λ (s : LanesState _). s.waiting) was) i;
      later = (ap (λ (s : LanesState _). s.later) heard ∙ kept_at (λ (l : LaneState _). l.later) lanes c.args.at old new at (ap (λ (l : LaneState _). l.later) is) ∙ ap (λ (s : LanesState _). s.later) was) i;
      room = (ap (λ (s : LanesState _). s.room) heard ∙ ap (λ (s : LanesState _). s.room) was) i;
      time = (ap (λ (s : LanesState _). s.time) heard ∙ ap (λ (s : LanesState _). s.time) was) i;
      short = (ap (λ (s : LanesState _). s.short) heard ∙ ap (λ (s : LanesState _). s.short) was) i;
      fault = (ap (λ (s : LanesState _). s.fault) heard ∙ ap (fault_after c.self.inside.fault) (sym c.heed.ensures.same) ∙ ap (λ (s : LanesState _). fault_after s.fault c.heed.result) was) i;
    }

pub returns-clause-none : goal.returns-clause-none
returns-clause-none g c =
    none_at c.self.inside.lanes.items c.args.at c.args.self.now.time c.queue_due-answer.new.self c.queue_due-answer.result c.heed.result _
    c.heed.ensures.same (omega (arith, c.in-Some.ensures.variant.0 refl, c.self.inside.lanes.ok.0))
    (subst (λ (t : ℕ). OnOk c.queue_due-answer.result (IsNoneDue t c.queue_due-answer.new.self.plan))
    (ap (λ (s : LanesState _). s.time) c.self.view_is) c.queue_due-answer.ensures.none)
    (ap (λ (s : LanesState _). s.plans) c.heed.ensures.rest)

pub returns-clause-others : goal.returns-clause-others
returns-clause-others g c =
    one_else c.self.inside.lanes.items c.args.at c.queue_due-answer.new.self _ _
    (ap (λ (s : LanesState _). s.plans) c.self.view_is) (ap (λ (s : LanesState _). s.plans) c.heed.ensures.rest)
