use Rattle.std.proofs.Common.{ℕ, ◌∙◌, ap, arith, refl, subst}
use Rattle.std.specs.Prelude.{IfOk}
use Rattle.loop_core.specs.Lanes.{LaneState, LanesState}
use Rattle.loop_core.proofs.Appending.{appended_at, refused_at}
use Rattle.loop_core.specs.Schedules.{IsNoted}
use Rattle.loop_core.proofs.KeepingLanes.{kept_at, one_kept}
use Rattle.loop_core.proofs.Noting.{noted_at}
use Rattle.loop_core.proofs.lanes.Lanes.append_to.Goals as goal

pub returns-clause-kept : goal.returns-clause-kept
returns-clause-kept g c =
    one_kept c.self.inside.lanes.items c.args.buffer.0 c.in-Some.lane.now c.append-answer.new.self _ _ c.self.inside.fault c.append-answer.result c.args.self.now c.heed.new.self
    c.in-Some.ensures.value c.append-answer.ensures.kept c.self.view_is c.heed.ensures.rest

pub returns-clause-later : goal.returns-clause-later
returns-clause-later g c =
    ap (λ (s : LanesState _). s.later) c.heed.ensures.rest
    ∙ kept_at (λ (l : LaneState _). l.later) c.self.inside.lanes.items c.args.buffer.0 c.in-Some.lane.now c.append-answer.new.self c.in-Some.ensures.value c.append-answer.ensures.later
    ∙ ap (λ (s : LanesState _). s.later) c.self.view_is

pub returns-clause-appended : goal.returns-clause-appended
returns-clause-appended g c =
    appended_at c.self.inside.lanes.items c.args.buffer c.in-Some.lane.now c.append-answer.new.self c.args.delivery.now.number c.append-answer.result c.heed.result _ _
    c.heed.ensures.same (omega (arith, c.in-Some.ensures.variant.0 refl, c.self.inside.lanes.ok.0)) c.in-Some.ensures.value c.append-answer.ensures.appended
    (ap (λ (s : LanesState _). s.waiting) c.self.view_is) (ap (λ (s : LanesState _). s.waiting) c.heed.ensures.rest)

pub returns-clause-none : goal.returns-clause-none
returns-clause-none g c =
    refused_at c.self.inside.lanes.items c.args.buffer.0 c.in-Some.lane.now c.append-answer.new.self c.append-answer.result c.heed.result _ _
    c.heed.ensures.same c.in-Some.ensures.value c.append-answer.ensures.none
    (ap (λ (s : LanesState _). s.waiting) c.self.view_is) (ap (λ (s : LanesState _). s.waiting) c.heed.ensures.rest)

pub returns-clause-noted : goal.returns-clause-noted
returns-clause-noted g c =
    noted_at c.self.inside.lanes.items c.args.buffer.0 c.args.self.now.time c.in-Some.lane.now c.append-answer.new.self c.append-answer.result c.heed.result _ _
    c.heed.ensures.same (omega (arith, c.in-Some.ensures.variant.0 refl, c.self.inside.lanes.ok.0)) c.in-Some.ensures.value
    (subst (λ (t : ℕ). IfOk c.append-answer.result (λ serial. IsNoted serial t c.in-Some.lane.now.plan c.append-answer.new.self.plan))
    (ap (λ (s : LanesState _). s.time) c.self.view_is) c.append-answer.ensures.staged)
    (ap (λ (s : LanesState _). s.plans) c.self.view_is) (ap (λ (s : LanesState _). s.plans) c.heed.ensures.rest)
