use Rattle.std.proofs.Common.{◌∙◌, ap, arith, refl}
use Rattle.loop_core.specs.Lanes.{LaneState, LanesState}
use Rattle.loop_core.specs.Schedules.{timing_of}
use Rattle.loop_core.proofs.KeepingLanes.{kept_at, one_kept}
use Rattle.loop_core.proofs.Redeeming.{others_at, redeemed_at}
use Rattle.loop_core.proofs.lanes.Lanes.redeem_at.Goals as goal

pub returns-clause-kept : goal.returns-clause-kept
returns-clause-kept g c =
    one_kept c.self.inside.lanes.items c.args.at c.in-Some.lane.now c.redeem-answer.new.self _ _ c.self.inside.fault c.redeem-answer.result c.args.self.now c.heed.new.self
    c.in-Some.ensures.value (record { terms = c.redeem-answer.ensures.terms; timing = ap timing_of c.redeem-answer.ensures.plan }) c.self.view_is c.heed.ensures.rest

pub returns-clause-plans : goal.returns-clause-plans
returns-clause-plans g c =
    ap (λ (s : LanesState _). s.plans) c.heed.ensures.rest
    ∙ kept_at (λ (l : LaneState _). l.plan) c.self.inside.lanes.items c.args.at c.in-Some.lane.now c.redeem-answer.new.self c.in-Some.ensures.value c.redeem-answer.ensures.plan
    ∙ ap (λ (s : LanesState _). s.plans) c.self.view_is

pub returns-clause-redeemed : goal.returns-clause-redeemed
returns-clause-redeemed g c =
    λ buffer same.
    redeemed_at c.self.inside.lanes.items c.args.at c.in-Some.lane.now c.redeem-answer.new.self _ _ c.self.inside.fault _ c.redeem-answer.result c.args.self.now c.heed.new.self buffer
    (omega (arith, c.in-Some.ensures.variant.0 refl, c.self.inside.lanes.ok.0)) c.in-Some.ensures.value c.redeem-answer.ensures.ok c.redeem-answer.ensures.err
    c.self.view_is c.heed.ensures.rest same

pub returns-clause-others : goal.returns-clause-others
returns-clause-others g c =
    λ buffer apart.
    others_at c.self.inside.lanes.items c.args.at c.redeem-answer.new.self _ _ c.self.inside.fault _ c.args.self.now c.heed.new.self buffer c.self.view_is c.heed.ensures.rest apart
