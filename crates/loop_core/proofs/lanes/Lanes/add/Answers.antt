use Rattle.std.proofs.Common.{ap}
use Rattle.std.specs.Prelude.{vec_capacity, vec_len}
use Rattle.loop_core.specs.Lanes.{LaneState, LanesState}
use Rattle.loop_core.proofs.Adding.{room_for_less, with_one}
use Rattle.loop_core.proofs.lanes.Lanes.add.Goals as goal

pub returns-clause-room : goal.returns-clause-room
returns-clause-room g c =
    room_for_less (vec_capacity c.self.inside.lanes) (vec_len c.self.inside.lanes) c.args.self.now.room (vec_capacity c.push_reserved.new.self) (vec_len c.push_reserved.new.self)
    (ap (λ (s : LanesState _). s.room) c.self.view_is) c.requires c.push_reserved.ensures.capacity c.push_reserved.ensures.len

pub returns-clause-terms : goal.returns-clause-terms
returns-clause-terms g c =
    with_one (λ (l : LaneState _). l.terms) c.self.inside.lanes.items c.push_reserved.new.self.items c.args.lane c.args.self.now.terms (ap (λ (s : LanesState _). s.terms) c.self.view_is)
    c.push_reserved.ensures.items

pub returns-clause-plans : goal.returns-clause-plans
returns-clause-plans g c =
    with_one (λ (l : LaneState _). l.plan) c.self.inside.lanes.items c.push_reserved.new.self.items c.args.lane c.args.self.now.plans (ap (λ (s : LanesState _). s.plans) c.self.view_is)
    c.push_reserved.ensures.items

pub returns-clause-waiting : goal.returns-clause-waiting
returns-clause-waiting g c =
    with_one (λ (l : LaneState _). l.waiting) c.self.inside.lanes.items c.push_reserved.new.self.items c.args.lane c.args.self.now.waiting (ap (λ (s : LanesState _). s.waiting) c.self.view_is)
    c.push_reserved.ensures.items

pub returns-clause-later : goal.returns-clause-later
returns-clause-later g c =
    with_one (λ (l : LaneState _). l.later) c.self.inside.lanes.items c.push_reserved.new.self.items c.args.lane c.args.self.now.later (ap (λ (s : LanesState _). s.later) c.self.view_is)
    c.push_reserved.ensures.items
