use Rattle.std.proofs.Common.{◌∙◌, List, ap, map, sym}
use Rattle.std.specs.Prelude.{vec_capacity, vec_len}
use Rattle.std.specs.Vec.Iter.{into_iter_items, into_iter_len}
use Rattle.std.proofs.lemmas.List.{nil_from_length}
use Rattle.loop_core.specs.Lanes.{LaneState, LanesState}
use Rattle.loop_core.specs.Buffers.{OpenState}
use Rattle.loop_core.proofs.Moving.{all_left, enough, enough_behind, fits, fits_behind, made_of, moved_all}
use Rattle.loop_core.proofs.parting.parts_of.Goals as goal

pub loop-each-init : goal.loop-each-init
loop-each-init g c =
    let left = into_iter_items c.into_iter-rest.result in
    let none = c.in_ok-lanes.ensures.none in
    record {
      lanes = enough _ (vec_len c.args.opened) _ _ c.into_iter-rest.ensures.len c.len-2.ensures c.in_ok-lanes.ensures.room;
      room =
          enough_behind _ (vec_len c.args.opened) _ _ _ c.into_iter-rest.ensures.len c.len.ensures c.in_ok-jobs.ensures.capacity c.in_ok-jobs.ensures.len;
      jobs = all_left (λ (one : OpenState _ _). one.owned) c.in_ok-jobs.jobs.items left c.args.opened.items c.in_ok-jobs.ensures.items c.into_iter-rest.ensures.rest;
      terms =
          all_left (λ (one : OpenState _ _). one.owned.terms) c.in_ok-lanes.lanes.terms left c.args.opened.items (ap (λ (l : LanesState _). l.terms) none) c.into_iter-rest.ensures.rest;
      plans =
          all_left (λ (one : OpenState _ _). one.plan) c.in_ok-lanes.lanes.plans left c.args.opened.items (ap (λ (l : LanesState _). l.plans) none) c.into_iter-rest.ensures.rest;
      fault = ap (λ (l : LanesState _). l.fault) none;
    }

pub loop-each-preserved : goal.loop-each-preserved
loop-each-preserved g c =
    let left = into_iter_items c.loop-each.rest in
    let left' = into_iter_items c.next.new.self in
    record {
      lanes = fits (into_iter_len c.loop-each.rest) (into_iter_len c.next.new.self) c.loop-each.lanes.room c.add.new.self.room c.loop-each.invariant.lanes c.in-Some.ensures.len c.add.ensures.room;
      room =
          fits_behind (into_iter_len c.loop-each.rest) (into_iter_len c.next.new.self) (vec_capacity c.loop-each.jobs) (vec_capacity c.push_reserved.new.self) (vec_len c.loop-each.jobs)
          (vec_len c.push_reserved.new.self) c.loop-each.invariant.room c.in-Some.ensures.len c.push_reserved.ensures.capacity c.push_reserved.ensures.len;
      jobs =
          made_of (λ (one : OpenState _ _). one.owned) c.loop-each.jobs.items c.push_reserved.new.self.items c.each.inside.job left left' c.in-Some.each
          (map (λ (one : OpenState _ _). one.owned) c.args.opened.items) c.push_reserved.ensures.items c.in-Some.ensures.items (ap (λ (o : OpenState _ _). o.owned) c.each.view_is)
          c.loop-each.invariant.jobs;
      terms =
          made_of (λ (one : OpenState _ _). one.owned.terms) c.loop-each.lanes.terms c.add.new.self.terms c.new.result.terms left left' c.in-Some.each
          (map (λ (one : OpenState _ _). one.owned.terms) c.args.opened.items) c.add.ensures.terms c.in-Some.ensures.items
          (ap (λ (l : LaneState _). l.terms) c.new.ensures ∙ c.into_buffer.ensures ∙ c.each.invariant.1 ∙ ap (λ (o : OpenState _ _). o.owned.terms) c.each.view_is) c.loop-each.invariant.terms;
      plans =
          made_of (λ (one : OpenState _ _). one.plan) c.loop-each.lanes.plans c.add.new.self.plans c.new.result.plan left left' c.in-Some.each
          (map (λ (one : OpenState _ _). one.plan) c.args.opened.items) c.add.ensures.plans c.in-Some.ensures.items
          (ap (λ (l : LaneState _). l.plan) c.new.ensures ∙ ap (λ (o : OpenState _ _). o.plan) c.each.view_is) c.loop-each.invariant.plans;
      fault = c.add.ensures.fault ∙ c.loop-each.invariant.fault;
    }

pub returns-clause-buffers : goal.returns-clause-buffers
returns-clause-buffers g c = c.in_ok-buffers.ensures ∙ ap (λ (all : List (OpenState _ _)). map (λ one. one.owned.terms) all) c.deref.ensures.value

pub returns-clause-jobs : goal.returns-clause-jobs
returns-clause-jobs g c =
    moved_all c.loop-each.jobs.items (map (λ (one : OpenState _ _). one.owned) (into_iter_items c.loop-each.rest)) (map (λ (one : OpenState _ _). one.owned) c.args.opened.items)
    (ap (map (λ (one : OpenState _ _). one.owned)) (nil_from_length _ (sym c.loop-each.rest.rest.ok.0 ∙ c.in_default.ensures.cases.0))) c.loop-each.invariant.jobs

pub returns-clause-terms : goal.returns-clause-terms
returns-clause-terms g c =
    moved_all c.loop-each.lanes.terms (map (λ (one : OpenState _ _). one.owned.terms) (into_iter_items c.loop-each.rest)) (map (λ (one : OpenState _ _). one.owned.terms) c.args.opened.items)
    (ap (map (λ (one : OpenState _ _). one.owned.terms)) (nil_from_length _ (sym c.loop-each.rest.rest.ok.0 ∙ c.in_default.ensures.cases.0))) c.loop-each.invariant.terms

pub returns-clause-plans : goal.returns-clause-plans
returns-clause-plans g c =
    moved_all c.loop-each.lanes.plans (map (λ (one : OpenState _ _). one.plan) (into_iter_items c.loop-each.rest)) (map (λ (one : OpenState _ _). one.plan) c.args.opened.items)
    (ap (map (λ (one : OpenState _ _). one.plan)) (nil_from_length _ (sym c.loop-each.rest.rest.ok.0 ∙ c.in_default.ensures.cases.0))) c.loop-each.invariant.plans
