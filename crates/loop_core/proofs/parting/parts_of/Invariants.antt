use Rattle.std.proofs.Common.{◌≡◌, ◌≤◌, ◌++◌, ◌-◌, map, None}
use Rattle.std.specs.Prelude.{vec_len, vec_capacity}
use Rattle.std.specs.Vec.Iter.{into_iter_items, into_iter_len}
use Rattle.loop_core.proofs.parting.parts_of.Given as goal

abbrev pub invariant-loop-each : goal.invariant-loop-each
invariant-loop-each g l = record {
  lanes : into_iter_len l.rest ≤ l.lanes.room;
  room : into_iter_len l.rest ≤ vec_capacity l.jobs - vec_len l.jobs;
  jobs : l.jobs.items ++ map (λ one. one.owned) (into_iter_items l.rest) ≡ map (λ one. one.owned) l.fn.opened.items;
  terms : l.lanes.terms ++ map (λ one. one.owned.terms) (into_iter_items l.rest) ≡ map (λ one. one.owned.terms) l.fn.opened.items;
  plans : l.lanes.plans ++ map (λ one. one.plan) (into_iter_items l.rest) ≡ map (λ one. one.plan) l.fn.opened.items;
  fault : l.lanes.fault ≡ None;
}

abbrev pub decreases-loop-each : goal.decreases-loop-each
decreases-loop-each g l = into_iter_len l.rest
