use Rattle.std.proofs.Common.{◌<◌, length, rules}
use Rattle.std.proofs.lemmas.Iterator.{cases_from_any, YieldsList-from_slice}
use Rattle.loop_core.specs.Lanes.{LaneState}
use Rattle.loop_core.proofs.Pendings.{IsNot, any_decided, fact, known_not, known_so}
use Rattle.loop_core.proofs.lanes.have_waiting.Goals as goal

pub returns : goal.returns
returns g c =
    let P : LaneState g.row.A.Denot → Type 0 = λ lane. 0 < length lane.waiting in
    let xs = c.args.lanes.now in
    any_decided P _ xs
    (cases_from_any _ _ _ P (λ lane. P lane → ⊥) c.any.ensures.ran (YieldsList-from_slice xs c.iter.ensures.rest)
    (λ x q k. fact {P = P x.now} (search (rules, known_so))) (λ x q k. (search rules, (fact {P = IsNot (P x.now)} (search (rules, known_not))).not)))
