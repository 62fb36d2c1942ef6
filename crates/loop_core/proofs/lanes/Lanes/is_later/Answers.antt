use Rattle.std.proofs.Common.{◌≡◌, ◌∙◌, false, map, subst, sym}
use Rattle.std.proofs.lemmas.List.{length-map}
use Rattle.loop_core.specs.Lanes.{LaneState, LanesState, later_at}
use Rattle.loop_core.proofs.Redeeming.{later_is, later_past}
use Rattle.loop_core.proofs.lanes.Lanes.is_later.Goals as goal

pub returns-in-Some : goal.returns-in-Some
returns-in-Some g c =
    let at = rw c.deref.ensures.value at c.in-Some.ensures.lookup in
    subst (λ (s : LanesState g.row.A.Denot). c.is_later.result ≡ later_at s.later c.args.buffer) c.self.view_is
    (c.is_later.ensures ∙ sym (later_is (λ (l : LaneState g.row.A.Denot). l.later) c.self.inside.lanes.items c.args.buffer c.in-Some.lane.now at.3.0 at.1))

pub returns-in-None : goal.returns-in-None
returns-in-None g c =
    let at = rw c.deref.ensures.value at c.in-None.ensures.lookup in
    subst (λ (s : LanesState g.row.A.Denot). false ≡ later_at s.later c.args.buffer) c.self.view_is
    (sym (later_past (map (λ (l : LaneState g.row.A.Denot). l.later) c.self.inside.lanes.items) c.args.buffer (rw (length-map {A = LaneState g.row.A.Denot}) at.3)))
