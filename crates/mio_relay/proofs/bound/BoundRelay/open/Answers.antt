use Rattle.std.proofs.Common.{◌∙◌, List, ap, map, subst, sym}
use Rattle.ack_receipt.specs.Terms.{Terms}
use Rattle.loop_core.specs.Schedules.{Plan}
use Rattle.loop_core.specs.Buffers.{AreBuffersOf, ArePlaced, ArePlanned, OpenState}
use Rattle.loop_core.specs.Owners.{Owned}
use Rattle.mio_relay.specs.Connections.{ArePortsOf, Hosted, Served, sources_in}
use Rattle.mio_relay.specs.Loops.{BoundState}
use Rattle.mio_relay.proofs.Listening.{map_again}
use Rattle.mio_relay.proofs.Slots.{none_served}
use Rattle.mio_relay.proofs.bound.BoundRelay.open.Goals as goal

pub returns-clause-sources : goal.returns-clause-sources
returns-clause-sources g c = (ap (λ (b : BoundState _). b.sources) c.self.view_is, ap (λ (b : BoundState _). b.bound) c.self.view_is)

pub returns-clause-buffers : goal.returns-clause-buffers
returns-clause-buffers g c =
    subst (λ (l : List (Terms _)). AreBuffersOf c.args.self.number c.args.self.outputs l) (sym c.in_ok-parts.ensures.buffers)
    (subst (λ (b : BoundState _). AreBuffersOf b.number b.outputs (map (λ (one : OpenState _ _). one.owned.terms) c.in_ok-opened.opened.items)) c.self.view_is c.in_ok-opened.ensures.buffers)

pub returns-clause-jobs : goal.returns-clause-jobs
returns-clause-jobs g c = (
  ap (λ (l : List (Owned _)). map (λ one. one.output) l) c.in_ok-parts.ensures.jobs
      ∙ map_again (λ (one : OpenState _ _). one.owned) (λ (job : Owned _). job.output) c.in_ok-opened.opened.items
      ∙ c.in_ok-opened.ensures.outputs ∙ ap (λ (b : BoundState _). b.outputs) c.self.view_is,
  ap (λ (l : List (Owned _)). map (λ one. one.terms) l) c.in_ok-parts.ensures.jobs
      ∙ map_again (λ (one : OpenState _ _). one.owned) (λ (job : Owned _). job.terms) c.in_ok-opened.opened.items
      ∙ sym c.in_ok-parts.ensures.buffers,
)

pub returns-clause-planned : goal.returns-clause-planned
returns-clause-planned g c =
    subst (λ (l : List (Owned _)). ArePlanned c.now_after-time.result l c.in_ok-parts.parts.lanes.plans) (sym c.in_ok-parts.ensures.jobs)
    (subst (λ (l : List Plan). ArePlanned c.now_after-time.result (map (λ (one : OpenState _ _). one.owned) c.in_ok-opened.opened.items) l) (sym c.in_ok-parts.ensures.plans)
    c.in_ok-opened.ensures.planned)

pub invariant_of-turning : goal.invariant_of-turning
invariant_of-turning g c = (c.self.invariant, none_served _ _ c.new-2.ensures, c.in_ok-parts.ensures.terms ∙ sym c.in_ok-parts.ensures.buffers)

pub returns-clause-placed : goal.returns-clause-placed
returns-clause-placed g c = subst (λ (l : List (Owned _)). ArePlaced (g.F.Folders.place c.args.folders.now) l) (sym c.in_ok-parts.ensures.jobs) c.in_ok-opened.ensures.placed

pub returns-clause-ports : goal.returns-clause-ports
returns-clause-ports g c =
    subst (λ (l : List Served). ArePortsOf l c.in_ok-ports.ports) (ap (λ (b : BoundState _). b.sources) c.self.view_is)
    (subst (λ (h : List Hosted). ArePortsOf (sources_in h) c.in_ok-ports.ports) c.deref.ensures.value c.in_ok-ports.ensures)
