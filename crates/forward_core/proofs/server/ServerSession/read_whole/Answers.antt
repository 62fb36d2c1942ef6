use Rattle.std.proofs.Common.{◌≡◌}
use Rattle.forward_core.specs.declared.server.ServerSession.TheInside.{Inside}
use Rattle.forward_core.specs.Server.{ServerState, phase_of}
use Rattle.forward_core.proofs.Stepping.{came_with}
use Rattle.forward_core.proofs.server.ServerSession.read_whole.Goals.{else-branch-via-then-branch+else-may_wait, else-branch-via-else-branch}
use Rattle.forward_core.proofs.server.ServerSession.read_whole.Goals as goal

-- the session as contracts see it
abbrev state_of : {A : Type 0} → Inside A → ServerState
state_of s = record {
  phase = phase_of s.phase;
  held = s.held;
  outgoing = s.outgoing;
  asked = s.asked.all;
  taken = s.taken.all;
}

pub returns-in-Ok-clause-reads : goal.returns-in-Ok-clause-reads
returns-in-Ok-clause-reads g c =
    let before : ServerState = state_of c.self.inside in
    let mid : c.else-branch.self ≡ record before { held = c.take.new.self } = elim c.else-branch.branch [
      | else-branch-via-then-branch+else-may_wait w ↦ w.self-is
      | else-branch-via-else-branch w ↦ w.self-is
    ] in
    came_with before c.args.self.now c.else-branch.self c.take_all.new.self c.take.new.self c.args.piece.now _ c.self.view_is mid c.in_ok-take.ensures.ok c.in-Ok.ensures.reads
