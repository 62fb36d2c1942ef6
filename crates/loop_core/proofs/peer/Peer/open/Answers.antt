use Rattle.std.proofs.Common.{List, [], sym, subst}
use Rattle.std.specs.Arc.{arc_value}
use Rattle.forward_core.specs.Server.{ServerState}
use Rattle.loop_core.specs.Peers.{IsFaithful}
use Rattle.loop_core.specs.Waits.{Waits}
use Rattle.loop_core.proofs.Keeping.{opened}
use Rattle.loop_core.proofs.peer.Peer.open.Goals as goal

pub invariant_of-result : goal.invariant_of-result
invariant_of-result g c =
    subst (λ (w : List Waits). IsFaithful (arc_value c.in_ok-inlet.inlet) c.in_ok-session.session.asked c.in_ok-session.session.taken w) (sym c.new.ensures.items)
    (subst (λ (s : ServerState). IsFaithful (arc_value c.in_ok-inlet.inlet) s.asked s.taken []) (sym c.in_ok-session.ensures)
    (opened (arc_value c.in_ok-inlet.inlet) c.args.security c.args.nonce))
