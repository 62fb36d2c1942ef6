use Rattle.std.proofs.Common.{ℕ, ◌++◌, List, length, map, drop, refl, ap, sym, subst, ◌∙◌, arith}
use Rattle.std.specs.List.{All}
use Rattle.ack_receipt.specs.Reservations.{Asked}
use Rattle.forward_core.specs.Demands.{asked_in, wanted}
use Rattle.forward_core.specs.Server.{ServerState, IsAskedIn, phase_at, outcome_of}
use Rattle.forward_core.proofs.Stepping.{state_after}
use Rattle.forward_core.proofs.Asking.{asks_all, asks_demands}
use Rattle.forward_core.proofs.server.ServerSession.take_all.Goals as goal

pub drop_front-requires : goal.drop_front-requires
drop_front-requires g c = omega (arith, ap (λ (s : ServerState). length s.held) c.self.view_is, c.in_ok-taken.ensures.len)

pub returns-clause-reads : goal.returns-clause-reads
returns-clause-reads g c =
    let taken = c.in_ok-taken.taken in
    let old = c.args.self.now in
    let view = c.self.view_is in
    let out = outcome_of old.phase old.held taken in (
      out,
      c.in_ok-taken.ensures.reads,
      state_after old _ _ _ _ _ out
          (c.move_to.ensures ∙ ap (λ (s : ServerState). phase_at s.phase taken.stage) view)
          (c.drop_front.ensures ∙ ap (λ (s : ServerState). drop taken.len s.held) view)
          (c.in_ok-append.ensures.ok ∙ ap (λ (z : List ℕ). c.self.inside.outgoing ++ z) c.deref.ensures.value ∙ ap (λ (s : ServerState). s.outgoing ++ taken.sends.items) view)
          (c.then.ensures ∙ ap (λ (s : ServerState). s.asked ++ asked_in (map wanted taken.demands.items)) view)
          (ap (λ (s : ServerState). s.taken) view),
      refl,
    )

pub returns-clause-asked : goal.returns-clause-asked
returns-clause-asked g c =
    let taken = c.in_ok-taken.taken in
    let old = c.args.self.now in
    let out = outcome_of old.phase old.held taken in
    subst (λ (z : List Asked). All (λ demand. IsAskedIn z (wanted demand)) taken.demands.items)
    (sym (c.then.ensures ∙ ap (λ (s : ServerState). s.asked ++ asked_in (map wanted taken.demands.items)) c.self.view_is))
    (asks_demands taken.demands.items (old.asked ++ asked_in out.wants) (asks_all old.asked old.phase old.held out c.in_ok-taken.ensures.reads))
