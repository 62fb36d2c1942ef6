use Rattle.std.proofs.Common.{ℕ, ◌++◌, List, map, refl, ap, sym, subst, ◌∙◌}
use Rattle.std.proofs.lemmas.List.{append-nil}
use Rattle.std.specs.List.{All}
use Rattle.ack_receipt.specs.Reservations.{Asked}
use Rattle.forward_core.specs.Demands.{asked_in, wanted}
use Rattle.forward_core.specs.Server.{IsAskedIn, Opened, Outcome, ServerPhase, ServerReads, ServerState, outcome_of, phase_at}
use Rattle.forward_core.proofs.Stepping.{state_after}
use Rattle.forward_core.proofs.Asking.{asks_all, asks_demands}
use Rattle.forward_core.proofs.server.ServerSession.keep_rest.Goals as goal

pub returns-clause-reads : goal.returns-clause-reads
returns-clause-reads g c =
    let taken = c.args.taken in
    let old = c.args.self.now in
    let more = c.args.more.now in
    let view = c.self.view_is in
    let out = outcome_of Opened more taken in
    let none = ap (λ (o : Outcome). o.sends) c.requires.reads.is in (
      out,
      subst (λ (p : ServerPhase). ServerReads p (old.held ++ more) out) (sym c.requires.open) c.requires.reads,
      state_after old _ _ _ _ _ out
          (c.move_to.ensures ∙ ap (λ (s : ServerState). phase_at s.phase taken.stage) view ∙ ap (λ (p : ServerPhase). phase_at p taken.stage) c.requires.open)
          (c.in_ok-replace.ensures.ok ∙ c.split_at.ensures.back)
          (ap (λ (s : ServerState). s.outgoing) view ∙ sym (append-nil old.outgoing) ∙ ap (λ (z : List ℕ). old.outgoing ++ z) (sym none))
          (c.then.ensures ∙ ap (λ (s : ServerState). s.asked ++ asked_in (map wanted taken.demands.items)) view)
          (ap (λ (s : ServerState). s.taken) view),
      refl,
    )

pub returns-clause-asked : goal.returns-clause-asked
returns-clause-asked g c =
    let taken = c.args.taken in
    let old = c.args.self.now in
    let more = c.args.more.now in
    let out = outcome_of Opened more taken in
    let reads = subst (λ (p : ServerPhase). ServerReads p (old.held ++ more) out) (sym c.requires.open) c.requires.reads in
    subst (λ (z : List Asked). All (λ demand. IsAskedIn z (wanted demand)) taken.demands.items)
    (sym (c.then.ensures ∙ ap (λ (s : ServerState). s.asked ++ asked_in (map wanted taken.demands.items)) c.self.view_is))
    (asks_demands taken.demands.items (old.asked ++ asked_in out.wants) (asks_all old.asked old.phase (old.held ++ more) out reads))
