use Rattle.std.proofs.Common.{ℕ, ◌≡◌, ◌∙◌, List, drop, refl, ap, sym, subst, Some}
use Rattle.event_modes.specs.declared.fault.ModeFault.{ModeFault}
use Rattle.event_modes.specs.declared.message.Read.{Read}
use Rattle.event_modes.specs.Faults.{StreamFault}
use Rattle.event_modes.specs.Stream.{Arrival}
use Rattle.event_modes.specs.Reading.{meaning, answer_of, Answers}
use Rattle.event_modes.specs.Feeding.{Feeding, TakesOff, IsRemembered}
use Rattle.event_modes.specs.declared.ahead.Ahead.{Ahead}
use Rattle.event_modes.specs.Ahead.{IsGiven}
use Rattle.event_modes.proofs.Taken.{takes_message, takes_heartbeat, no_fault}
use Rattle.event_modes.proofs.feed.Feed.next.Goals as goal

fault_at : (bytes unread : List ℕ) (start : ℕ) (fault : ModeFault) → unread ≡ drop start bytes → StreamFault unread fault → StreamFault (drop start bytes) fault
fault_at bytes unread start fault u p = subst (λ (z : List ℕ). StreamFault z fault) u p

at_old : (old view new : Feeding) (a : Arrival) → view ≡ old → TakesOff view a new → TakesOff old a new
at_old old view new a e t = subst (λ (f : Feeding). TakesOff f a new) e t

given_at : (ahead : Ahead) (bytes unread : List ℕ) (start : ℕ) → unread ≡ drop start bytes → IsGiven ahead unread → IsGiven ahead (drop start bytes)
given_at ahead bytes unread start u p = subst (IsGiven ahead) u p

remembered : (view old : Feeding) (fault : ModeFault) → view ≡ old → view.fault ≡ Some fault → IsRemembered view.held view.fault → (old.held ≡ old.held) × (old.fault ≡ Some fault) × StreamFault old.held fault
remembered view old fault e f p = (
  refl,
  ap (λ (x : Feeding). x.fault) (sym e) ∙ f,
  subst (λ (x : Feeding). StreamFault x.held fault) e (subst (IsRemembered view.held) f p),
)

pub returns-in-Some-clause-ok : goal.returns-in-Some-clause-ok
returns-in-Some-clause-ok g c = remembered _ c.args.self.now c.in-Some.fault c.self.view_is c.in-Some.is c.self.invariant.1

pub invariant_of-self-in-Bad : goal.invariant_of-self-in-Bad
invariant_of-self-in-Bad g c = (
  c.self.invariant.0,
  fault_at c.self.inside.bytes.items c.split_at.result.1.now c.self.inside.start c.in-Bad.fault (c.split_at.ensures.back ∙ ap (drop c.self.inside.start) c.deref.ensures.value)
      (subst (λ (r : Read _). Answers c.split_at.result.1.now (answer_of r)) c.in-Bad.is c.in_ok-message.ensures.right),
  given_at _ c.self.inside.bytes.items c.split_at.result.1.now c.self.inside.start (c.split_at.ensures.back ∙ ap (drop c.self.inside.start) c.deref.ensures.value) c.read_on.ensures.given,
)

pub returns-in-Message-clause-ok : goal.returns-in-Message-clause-ok
returns-in-Message-clause-ok g c =
    at_old _ _ _ _ c.self.view_is
    (takes_message c.self.inside.bytes.items c.split_at.result.1.now c.self.inside.start c.in-Message.n (meaning c.in-Message.message) c.self.inside.fault (no_fault c.self.inside.fault c.in_default.not-Some)
    (c.split_at.ensures.back ∙ ap (drop c.self.inside.start) c.deref.ensures.value)
    (subst (λ (r : Read _). Answers c.split_at.result.1.now (answer_of r)) c.in-Message.is c.in_ok-message.ensures.right))

pub returns-in-Heartbeat-clause-ok : goal.returns-in-Heartbeat-clause-ok
returns-in-Heartbeat-clause-ok g c =
    at_old _ _ _ _ c.self.view_is
    (takes_heartbeat c.self.inside.bytes.items c.split_at.result.1.now c.self.inside.start c.in-Heartbeat.n c.self.inside.fault (no_fault c.self.inside.fault c.in_default.not-Some)
    (c.split_at.ensures.back ∙ ap (drop c.self.inside.start) c.deref.ensures.value)
    (subst (λ (r : Read _). Answers c.split_at.result.1.now (answer_of r)) c.in-Heartbeat.is c.in_ok-message.ensures.right))

held_fault : (view old : Feeding) (unread : List ℕ) (fault : ModeFault) → view ≡ old → unread ≡ view.held → StreamFault unread fault → (view.held ≡ old.held) × StreamFault old.held fault
held_fault view old unread fault e u p =
    (ap (λ (f : Feeding). f.held) e, subst (λ (z : List ℕ). StreamFault z fault) (u ∙ ap (λ (f : Feeding). f.held) e) p)

pub returns-in-Bad-clause-ok : goal.returns-in-Bad-clause-ok
returns-in-Bad-clause-ok g c =
    let h = held_fault _ c.args.self.now c.split_at.result.1.now c.in-Bad.fault c.self.view_is (c.split_at.ensures.back ∙ ap (drop c.self.inside.start) c.deref.ensures.value)
    (subst (λ (r : Read _). Answers c.split_at.result.1.now (answer_of r)) c.in-Bad.is c.in_ok-message.ensures.right) in
    (h.0, refl, h.1)
