use Rattle.std.proofs.Common.{ℕ, ◌≡◌, List, subst}
use Rattle.event_modes.specs.declared.message.Read.{Read}
use Rattle.event_modes.specs.Reading.{meaning, answer_of, Answers}
use Rattle.forward_core.proofs.Streaming.{reading_message, reading_beat, reads_open, reads_fault, less_left}
use Rattle.forward_core.proofs.messages.take_messages.Goals as goal

-- what was read of the bytes that are left
answers_at : {A : Type 0} (left unread : List ℕ) (found is : Read A) → unread ≡ left → found ≡ is → Answers unread (answer_of found) → Answers left (answer_of is)
answers_at left unread found is u e p = subst (λ (z : List ℕ). Answers z (answer_of is)) u (subst (λ (r : Read _). Answers unread (answer_of r)) e p)

pub items-preserved-in-Message : goal.items-preserved-in-Message
items-preserved-in-Message g c =
    let r = reading_message c.args.bytes.now c.items.taken.len c.in-Message.n (meaning c.in-Message.message) _ _ c.items.invariant.0
    (answers_at _ _ _ _ c.split_at.ensures.back c.in-Message.is c.in_ok-message.ensures.right)
    c.in_ok-deliver-in-Message.ensures.demands in
    rw (c.in_ok-deliver-in-Message.ensures.len, c.in_ok-deliver-in-Message.ensures.stage, c.in_ok-deliver-in-Message.ensures.sends) (r.0, c.items.invariant.1, c.items.invariant.2)

pub items-smaller-in-Message : goal.items-smaller-in-Message
items-smaller-in-Message g c =
    let r = reading_message c.args.bytes.now c.items.taken.len c.in-Message.n (meaning c.in-Message.message) _ _ c.items.invariant.0
    (answers_at _ _ _ _ c.split_at.ensures.back c.in-Message.is c.in_ok-message.ensures.right)
    c.in_ok-deliver-in-Message.ensures.demands in
    less_left c.args.bytes.now c.items.taken.len c.deliver.new.self.len c.in-Message.n c.in_ok-deliver-in-Message.ensures.len r.1 (rw c.in_ok-deliver-in-Message.ensures.len r.0.at_most)

pub items-preserved : goal.items-preserved
items-preserved g c =
    let r = reading_beat c.args.bytes.now c.items.taken.len c.in-Heartbeat.n _ c.items.invariant.0
    (answers_at _ _ _ _ c.split_at.ensures.back c.in-Heartbeat.is c.in_ok-message.ensures.right) in
    (r.0, c.items.invariant.1, c.items.invariant.2)

pub returns-in-Need-clause-reads : goal.returns-in-Need-clause-reads
returns-in-Need-clause-reads g c before =
    rw (c.items.invariant.1, c.items.invariant.2) (reads_open c.args.sends.items c.args.bytes.now c.items.taken.len _ c.items.invariant.0
    (answers_at _ _ _ _ c.split_at.ensures.back c.in-Need.is c.in_ok-message.ensures.right))

pub returns-in-Bad-clause-reads : goal.returns-in-Bad-clause-reads
returns-in-Bad-clause-reads g c before =
    rw (c.in_ok-close-in-Bad.ensures.stage, c.in_ok-close-in-Bad.ensures.len, c.in_ok-close-in-Bad.ensures.sends, c.items.invariant.2)
    (reads_fault c.args.sends.items c.args.bytes.now c.items.taken.len _ _ c.in-Bad.fault c.items.invariant.0
    (answers_at _ _ _ _ c.split_at.ensures.back c.in-Bad.is c.in_ok-message.ensures.right) c.in_ok-close-in-Bad.ensures.demands)
