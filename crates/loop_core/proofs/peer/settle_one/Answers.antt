use Rattle.std.proofs.Common.{ℕ, ◌≡◌, ◌∙◌, List, length, false, inl, inr, arith, ap, refl, sym, subst}
use Rattle.std.specs.Prelude.{Contains, ◌==◌, not}
use Rattle.std.proofs.lemmas.Bool.Decides.{nat_tests}
use Rattle.std.proofs.lemmas.List.{nil_from_length}
use Rattle.std.proofs.lemmas.List.Elements.{All-push, All-same}
use Rattle.loop_core.specs.Waits.{Waits}
use Rattle.loop_core.specs.Peers.{IsFaithful}
use Rattle.loop_core.proofs.Keeping.{answer_becomes, answer_earned, answer_demanded, answered, none_waits, refused_becomes, shut_out_becomes, still_owed, waits_on_becomes, waits_too}
use Rattle.loop_core.proofs.peer.settle_one.Goals as goal

pub answer-requires-clause-demanded : goal.answer-requires-clause-demanded
answer-requires-clause-demanded g c = answer_demanded c.args.inlet.now c.args.session.now.asked c.args.waiting c.in-Answered.reserved c.requires.owed c.in-Answered.ensures.is.0

pub answer-requires-clause-earned : goal.answer-requires-clause-earned
answer-requires-clause-earned g c = answer_earned c.args.inlet.now c.args.session.now.asked c.args.waiting c.in-Answered.reserved c.requires.owed c.in-Answered.ensures.is.0

pub returns-in-Answered-clause-kept : goal.returns-in-Answered-clause-kept
returns-in-Answered-clause-kept g c =
    answered c.args.inlet.now c.args.session.now.asked c.answer.new.session.asked c.args.session.now.taken c.answer.new.session.taken
    c.args.later.now.items c.answer.ensures.asked c.answer.ensures.kept c.requires.before

pub returns-in-Ok-clause-kept : goal.returns-in-Ok-clause-kept
returns-in-Ok-clause-kept g c =
    let asked = c.args.session.now.asked in
    subst (λ (w : List Waits). IsFaithful c.args.inlet.now asked c.args.session.now.taken w) (sym c.in-Ok.ensures.items)
    (waits_too c.args.inlet.now asked c.args.session.now.taken c.args.later.now.items c.in-Later.waiting c.requires.before
    (still_owed c.args.inlet.now asked c.args.waiting c.in-Later.waiting c.in-Later.ensures.is c.requires.owed))

pub returns-in-Ok-clause-waited : goal.returns-in-Ok-clause-waited
returns-in-Ok-clause-waited g c =
    λ before all one.
    All-same (λ w. Contains before w.awaited) c.push.new.self.items _ c.in-Ok.ensures.items
    (All-push (λ w. Contains before w.awaited) c.args.later.now.items c.in-Later.waiting all (subst (Contains before) (sym c.in-Later.ensures.is) one))

pub returns-in-Ok-clause-ended : goal.returns-in-Ok-clause-ended
returns-in-Ok-clause-ended g c =
    λ none empty.
    let free : not c.is_empty-held.result ≡ false = ap not c.is_empty-held.ensures ∙ ap (λ (n : ℕ). not (n == 0)) (c.args.later.now.ok.0 ∙ ap length empty) in
    absurd (none_waits c.args.lanes.now.later c.args.waiting.buffers (not c.is_empty-held.result) none free c.in-Later.ensures.waits.1)

pub returns-in-Err-clause-waited : goal.returns-in-Err-clause-waited
returns-in-Err-clause-waited g c = λ before all one. All-same (λ w. Contains before w.awaited) c.push.new.self.items c.args.later.now.items c.in-Err.ensures.items all

pub returns-in-Answered-clause-becomes : goal.returns-in-Answered-clause-becomes
returns-in-Answered-clause-becomes g c =
    let none : length c.args.later.now.items ≡ 0 = grind (arith, nat_tests) in
    λ closing.
    answer_becomes c.args.waiting c.in-Answered.reserved c.args.later.now.items c.answer.result c.args.session.now c.answer.new.session closing c.in-Answered.ensures.is.0
    (nil_from_length c.args.later.now.items none) c.answer.ensures.taken c.answer.ensures.refused

pub returns-in-Abandoned-clause-becomes : goal.returns-in-Abandoned-clause-becomes
returns-in-Abandoned-clause-becomes g c =
    λ closing.
    refused_becomes c.args.waiting c.in-Abandoned.stub (record { left = c.args.later.now.items; session = c.args.session.now; closing = closing }) c.in-Abandoned.ensures.is

pub returns-in-Ok-clause-becomes : goal.returns-in-Ok-clause-becomes
returns-in-Ok-clause-becomes g c =
    λ closing.
    waits_on_becomes c.args.waiting c.in-Later.waiting c.push.new.self.items (record { left = c.args.later.now.items; session = c.args.session.now; closing = closing })
    c.in-Later.ensures.is c.in-Ok.ensures.items

pub returns-in-Err-clause-becomes : goal.returns-in-Err-clause-becomes
returns-in-Err-clause-becomes g c =
    λ closing.
    shut_out_becomes c.args.waiting c.push.new.self.items (record { left = c.args.later.now.items; session = c.args.session.now; closing = closing }) c.in-Err.ensures.items
