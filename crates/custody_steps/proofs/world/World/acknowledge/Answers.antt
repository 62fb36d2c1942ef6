use Rattle.std.proofs.Common.{◌≡◌, true, refl, sym, ap, ◌∙◌, arith}
use Rattle.std.proofs.lemmas.Bool.{false≢true}
use Rattle.std.proofs.lemmas.Result.{err_from_is_err_and}
use Rattle.custody_store.specs.Book.{changed_at, ended}
use Rattle.custody_steps.specs.Steps.{CanAcknowledge, answered}
use Rattle.custody_steps.specs.World.{World}
use Rattle.custody_steps.specs.WorldOf.{world_of}
use Rattle.custody_steps.proofs.Delivered.{ended-along, ended-same}
use Rattle.custody_steps.proofs.Keeping as keeping
use Rattle.custody_steps.proofs.world.World.acknowledge.Goals as goal

pub returns-in_default-clause-answer : goal.returns-in_default-clause-answer
returns-in_default-clause-answer g c =
    let w = c.args.self.now in
    (keeping.none_there w.places w.book c.args.delivery c.in_default.ensures, refl)

pub returns-in_default-message-clause-answer : goal.returns-in_default-message-clause-answer
returns-in_default-message-clause-answer g c =
    let w = c.args.self.now in
    let found = c.in-Some.found.now.delivery in (
      keeping.shown_there w.places w.book c.args.delivery found c.in-Some.ensures,
      keeping.of_none w.places w.book c.args.delivery found c.in-Some.ensures (CanAcknowledge w.net.now) (rw c.message-message.ensures at c.in_default-message.ensures),
      refl,
    )

pub returns-in_err-can_acknowledge-clause-answer : goal.returns-in_err-can_acknowledge-clause-answer
returns-in_err-can_acknowledge-clause-answer g c =
    let w = c.args.self.now in
    let found = c.in-Some.found.now.delivery in
    let p = err_from_is_err_and c.from_residual.result c.from_residual.ensures.1 in
    rw (p.1, p.2) (keeping.shown_there w.places w.book c.args.delivery found c.in-Some.ensures, c.in_err-can_acknowledge.ensures.err, refl)

pub returns-then-not-branch-clause-answer : goal.returns-then-not-branch-clause-answer
returns-then-not-branch-clause-answer g c =
    let w = c.args.self.now in
    let found = c.in-Some.found.now.delivery in (
      keeping.shown_there w.places w.book c.args.delivery found c.in-Some.ensures,
      λ h. false≢true (sym c.if-not-branch.true ∙ c.in_ok-can_acknowledge.ensures.ok.1 h),
      refl,
    )

pub returns-in_err-answer-clause-answer : goal.returns-in_err-answer-clause-answer
returns-in_err-answer-clause-answer g c =
    let w = c.args.self.now in
    let found = c.in-Some.found.now.delivery in
    let may = c.in_ok-can_acknowledge.ensures.ok.0 c.if-not-branch.false in
    let p = err_from_is_err_and c.from_residual-in_err-answer.result c.from_residual-in_err-answer.ensures.1 in
    rw (p.1, p.2) (
      keeping.shown_there w.places w.book c.args.delivery found c.in-Some.ensures,
      keeping.weaker_of (world_of w) c.args.delivery (CanAcknowledge w.net.now) (λ d m. d.is_open ≡ true) (λ d m a. a.is_open) may,
      c.in_err-answer.ensures.err,
    )

pub end-requires : goal.end-requires
end-requires g c =
    let w = c.args.self.now in
    let a = c.answer.new.self in
    let found = c.in-Some.found.now.delivery in
    let m = c.in-Some-message.sent.now in
    let sent = rw c.message-message.ensures at c.in-Some-message.ensures in
    let e : world_of a ≡ answered (world_of w) found.message m = rw (c.message-message.ensures, ← sent) at c.in_ok-answer.ensures.ok in
    let many = keeping.as_many w.places a.places w.book a.book (ap (λ (x : World). x.deliveries) e) in
    let within = keeping.there w.places w.book c.args.delivery found c.in-Some.ensures in
    omega arith

pub invariant_of-self : goal.invariant_of-self
invariant_of-self g c =
    let a = c.answer.new.self in
    let k = keeping.known_delivery a.net.now a.places a.book c.end.new.self (keeping.known_of a) ended c.args.delivery a.book.room ended-same c.end.ensures in
    record { answers = k.answers; closed = k.closed; sent = k.sent; ending = k.ending; shown = k.shown }

pub returns-clause-answer : goal.returns-clause-answer
returns-clause-answer g c =
    let w = c.args.self.now in
    let a = c.answer.new.self in
    let number = c.args.delivery in
    let found = c.in-Some.found.now.delivery in
    let m = c.in-Some-message.sent.now in
    let sent = rw c.message-message.ensures at c.in-Some-message.ensures in
    let e : world_of a ≡ answered (world_of w) found.message m = rw (c.message-message.ensures, ← sent) at c.in_ok-answer.ensures.ok in (
      keeping.shown_there w.places w.book number found c.in-Some.ensures,
      c.in_ok-can_acknowledge.ensures.ok.0 c.if-not-branch.false,
      keeping.delivery_world a.places a.book c.end.new.self ended number a.book.room ended-along c.end.ensures
          ∙ ap (λ (x : World). record x { deliveries = changed_at x.deliveries number ended }) e
          ∙ rw (keeping.shown w.places w.book number found c.in-Some.ensures, ← sent) refl,
    )
