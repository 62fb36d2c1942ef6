use Rattle.std.proofs.Common.{◌≡◌, true, refl, ◌∙◌, arith}
use Rattle.std.proofs.lemmas.Grind.{common_steps}
use Rattle.custody_steps.proofs.Delivered.{ended-along, ended-same}
use Rattle.custody_steps.proofs.Keeping as keeping
use Rattle.custody_steps.proofs.world.World.abandon.Goals as goal
use Rattle.custody_store.specs.Book.{ended}

pub returns-in_default-clause-answer : goal.returns-in_default-clause-answer
returns-in_default-clause-answer g c =
    let w = c.args.self.now in
    (keeping.none_there w.places w.book c.args.delivery c.in_default.ensures, refl)

pub returns-then-not-is_open-clause-answer : goal.returns-then-not-is_open-clause-answer
returns-then-not-is_open-clause-answer g c =
    let w = c.args.self.now in
    let found = c.in-Some.found.now.delivery in
    let shown = keeping.shown w.places w.book c.args.delivery found c.in-Some.ensures in (
      keeping.shown_there w.places w.book c.args.delivery found c.in-Some.ensures,
      λ h. let open_now = rw shown at h in cc,
      refl,
    )

pub end-requires : goal.end-requires
end-requires g c = keeping.there c.args.self.now.places c.args.self.now.book c.args.delivery c.in-Some.found.now.delivery c.in-Some.ensures

pub invariant_of-self : goal.invariant_of-self
invariant_of-self g c =
    let w = c.args.self.now in
    let k = keeping.known_delivery w.net.now w.places w.book c.end.new.self (keeping.known_of w) ended c.args.delivery w.book.room ended-same c.end.ensures in
    record { answers = k.answers; closed = k.closed; sent = k.sent; ending = k.ending; shown = k.shown }

pub returns-clause-answer : goal.returns-clause-answer
returns-clause-answer g c =
    let w = c.args.self.now in
    let found = c.in-Some.found.now.delivery in
    let shown = keeping.shown w.places w.book c.args.delivery found c.in-Some.ensures in
    let open_now : c.is_open.result ≡ true = grind (arith, common_steps) in (
      keeping.shown_there w.places w.book c.args.delivery found c.in-Some.ensures,
      rw shown (cc),
      keeping.delivery_world w.places w.book c.end.new.self ended c.args.delivery w.book.room ended-along c.end.ensures ∙ rw shown refl,
    )
