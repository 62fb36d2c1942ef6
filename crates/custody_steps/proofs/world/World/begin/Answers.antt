use Rattle.std.proofs.Common.{◌≡◌, ◌≤◌, ◌++◌, Ok, Err, ◌∷◌, [], length, true, refl, sym, ap, ◌∙◌, inl, inr}
use Rattle.std.proofs.lemmas.Bool.{cases_lt, false≢true}
use Rattle.std.proofs.lemmas.Option.{slice_get_within}
use Rattle.std.proofs.lemmas.Result.{err_from_is_err_and}
use Rattle.custody_store.specs.Book.{Delivery}
use Rattle.relay_net.specs.Ways.{HasLoop}
use Rattle.custody_steps.specs.Steps.{tag_of}
use Rattle.custody_steps.specs.WorldFrom.{world_from}
use Rattle.custody_steps.specs.WorldOf.{world_of}
use Rattle.custody_steps.proofs.Keeping as keeping
use Rattle.custody_steps.proofs.Sendings.{none_begins, nowhere, no_room, too_long, loops}
use Rattle.custody_steps.proofs.world.World.begin.Goals as goal
use Rattle.tag_pattern.specs.Parts.{most_tag_bytes}

ok_no_err : {T E : Type 0} (x : T) (y : E) → Ok x ≡ Err y → ⊥
ok_no_err x y e = absurd cc

pub invariant_of-self : goal.invariant_of-self
invariant_of-self g c =
    let w = c.args.self.now in
    let m = c.in-Some.found.now in
    let at = sym c.in-Some.ensures in
    let no : ¬ HasLoop w.net.now c.in-Some-entrance.at c.in-Ok.tag m.entries = λ h. false≢true (sym c.if-branch.false ∙ c.in_ok-has_loop.ensures.1 h) in
    let d : Delivery = record { message = c.args.message; entrance = c.in-Some-entrance.at; tag = c.in-Ok.tag; appended = []; is_open = true } in
    let known = keeping.known_of w in
    let k = keeping.either c.begin.result c.begin.ensures.ok c.begin.ensures.err
    (λ e. keeping.known_opened w.net.now w.places w.book c.begin.new.self known d (w.book.room ++ 0 ∷ []) (slice_get_within w.book.messages c.args.message m at)
    (keeping.ends_of w.net.now w.book.messages c.args.message m c.in-Some-entrance.at c.in-Ok.tag at no) e)
    (λ e. keeping.known_again w.net.now w.places w.book c.begin.new.self known e) in
    record { answers = k.answers; closed = k.closed; sent = k.sent; ending = k.ending; shown = k.shown }

pub returns-in_err-begin-clause-answer : goal.returns-in_err-begin-clause-answer
returns-in_err-begin-clause-answer g c =
    let w = c.args.self.now in
    let at = sym c.in-Some.ensures in
    let p = err_from_is_err_and c.from_residual-in_err-begin.result c.from_residual-in_err-begin.ensures.1 in
    rw (p.1, p.2) (
      slice_get_within w.book.messages c.args.message c.in-Some.found.now at,
      rw (at, ← c.in-Some-entrance.ensures) refl,
      ap (world_from w.places) c.in_err-begin.ensures.err,
    )

pub returns-clause-answer : goal.returns-clause-answer
returns-clause-answer g c =
    let w = c.args.self.now in
    let m = c.in-Some.found.now in
    let at = sym c.in-Some.ensures in
    let tag_is = c.in-Ok.ensures.tag in
    let short : length (tag_of w.net.now m) ≤ most_tag_bytes = elim (cases_lt most_tag_bytes (length (tag_of w.net.now m))) [
      | inl long ↦ absurd (ok_no_err c.in-Ok.tag _ (c.in-Ok.ensures.too_long.1 long))
      | inr le ↦ le
    ] in
    let no : ¬ HasLoop w.net.now c.in-Some-entrance.at c.in-Ok.tag m.entries = λ h. false≢true (sym c.if-branch.false ∙ c.in_ok-has_loop.ensures.1 h) in
    let d : Delivery = record { message = c.args.message; entrance = c.in-Some-entrance.at; tag = c.in-Ok.tag; appended = []; is_open = true } in (
      slice_get_within w.book.messages c.args.message m at,
      rw (at, ← c.in-Some-entrance.ensures) (short, rw tag_is at no),
      keeping.opened_world w.places w.book c.begin.new.self d (w.book.room ++ 0 ∷ []) (w.closed c.in-Some-entrance.at.relay) c.in_ok-begin.ensures.ok ∙ rw (at, ← c.in-Some-entrance.ensures, ← tag_is) refl,
    )

pub returns-in_default-clause-answer : goal.returns-in_default-clause-answer
returns-in_default-clause-answer g c = none_begins c.args.self.now.net.now (world_of c.args.self.now) c.args.message c.in_default.ensures

pub returns-in_default-entrance-clause-answer : goal.returns-in_default-entrance-clause-answer
returns-in_default-entrance-clause-answer g c =
    let w = c.args.self.now in
    nowhere w.net.now (world_of w) c.args.message c.in-Some.found.now c.in-Some.ensures c.in_default-entrance.ensures

pub returns-in-Err-TagTooLong-clause-answer : goal.returns-in-Err-TagTooLong-clause-answer
returns-in-Err-TagTooLong-clause-answer g c =
    let w = c.args.self.now in
    too_long w.net.now (world_of w) c.args.message c.in-Some.found.now c.in-Some.ensures c.in-Some-entrance.at c.in-Some-entrance.ensures ((rw c.in-Err-TagTooLong.field-0-is at c.in-Err-TagTooLong.ensures.too_long).0 refl)

pub returns-in-Err-Memory-clause-answer : goal.returns-in-Err-Memory-clause-answer
returns-in-Err-Memory-clause-answer g c =
    let w = c.args.self.now in
    no_room w.net.now (world_of w) c.args.message c.in-Some.found.now c.in-Some.ensures c.in-Some-entrance.at c.in-Some-entrance.ensures

pub returns-in_err-has_loop-clause-answer : goal.returns-in_err-has_loop-clause-answer
returns-in_err-has_loop-clause-answer g c =
    let w = c.args.self.now in
    let p = err_from_is_err_and c.from_residual.result c.from_residual.ensures.1 in
    rw (p.1, p.2) (no_room w.net.now (world_of w) c.args.message c.in-Some.found.now c.in-Some.ensures c.in-Some-entrance.at c.in-Some-entrance.ensures)

pub returns-then-branch-clause-answer : goal.returns-then-branch-clause-answer
returns-then-branch-clause-answer g c =
    let w = c.args.self.now in
    let loop = rw c.in-Ok.ensures.tag at (c.in_ok-has_loop.ensures.0 c.if-branch.true) in
    loops w.net.now (world_of w) c.args.message c.in-Some.found.now c.in-Some.ensures c.in-Some-entrance.at c.in-Some-entrance.ensures loop
