use Rattle.std.proofs.Common.{◌≡◌, ◌∙◌, rules, true, refl, sym, Contains}
use Rattle.std.proofs.lemmas.Bool.{false≢true}
use Rattle.custody_store.specs.Buffers.{CanTake}
use Rattle.custody_store.specs.Book.{Message, Delivery}
use Rattle.custody_steps.specs.Steps.{CanAppend}
use Rattle.custody_steps.specs.WorldOf.{world_of}
use Rattle.custody_steps.proofs.Keeping as keeping
use Rattle.custody_steps.proofs.Taken.{taken_or_full}
use Rattle.custody_steps.proofs.world.World.append.Goals as goal

pub returns-then-not-has_output-clause-answer : goal.returns-then-not-has_output-clause-answer
returns-then-not-has_output-clause-answer g c = (λ h. false≢true (c.if-not-has_output.ensures.1 h), refl)

pub returns-in-Ok-true-clause-answer : goal.returns-in-Ok-true-clause-answer
returns-in-Ok-true-clause-answer g c =
    let w = c.args.self.now in
    let may = c.in-Ok-true.ensures.ok.0 (search rules) in
    let P : Delivery → Message → Type 0 = λ d m. CanAppend w.net.now (world_of w) d m c.args.buffer c.args.serial in
    let Q : Delivery → Message → Type 0 = λ d m. (d.is_open ≡ true) × (¬ Contains d.appended c.args.buffer) × CanTake ((world_of w).buffers d.entrance.relay c.args.buffer) d.tag c.args.serial in
    taken_or_full c.append_there.result _ _ _ _ _ _ (c.if-not-has_output.ensures.0 refl) may (keeping.weaker_of (world_of w) c.args.delivery P Q (λ d m a. (a.is_open, a.is_new, a.can_take)) may) c.append_there.ensures.ok c.append_there.ensures.err

pub returns-in-Ok-false-clause-answer : goal.returns-in-Ok-false-clause-answer
returns-in-Ok-false-clause-answer g c =
    (c.if-not-has_output.ensures.0 refl, λ h. (let said = c.in-Ok-false.ensures.ok.1 h in false≢true (sym c.in-Ok-false.field-0-test ∙ said)), refl)

pub returns-in-Err-clause-answer : goal.returns-in-Err-clause-answer
returns-in-Err-clause-answer g c = (c.if-not-has_output.ensures.0 refl, c.in-Err.ensures.err, refl)
