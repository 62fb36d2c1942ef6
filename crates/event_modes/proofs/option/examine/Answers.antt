use Rattle.std.proofs.Common.{ℕ, List, ◌∷◌, ◌∙◌, ap}
use Rattle.std.proofs.lemmas.Result.{err_from_is_err_and}
use Rattle.event_modes.proofs.Walked.{no_odd, examined_start, examined_more, examined_end, examined_bad, two_texts}
use Rattle.event_modes.proofs.option.examine.Goals as goal

pub loop-key-init : goal.loop-key-init
loop-key-init c = examined_start c.args.items c.requires

pub examine_pair-requires-clause-key : goal.examine_pair-requires-clause-key
examine_pair-requires-clause-key c = (two_texts c.args.items c.loop-key.items c.in-Some.key.now c.in-Some-next.value.now c.next-in-Some.new.self c.next.new.self c.loop-key.invariant.walk c.in-Some.ensures.steps c.in-Some-next.ensures.steps).0

pub examine_pair-requires-clause-value : goal.examine_pair-requires-clause-value
examine_pair-requires-clause-value c = (two_texts c.args.items c.loop-key.items c.in-Some.key.now c.in-Some-next.value.now c.next-in-Some.new.self c.next.new.self c.loop-key.invariant.walk c.in-Some.ensures.steps c.in-Some-next.ensures.steps).1

pub loop-key-preserved : goal.loop-key-preserved
loop-key-preserved c = examined_more c.args.items c.loop-key.items c.in-Some.key.now c.in-Some-next.value.now c.next-in-Some.new.self c.next.new.self c.loop-key.invariant c.in-Some.ensures.steps c.in-Some-next.ensures.steps c.in_ok-examine_pair.ensures

pub returns-in_err-examine_pair : goal.returns-in_err-examine_pair
returns-in_err-examine_pair c = λ pairs a.
    let p = err_from_is_err_and c.from_residual.result c.from_residual.ensures.1 in
    rw (p.1, p.2) (examined_bad c.args.items c.loop-key.items c.in-Some.key.now c.in-Some-next.value.now c.next-in-Some.new.self c.next.new.self pairs c.in_err-examine_pair.field-0.0
    c.loop-key.invariant c.in-Some.ensures.steps c.in-Some-next.ensures.steps a c.in_err-examine_pair.ensures)

pub returns-in_default-next : goal.returns-in_default-next
returns-in_default-next c = λ pairs a. absurd (no_odd c.args.items c.loop-key.items c.in-Some.key.now c.loop-key.invariant.walk
    (c.in-Some.ensures.steps ∙ ap (λ (z : List (List ℕ)). c.in-Some.key.now ∷ z) c.in_default-next.ensures.steps.0))

pub returns-in_default : goal.returns-in_default
returns-in_default c = λ pairs a. examined_end c.args.items c.loop-key.items pairs c.loop-key.invariant c.in_default.ensures.steps.0 a
