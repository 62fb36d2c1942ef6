use Rattle.std.proofs.Common.{◌<◌, length, ap, sym, ◌∙◌, arith}
use Rattle.std.specs.Cmp.Derive.{both_true}
use Rattle.std.specs.List.{list_all}
use Rattle.std.proofs.lemmas.List.{take_all}
use Rattle.std.proofs.lemmas.List.Folds.{list_all_at, list_all_more}
use Rattle.relay_conf.specs.declared.output.Output.{Output}
use Rattle.label_plan.specs.Clashes.{are_apart}
use Rattle.label_plan.proofs.sink.are_all_apart.Goals as goal

pub returns-then-not-are_apart : goal.returns-then-not-are_apart
returns-then-not-are_apart g c =
    let sink = c.args.sink.now in
    let less : c.loop-other.other-index < length c.args.outputs.now = omega arith in
    sym (list_all_at (λ (o : Output g.row.A.Denot). are_apart o sink) c.args.outputs.now c.loop-other.other-index c.other-item.result less
    (ap (λ (o : Output g.row.A.Denot). are_apart o sink) (sym c.other-item.is) ∙ sym c.are_apart.ensures ∙ c.if-not-are_apart.true))

pub loop-other-preserved : goal.loop-other-preserved
loop-other-preserved g c =
    let sink = c.args.sink.now in
    let less : c.loop-other.other-index < length c.args.outputs.now = omega arith in
    list_all_more (λ (o : Output g.row.A.Denot). are_apart o sink) c.args.outputs.now c.loop-other.other-index c.other-item.result less
    ∙ both_true c.loop-other.invariant (ap (λ (o : Output g.row.A.Denot). are_apart o sink) (sym c.other-item.is) ∙ sym c.are_apart.ensures ∙ c.if-not-are_apart.false)

pub returns : goal.returns
returns g c = sym (ap (list_all (λ (o : Output g.row.A.Denot). are_apart o c.args.sink.now)) (sym (take_all c.loop-other.other-index c.args.outputs.now (omega arith))) ∙ c.loop-other.invariant)
