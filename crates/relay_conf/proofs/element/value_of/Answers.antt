use Rattle.std.proofs.Common.{◌≡◌, ap, ◌∙◌, Option, Bor, List, ℕ}
use Rattle.std.specs.Option.{option_copied, option_or}
use Rattle.conf_text.specs.Views.{setting}
use Rattle.relay_conf.proofs.LastValues.{value_in, value_here, value_before, next_value, last_value}
use Rattle.relay_conf.proofs.element.value_of.Goals as goal
use Rattle.relay_conf.proofs.element.value_of.Goals.{then-eq, else-eq}

pub loop-pair-preserved : goal.loop-pair-preserved
loop-pair-preserved g c =
    let name = c.args.name.now in
    let pair = c.pair-item.result in
    let made : option_copied c.if-eq.found ≡ option_or (value_in name (setting pair)) (option_copied c.loop-pair.found) = elim c.if-eq.branch [
      | then-eq w ↦ ap (λ (o : Option (Bor (List ℕ))). option_copied o) w.found-is ∙ value_here name c.as_str.result.now w.as_str-then-eq.result.now (setting pair) c.eq.result (option_copied c.loop-pair.found) c.eq.ensures c.as_str.ensures.value w.if-eq.true w.as_str-then-eq.ensures.value
      | else-eq w ↦ ap (λ (o : Option (Bor (List ℕ))). option_copied o) w.found-is ∙ value_before name c.as_str.result.now (setting pair) c.eq.result (option_copied c.loop-pair.found) c.eq.ensures c.as_str.ensures.value w.if-eq.false
    ] in
    next_value name c.args.pairs.now c.loop-pair.pair-index pair (option_copied c.loop-pair.found) _ _ c.loop-pair-test.true c.pair-item.is made c.loop-pair.invariant

pub returns : goal.returns
returns g c = last_value c.args.name.now c.args.pairs.now c.loop-pair.pair-index _ _ c.loop-pair-test.false c.loop-pair.invariant
