use Rattle.std.proofs.Common.{◌≡◌, ◌∙◌, ◌++◌, ℕ, List, length, map, take, drop, refl, sym, ap, subst, arith}
use Rattle.std.specs.Borrow.{Bor}
use Rattle.std.specs.Prelude.{All}
use Rattle.std.proofs.lemmas.List.{take-append-drop, drop-map}
use Rattle.std.proofs.lemmas.List.Elements.{All-map}
use Rattle.label_plan.specs.Lines.{IsLabelLine}
use Rattle.label_plan.proofs.Nones.{weaker}
use Rattle.label_plan.proofs.certificate.only_adds.Goals as goal

abbrev now : Bor (List ℕ) → List ℕ
now line = line.now

pub returns : goal.returns
returns g c =
    let all = c.in_ok-all.all.items in
    let own = c.in_ok-own.own.items in
    let n = length own in
    let as_long : length c.deref-else-len.result.now ≡ length own = ap (λ (ls : List (Bor (List ℕ))). length ls) c.deref-else-len.ensures.value in
    let is_len = c.deref-else-len.ensures.len in
    let answered = c.len-3.ensures in
    let count : c.len-3.result ≡ length own = omega (arith, as_long, is_len, answered) in
    let front : take n (map now all) ≡ map now own = subst (λ (ls : List (Bor (List ℕ))). take (length ls) (map now all) ≡ map now ls) c.deref-else-len.ensures.value (subst (λ (ls : List (Bor (List ℕ))). take (length c.deref-else-len.result.now) (map now ls) ≡ map now c.deref-else-len.result.now) c.deref.ensures.value (c.if-not-begin_with.ensures refl)) in
    weaker c.are_label_lines.result c.are_label_lines.ensures (λ labels. record {
      lines = drop n (map now all);
      lines_are = sym c.in_ok-all.ensures ∙ sym (take-append-drop n (map now all)) ∙ ap (λ ls. ls ++ drop n (map now all)) (front ∙ c.in_ok-own.ensures);
      labels = subst (All IsLabelLine) (sym (drop-map now n all)) (All-map IsLabelLine now (drop n all) (subst (All (λ (line : Bor (List ℕ)). IsLabelLine line.now)) (c.split_at.ensures.back ∙ ap (drop c.len-3.result) c.deref-2.ensures.value ∙ ap (λ (m : ℕ). drop m all) count) labels));
    })
