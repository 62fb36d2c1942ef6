use Rattle.std.proofs.Common.{◌≡◌, ◌∙◌, ◌+◌, sym, map, drop, List, ℕ, ◌∷◌, true, false, ap, arith}
use Rattle.std.specs.Prelude.{codes}
use Rattle.std.specs.List.{position_or_len}
use Rattle.std.specs.Str.{bytes_eq}
use Rattle.std.proofs.lemmas.List.{drop_all}
use Rattle.conf_text.specs.Trees.{Tree}
use Rattle.conf_text.specs.declared.element.Element.{Element}
use Rattle.conf_text.specs.Views.{tree_of}
use Rattle.relay_conf.specs.Elements.{heading_of, is_named}
use Rattle.relay_conf.specs.Labels.{labels_of}
use Rattle.relay_conf.proofs.Drops.{drop_is}
use Rattle.relay_conf.proofs.target.scope_of.Goals as goal
use Rattle.relay_conf.proofs.target.scope_of.Goals.{then-is_named+else-eq, else-is_named}

-- a label of another name counts
counted : (name : List ℕ) (n s : ℕ) (t : Tree) (ts all : List Tree) → all ≡ t ∷ ts → is_named (codes "label") t ≡ true → bytes_eq (heading_of t).argument name ≡ false
    → n + position_or_len (λ label. bytes_eq label name) (labels_of all) ≡ s → (n + 1) + position_or_len (λ label. bytes_eq label name) (labels_of ts) ≡ s
counted name n s t ts all here label other so_far =
    let e = rw (here, label, other) at so_far in
    omega (arith, e)

-- what is no label is passed
passed : (name : List ℕ) (n s : ℕ) (t : Tree) (ts all : List Tree) → all ≡ t ∷ ts → is_named (codes "label") t ≡ false
    → n + position_or_len (λ label. bytes_eq label name) (labels_of all) ≡ s → n + position_or_len (λ label. bytes_eq label name) (labels_of ts) ≡ s
passed name n s t ts all here other so_far = rw (here, other) at so_far

-- the label of this name is found
found : (name : List ℕ) (n s : ℕ) (t : Tree) (ts all : List Tree) → all ≡ t ∷ ts → is_named (codes "label") t ≡ true → bytes_eq (heading_of t).argument name ≡ true
    → n + position_or_len (λ label. bytes_eq label name) (labels_of all) ≡ s → n ≡ s
found name n s t ts all here label same so_far =
    let e = rw (here, label, same) at so_far in
    omega (arith, e)

pub loop-element-preserved : goal.loop-element-preserved
loop-element-preserved g c =
    let xs = c.args.elements.now in
    let k = c.loop-element.element-index in
    let t = tree_of c.element-item.result in
    let here = ap (λ (ys : List (Element g.row.A.Denot)). map tree_of ys) (drop_is xs k c.element-item.result c.loop-element-test.true c.element-item.is) in
    elim c.if-is_named.branch [
      | then-is_named+else-eq w ↦ rw w.number-is record {
        small = omega (arith, c.loop-element.invariant.small);
        so_far = counted c.args.name.now c.loop-element.number _ t (map tree_of (drop (k + 1) xs)) (map tree_of (drop k xs)) here (sym c.is_named.ensures ∙ w.if-is_named.true) (ap (λ (a : List ℕ). bytes_eq a c.args.name.now) (sym w.argument_of.ensures) ∙ (sym w.eq.ensures ∙ w.if-eq.false)) c.loop-element.invariant.so_far;
      }
      | else-is_named w ↦ rw w.number-is record {
        small = omega (arith, c.loop-element.invariant.small);
        so_far = passed c.args.name.now c.loop-element.number _ t (map tree_of (drop (k + 1) xs)) (map tree_of (drop k xs)) here (sym c.is_named.ensures ∙ w.if-is_named.false) c.loop-element.invariant.so_far;
      }
    ]

pub returns-then-eq : goal.returns-then-eq
returns-then-eq g c =
    let xs = c.args.elements.now in
    let k = c.loop-element.element-index in
    let t = tree_of c.element-item.result in
    let here = ap (λ (ys : List (Element g.row.A.Denot)). map tree_of ys) (drop_is xs k c.element-item.result c.loop-element-test.true c.element-item.is) in
    found c.args.name.now c.loop-element.number _ t (map tree_of (drop (k + 1) xs)) (map tree_of (drop k xs)) here (sym c.is_named.ensures ∙ c.if-is_named.true) (ap (λ (a : List ℕ). bytes_eq a c.args.name.now) (sym c.argument_of.ensures) ∙ (sym c.eq.ensures ∙ c.if-eq.true)) c.loop-element.invariant.so_far

pub returns : goal.returns
returns g c =
    let none = drop_all c.loop-element.element-index c.args.elements.now c.loop-element-test.false in
    let so_far = rw none at c.loop-element.invariant.so_far in
    omega (arith, so_far)
