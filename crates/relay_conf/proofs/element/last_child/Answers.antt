use Rattle.std.proofs.Common.{◌≡◌, ◌∙◌, ◌+◌, sym, map, drop, Some, List, ℕ, ◌∷◌, Option, None, true, false, refl}
use Rattle.std.specs.Option.{option_or}
use Rattle.std.proofs.lemmas.List.{drop_all}
use Rattle.conf_text.specs.Trees.{Tree}
use Rattle.conf_text.specs.Views.{tree_of}
use Rattle.relay_conf.specs.Elements.{is_named, last_child}
use Rattle.relay_conf.proofs.Drops.{drop_is}
use Rattle.relay_conf.proofs.LastValues.{last_found}
use Rattle.relay_conf.proofs.element.last_child.Goals as goal
use Rattle.relay_conf.proofs.element.last_child.Goals.{then-is_named, else-is_named}

-- an element behind is found first, and else this one
this_or_behind : (rest : Option Tree) (t : Tree) (before : Option Tree) → option_or (option_or rest (Some t)) before ≡ option_or rest (Some t)
this_or_behind None t before = refl
this_or_behind (Some u) t before = refl

-- where this one is none, what was found before stays
before_or_behind : (rest before : Option Tree) → option_or (option_or rest None) before ≡ option_or rest before
before_or_behind None before = refl
before_or_behind (Some u) before = refl

-- an element of the name is found in the place of any before it
found_here : (name : List ℕ) (t : Tree) (ts : List Tree) (before all : Option Tree) → is_named name t ≡ true
    → option_or (last_child name (t ∷ ts)) before ≡ all → option_or (last_child name ts) (Some t) ≡ all
found_here name t ts before all full so_far =
    let next = rw (last_found (is_named name) t ts, full) at so_far in
    sym (this_or_behind (last_child name ts) t before) ∙ next

-- another one is passed
found_behind : (name : List ℕ) (t : Tree) (ts : List Tree) (before all : Option Tree) → is_named name t ≡ false
    → option_or (last_child name (t ∷ ts)) before ≡ all → option_or (last_child name ts) before ≡ all
found_behind name t ts before all empty so_far =
    let next = rw (last_found (is_named name) t ts, empty) at so_far in
    sym (before_or_behind (last_child name ts) before) ∙ next

pub loop-child-preserved : goal.loop-child-preserved
loop-child-preserved g c =
    let xs = c.args.children.now in
    let k = c.loop-child.child-index in
    let here = drop_is xs k c.child-item.result c.loop-child-test.true c.child-item.is in
    let so_far = rw here at c.loop-child.invariant in
    elim c.if-is_named.branch [
      | then-is_named w ↦ rw w.found-is (found_here c.args.name.now (tree_of c.child-item.result) (map tree_of (drop (k + 1) xs)) _ _ (sym c.is_named.ensures ∙ w.if-is_named.true) so_far)
      | else-is_named w ↦ rw w.found-is (found_behind c.args.name.now (tree_of c.child-item.result) (map tree_of (drop (k + 1) xs)) _ _ (sym c.is_named.ensures ∙ w.if-is_named.false) so_far)
    ]

pub returns : goal.returns
returns g c =
    let none = drop_all c.loop-child.child-index c.args.children.now c.loop-child-test.false in
    rw none at c.loop-child.invariant
