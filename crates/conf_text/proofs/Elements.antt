-- The tree of an element, where it is made and where it is opened.
use Rattle.std.proofs.Common.{◌≡◌, map}
use Rattle.std.specs.Prelude.{string_bytes}
use Rattle.conf_text.specs.declared.element.Element.{Element, out-Element}
use Rattle.conf_text.specs.declared.element.Element.TheOpen.{Element-F}
use Rattle.conf_text.specs.declared.element.Element.TheViews.{roll-Element}
use Rattle.conf_text.specs.declared.element.Element.TheFolds.{fold-roll-Element, fold_out-Element}
use Rattle.conf_text.specs.Trees.{Tree, tree, trees}
use Rattle.conf_text.specs.Reading.{headed}
use Rattle.conf_text.specs.Views.{setting, tree_step, tree_of}

pub tree_of_roll : {A : Type 0} (e : Element-F A (Element A)) → tree_of (roll-Element A e) ≡ tree (headed (string_bytes e.name) (string_bytes e.argument) e.line) (map setting e.pairs.items) (trees (map tree_of e.children.items))
tree_of_roll {A = A} e = fold-roll-Element A Tree (tree_step {A = A}) e

pub tree_of_out : {A : Type 0} (e : Element A) → tree_of e ≡ tree (headed (string_bytes (out-Element A e).name) (string_bytes (out-Element A e).argument) (out-Element A e).line) (map setting (out-Element A e).pairs.items) (trees (map tree_of (out-Element A e).children.items))
tree_of_out {A = A} e = fold_out-Element A Tree (tree_step {A = A}) e
