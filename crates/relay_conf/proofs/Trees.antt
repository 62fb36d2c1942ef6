-- The parts of an element, as code reads them.
use Rattle.std.proofs.Common.{◌≡◌, List, [], ◌∷◌, map, refl, sym, ap, ◌∙◌}
use Rattle.std.specs.Prelude.{string_bytes}
use Rattle.conf_text.specs.declared.element.Element.{Element, out-Element}
use Rattle.conf_text.specs.Trees.{Tree, trees}
use Rattle.conf_text.specs.Views.{setting, tree_of}
use Rattle.conf_text.proofs.Elements.{tree_of_out}
use Rattle.relay_conf.specs.Elements.{tree_list, heading_of, settings_of, children_of}

pub tree_list_trees : (ts : List Tree) → tree_list (trees ts) ≡ ts
tree_list_trees [] = refl
tree_list_trees (t ∷ ts) = ap (λ (rest : List Tree). t ∷ rest) (tree_list_trees ts)

pub name_is : {A : Type 0} (e : Element A) → string_bytes (out-Element A e).name ≡ (heading_of (tree_of e)).name
name_is e = ap (λ (t : Tree). (heading_of t).name) (sym (tree_of_out e))

pub argument_is : {A : Type 0} (e : Element A) → string_bytes (out-Element A e).argument ≡ (heading_of (tree_of e)).argument
argument_is e = ap (λ (t : Tree). (heading_of t).argument) (sym (tree_of_out e))

pub line_is : {A : Type 0} (e : Element A) → (out-Element A e).line ≡ (heading_of (tree_of e)).line
line_is e = ap (λ (t : Tree). (heading_of t).line) (sym (tree_of_out e))

pub settings_are : {A : Type 0} (e : Element A) → map setting (out-Element A e).pairs.items ≡ settings_of (tree_of e)
settings_are e = ap (λ (t : Tree). settings_of t) (sym (tree_of_out e))

pub children_are : {A : Type 0} (e : Element A) → map tree_of (out-Element A e).children.items ≡ children_of (tree_of e)
children_are {A} e = sym (ap (λ (t : Tree). children_of t) (tree_of_out e) ∙ tree_list_trees (map tree_of (out-Element A e).children.items))
