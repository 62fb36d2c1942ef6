-- Going through the labels that elements name, and through the sections of labels.
use Rattle.std.proofs.Common.{◌≡◌, ◌+◌, ◌<◌, ℕ, List, [], ◌∷◌, ◌++◌, Bool, true, false, ◌&&◌, ◌||◌, if◌then◌else◌, map, take, drop, length, get_or, refl, ap, ◌∙◌, zero, suc}
use Rattle.std.specs.Prelude.{codes, filter}
use Rattle.std.specs.List.{flat_map, list_any}
use Rattle.std.specs.Str.{bytes_eq}
use Rattle.std.proofs.lemmas.Grind.{flat_map-append}
use Rattle.conf_text.specs.declared.element.Element.{Element, out-Element}
use Rattle.conf_text.specs.Trees.{Heading, Setting, Tree, tree, Trees, trees}
use Rattle.conf_text.specs.Views.{tree_of}
use Rattle.conf_text.proofs.Elements.{tree_of_out}
use Rattle.relay_conf.specs.Elements.{heading_of, settings_of, is_named, tree_elements, trees_elements}
use Rattle.relay_conf.specs.Findings.{Finding}
use Rattle.relay_conf.specs.Labels.{has_label, target_found, tree_targets, double_found, labels_from}
use Rattle.relay_conf.proofs.Drops.{drop_is}

-- the labels that are named in elements one after the other
abbrev pub trees_targets : List Tree → Trees → List Finding
trees_targets all ts = flat_map (λ e. flat_map (target_found all) (settings_of e)) (trees_elements ts)

targets_at : (all : List Tree) (t : Tree) (h : Heading) (s : List Setting) (kids : List Tree) → t ≡ tree h s (trees kids) → is_named (codes "system") t ≡ false
    → tree_targets all t ≡ flat_map (target_found all) (settings_of t) ++ trees_targets all (trees kids)
targets_at all t h s kids e b =
    let c = rw e at b in
    rw (e, c) refl

-- the labels that an element names, by its parts
pub targets_are : {A : Type 0} (all : List Tree) (e : Element A) → is_named (codes "system") (tree_of e) ≡ false
    → tree_targets all (tree_of e) ≡ flat_map (target_found all) (settings_of (tree_of e)) ++ trees_targets all (trees (map tree_of (out-Element A e).children.items))
targets_are {A} all e b = targets_at all (tree_of e) _ _ (map tree_of (out-Element A e).children.items) (tree_of_out e) b

-- the child at k, and those behind it
pub targets_step : {A : Type 0} (all : List Tree) (kids : List (Element A)) (k : ℕ) (x : Element A) → k < length kids → x ≡ get_or kids k x
    → trees_targets all (trees (map tree_of (drop k kids))) ≡ tree_targets all (tree_of x) ++ trees_targets all (trees (map tree_of (drop (k + 1) kids)))
targets_step {A} all kids k x lt is =
    ap (λ (xs : List (Element A)). trees_targets all (trees (map tree_of xs))) (drop_is kids k x lt is)
    ∙ flat_map-append (λ e. flat_map (target_found all) (settings_of e)) (tree_elements (tree_of x)) (trees_elements (trees (map tree_of (drop (k + 1) kids))))

-- whether an element is the section of this label
abbrev pub is_label_of : List ℕ → Tree → Bool
is_label_of name t = is_named (codes "label") t && bytes_eq (heading_of t).argument name

-- a label is that of some section
pub has_label_is : (name : List ℕ) (ts : List Tree) → list_any (is_label_of name) ts ≡ has_label name ts
has_label_is name [] = refl
has_label_is name (t ∷ ts) = by (is_named (codes "label") t) (has_label_is name ts)
  where
    by : (b : Bool) → list_any (is_label_of name) ts ≡ has_label name ts → ((b && bytes_eq (heading_of t).argument name) || list_any (is_label_of name) ts)
        ≡ list_any (λ label. bytes_eq label name) (map (λ u. (heading_of u).argument) (if b then t ∷ filter (is_named (codes "label")) ts else filter (is_named (codes "label")) ts))
    by true h = ap (λ b. bytes_eq (heading_of t).argument name || b) h
    by false h = h

map_take : {X Y : Type 0} (f : X → Y) (k : ℕ) (xs : List X) → map f (take k xs) ≡ take k (map f xs)
map_take f zero xs = refl
map_take f (suc k) [] = refl
map_take f (suc k) (x ∷ xs) = rw (map_take f k xs) refl

-- the element at k, and those behind it
pub labels_step : {A : Type 0} (xs : List (Element A)) (k : ℕ) (x : Element A) → k < length xs → x ≡ get_or xs k x
    → labels_from (map tree_of xs) k (map tree_of (drop k xs)) ≡ double_found (map tree_of (take k xs)) (tree_of x) ++ (tree_targets (map tree_of xs) (tree_of x) ++ labels_from (map tree_of xs) (k + 1) (map tree_of (drop (k + 1) xs)))
labels_step xs k x lt is = rw (drop_is xs k x lt is, map_take tree_of k xs) refl
