-- The labels of a configuration, and where they are named.
use Rattle.std.specs.Prelude.{ℕ, ◌+◌, ◌&&◌, not, Bool, List, [], ◌∷◌, ◌++◌, codes, filter, map, take}
use Rattle.std.specs.List.{flat_map, list_any}
use Rattle.std.specs.Str.{bytes_eq}
use Rattle.conf_text.specs.Trees.{Setting, Tree}
use Rattle.relay_conf.specs.declared.fault.RelayFaultKind.TheVariants as kinds
use Rattle.relay_conf.specs.Elements.{heading_of, is_named, settings_of, tree_elements}
use Rattle.relay_conf.specs.Findings.{Finding}
use Rattle.relay_conf.specs.Examined.{found_if}

-- the labels that sections have, in the order of the text
abbrev pub labels_of : List Tree → List (List ℕ)
labels_of elements = map (λ t. (heading_of t).argument) (filter (is_named (codes "label")) elements)

-- whether some section has this label
abbrev pub has_label : List ℕ → List Tree → Bool
has_label name elements = list_any (λ label. bytes_eq label name) (labels_of elements)

-- an `@label` line names a label that some section has
abbrev pub target_found : List Tree → Setting → List Finding
target_found elements s =
    found_if (bytes_eq s.name (codes "@label")
    && not (has_label s.value elements)) kinds.NoSuchLabel s.line

-- the same of all parameters in an element
abbrev pub tree_targets : List Tree → Tree → List Finding
tree_targets elements t = flat_map (λ e. flat_map (target_found elements) (settings_of e))
    (tree_elements t)

-- no two sections have one label: the later one is the fault
abbrev pub double_found : List Tree → Tree → List Finding
double_found before t =
    found_if (is_named (codes "label") t && has_label (heading_of t).argument before)
    kinds.DoubleName (heading_of t).line

-- what is wrong with the labels of these elements, which begin at place k of all
abbrev pub labels_from : List Tree → ℕ → List Tree → List Finding
labels_from elements k [] = []
labels_from elements k (t ∷ ts) = double_found (take k elements) t
    ++ (tree_targets elements t ++ labels_from elements (k + 1) ts)
