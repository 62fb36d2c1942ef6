-- The faults that the sections of a configuration may have, in the order in which they are looked
-- for.
use Rattle.std.specs.Prelude.{ℕ, ◌||◌, ◌&&◌, ◌==◌, not, Bool, true, false, List, [], ◌∷◌, ◌++◌, codes, filter, length, map, Option, Some, None, if◌then◌else◌}
use Rattle.std.specs.List.{list_any, filter_map, flat_map, slice_split}
use Rattle.std.specs.Option.{option_map, option_map_or}
use Rattle.std.specs.Str.{bytes_eq}
use Rattle.conf_text.specs.Trees.{Heading, Setting, Tree, tree, Trees, no_trees, more_trees}
use Rattle.conf_values.specs.Words.{is_label_name}
use Rattle.relay_conf.specs.declared.fault.RelayFaultKind.{RelayFaultKind}
use Rattle.relay_conf.specs.declared.fault.RelayFaultKind.TheVariants as kinds
use Rattle.relay_conf.specs.declared.section.Section.{Section}
use Rattle.relay_conf.specs.declared.section.Section.TheVariants as sections
use Rattle.relay_conf.specs.declared.section.Opening.{Opening}
use Rattle.relay_conf.specs.declared.section.Opening.TheVariants as opening
use Rattle.relay_conf.specs.Elements.{lacks, value_of, tree_list}
use Rattle.relay_conf.specs.Words.{output_type_of, store_type_of}
use Rattle.relay_conf.specs.Sections.{profile_of, setting_fault, refusal}
use Rattle.relay_conf.specs.Findings.{Finding, a_fault, a_pattern}

-- a fault of this line, where the test holds
abbrev pub found_if : Bool → RelayFaultKind → ℕ → List Finding
found_if b kind line = if b then a_fault kind line ∷ [] else []

-- whether a text isn't empty
abbrev pub is_word : List ℕ → Bool
is_word text = not (length text == 0)

-- what tabs separate
abbrev pub tab_words : List ℕ → List (List ℕ)
tab_words text = filter is_word (slice_split (λ b. b == 9) text)

-- the words of a section's argument: what its spaces and tabs separate
unfoldable pub words_of : List ℕ → List (List ℕ)
words_of text = flat_map tab_words (slice_split (λ b. b == 32) text)

-- whether a text begins with `/`, as Fluentd's regular expressions do
abbrev pub begins_with_slash : List ℕ → Bool
begins_with_slash [] = false
begins_with_slash (b ∷ rest) = b == 47

-- a match has words, none of which begins with `/`, and each must be a pattern
abbrev pub patterns_found : List (List ℕ) → ℕ → List Finding
patterns_found words line =
    found_if (length words == 0 || list_any begins_with_slash words) kinds.OutOfProfile line
    ++ map (λ word. a_pattern word line) words

-- What is wrong with the way a section opens, by its place, name and argument. A buffer's chunk key
-- is the tag, written or not.
abbrev pub opening_found : Option Opening → Heading → List Finding
opening_found None h = a_fault (refusal h.name) h.line ∷ []
opening_found (Some opening.Match) h = patterns_found (words_of h.argument) h.line
opening_found (Some (opening.Plain sections.Label)) h =
    found_if (not (is_label_name h.argument)) kinds.BadValue h.line
opening_found (Some (opening.Plain sections.Buffer)) h =
    found_if (not (bytes_eq h.argument [] || bytes_eq h.argument (codes "tag"))) kinds.OutOfProfile
    h.line
opening_found (Some _) h = []

-- a section that must have a type
abbrev pub needs_type : Option Opening → Bool
needs_type (Some opening.Match) = true
needs_type (Some opening.Store) = true
needs_type (Some (opening.Plain sections.Source)) = true
needs_type _ = false

-- the section that an opening and a last type make; a match or a store that has no type is gone
-- through no further
abbrev pub section_of : Option Opening → Option (List ℕ) → Section
section_of None kind = sections.Passed
section_of (Some (opening.Plain section)) kind = section
section_of (Some opening.Match) kind = option_map_or (λ k. sections.Match (output_type_of k)) kind
    sections.Passed
section_of (Some opening.Store) kind = option_map_or (λ k. sections.Store (store_type_of k)) kind
    sections.Passed

-- what is wrong with the parameters of a section
abbrev pub settings_found : Section → List Setting → List Finding
settings_found section settings = filter_map
    (λ s. option_map (λ kind. a_fault kind s.line) (setting_fault section s.name s.value)) settings

-- what is wrong with a section before its children: its opening, its type, its parameters
abbrev pub front_found : Option Opening → Heading → List Setting → List Finding
front_found o h settings =
    opening_found o h
    ++ (found_if (needs_type o && lacks (codes "@type") settings) kinds.Missing h.line
    ++ settings_found (section_of o (value_of (codes "@type") settings)) settings)

-- the section that an element is, in another
abbrev pub section_in : Section → Heading → List Setting → Section
section_in parent h settings = section_of ((profile_of parent).sections h.name)
    (value_of (codes "@type") settings)

-- what is wrong with an element in a section, where what it lacks comes last, and with elements one
-- after the other
abbrev mutual
  pub tree_found : Section → Tree → List Finding
  tree_found parent (tree h settings children) =
      front_found ((profile_of parent).sections h.name) h settings
      ++ (trees_found (section_in parent h settings) children
      ++ found_if ((profile_of (section_in parent h settings)).lacks settings (tree_list children))
      kinds.Missing h.line)

  pub trees_found : Section → Trees → List Finding
  trees_found section no_trees = []
  trees_found section (more_trees t ts) = tree_found section t ++ trees_found section ts
