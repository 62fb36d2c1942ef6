-- Patterns by the site that they are of: the places of a relay, of a scope in it and of a match in
-- that.
use Rattle.std.specs.Prelude.{◌≡◌, ◌↔◌, ℕ, List, [], map, Any, Contains}
use Rattle.std.specs.Option.{option_map_or}
use Rattle.std.specs.Ordering.{nat_cmp, ordering_then}
use Rattle.std.specs.declared.cmp.Ordering.{Ordering}
use Rattle.std.specs.BTreeMap.{get}
use Rattle.tag_pattern.specs.Items.{Item}
use Rattle.loss_rules.specs.Labels.{IsLabelOf, IsReachOf}
use Rattle.loss_rules.specs.declared.by_site.PatternsBySite.{PatternsBySite}
use Rattle.loss_rules.specs.declared.label.Label.{Label}
use Rattle.loss_rules.specs.declared.label.Reach.{Reach}

-- the order of sites
abbrev pub site_cmp : (ℕ × ℕ) × ℕ → (ℕ × ℕ) × ℕ → Ordering
site_cmp x y = ordering_then (ordering_then (nat_cmp x.0.0 y.0.0) (nat_cmp x.0.1 y.0.1))
    (nat_cmp x.1 y.1)

-- the lists of patterns of this site
abbrev pub patterns_at : {A : Type 0} → PatternsBySite A → (ℕ × ℕ) × ℕ → List (List (List Item))
patterns_at patterns site = option_map_or (λ lists. map (λ list. list.now) lists.items)
    (get site_cmp patterns.lists site) []

-- Of each scope they are the patterns of its labels, and no others.
abbrev pub AreLabelsBySite : {A : Type 0} → List (Label A) → PatternsBySite A → Type 0
AreLabelsBySite labels patterns = (place scope : ℕ) (list : List (List Item))
    → Contains (patterns_at patterns ((place, scope), 0)) list
    ↔ Any (λ label. IsLabelOf place scope label × (label.patterns.items ≡ list)) labels

-- Of each match they are the patterns of its reaches, and no others.
abbrev pub AreReachesBySite : {A : Type 0} → List (Reach A) → PatternsBySite A → Type 0
AreReachesBySite reaches patterns = (place scope rule : ℕ) (list : List (List Item))
    → Contains (patterns_at patterns ((place, scope), rule)) list
    ↔ Any (λ reach. IsReachOf place scope rule reach × (reach.patterns.items ≡ list)) reaches
