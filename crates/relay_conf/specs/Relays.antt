-- What a relay's configuration means as a whole.
use Rattle.std.specs.Prelude.{◌≡◌, ℕ, List, [], ◌∷◌, codes, filter, unwrap_or, if◌then◌else◌, string_bytes}
use Rattle.std.specs.List.{AllZip, flat_map}
use Rattle.std.specs.Str.{bytes_eq}
use Rattle.conf_text.specs.Grammar.{top}
use Rattle.conf_text.specs.Trees.{Tree, tree, trees}
use Rattle.tag_pattern.specs.Items.{Item}
use Rattle.tag_pattern.specs.Grammar.{Slot, IsPattern, plain_patterns}
use Rattle.relay_conf.specs.declared.relay.Relay.{Relay}
use Rattle.relay_conf.specs.declared.relay.Scope.{Scope}
use Rattle.relay_conf.specs.declared.relay.MatchRule.{MatchRule}
use Rattle.relay_conf.specs.Elements.{heading_of, settings_of, children_of, value_of, is_named}
use Rattle.relay_conf.specs.Examined.{words_of}
use Rattle.relay_conf.specs.Meaning.{numbered}
use Rattle.relay_conf.specs.Described.{IsSourceOf, IsOutputOf}

-- the patterns that some words stand for, one word after the other
abbrev pub AreOfWords : List (List ℕ) → List (List Item) → Type 0
AreOfWords words plains = (slots : List (List Slot)) × AllZip IsPattern slots words
    × (plains ≡ flat_map plain_patterns slots)

-- a match, before which n buffers stand in the text of these elements: its outputs are its stores
-- where it is a copy, else itself
pub record IsMatchOf {A : Type 0} (elements : List Tree) (n : ℕ) (t : Tree)
    (rule : MatchRule A) : Type 0 where
  pub patterns : AreOfWords (words_of (heading_of t).argument) rule.patterns.items
  pub outputs : AllZip (λ p o. IsOutputOf elements p.0 p.1 o)
      (if bytes_eq (unwrap_or (value_of (codes "@type") (settings_of t)) []) (codes "copy")
      then numbered (codes "store") n (children_of t) else (n, t) ∷ []) rule.outputs.items
  pub line : rule.line ≡ (heading_of t).line

-- a scope, before which n buffers stand: its label, and the matches of its section
pub record IsScopeOf {A : Type 0} (elements : List Tree) (n : ℕ) (t : Tree)
    (scope : Scope A) : Type 0 where
  pub name : string_bytes scope.name ≡ (heading_of t).argument
  pub matches : AllZip (λ p rule. IsMatchOf elements p.0 p.1 rule)
      (numbered (codes "match") n (children_of t)) scope.matches.items

-- The relay that the elements describe: its sources, and its scopes, in the order of the text. The
-- first scope is the main one, as of a section without a name that has all elements.
pub record IsRelayOf {A : Type 0} (elements : List Tree) (relay : Relay A) : Type 0 where
  pub sources : AllZip (λ t source. IsSourceOf elements t source)
      (filter (is_named (codes "source")) elements) relay.sources.items
  pub scopes : AllZip (λ p scope. IsScopeOf elements p.0 p.1 scope)
      ((0, tree top [] (trees elements)) ∷ numbered (codes "label") 0 elements)
      relay.scopes.items
