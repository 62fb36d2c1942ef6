-- The lines in which something is broken, in a list and in a configuration.
use Rattle.std.specs.Prelude.{◌≡◌, ◌<◌, ◌↔◌, ◌⊎◌, ℕ, List, Some, slice_get, Contains}
use Rattle.relay_conf.specs.declared.output.Output.{Output}
use Rattle.relay_conf.specs.declared.relay.MatchRule.{MatchRule}
use Rattle.relay_conf.specs.declared.relay.Relay.{Relay}
use Rattle.relay_net.specs.Network.{Network}
use Rattle.loss_rules.specs.Rules.{SharePath}
use Rattle.loss_rules.specs.Sites.{rule_at, line_of}
use Rattle.loss_rules.specs.declared.site.Site.{Site}

-- The lines in which this is broken are added to those before.
abbrev pub AddsLines : (ℕ → Type 0) → List ℕ → List ℕ → Type 0
AddsLines Breaks before after = (line : ℕ) → Contains after line
    ↔ (Contains before line ⊎ Breaks line)

-- They are added, and where there are none, all is kept.
pub record Adds (Kept : Type 0) (Breaks : ℕ → Type 0) (before after : List ℕ) : Type 0 where
  pub lines : AddsLines Breaks before after
  pub decided : Kept ⊎ ((line : ℕ) × Breaks line)

-- the site of a match
abbrev pub site_of : ℕ → ℕ → ℕ → Site
site_of place scope rule = record { place = place; scope = scope; rule = rule; output = 0 }

-- It is kept at each element of the list, by its place.
abbrev pub KeptInList : {X : Type 0} → (ℕ → X → Type 0) → List X → Type 0
KeptInList {X} Keeps xs = (place : ℕ) (x : X) → slice_get xs place ≡ Some x → Keeps place x

-- It is broken in this line at an element of the list.
abbrev pub BrokenInList : {X : Type 0} → (ℕ → X → ℕ → Type 0) → List X → ℕ → Type 0
BrokenInList {X} Breaks xs line = (place : ℕ) × (x : X) × (slice_get xs place ≡ Some x)
    × Breaks place x line

-- It holds of an element of the list before this place.
abbrev pub HoldsBefore : {X : Type 0} → (X → Type 0) → List X → ℕ → Type 0
HoldsBefore {X} P xs n = (place : ℕ) × (x : X) × (place < n) × (slice_get xs place ≡ Some x) × P x

-- It is kept at each match of the relay, by the places of its scope and of itself.
abbrev pub KeptInRelay : {A : Type 0} → (ℕ → ℕ → MatchRule A → Type 0) → Relay A → Type 0
KeptInRelay Keeps relay =
    KeptInList (λ scope found. KeptInList (Keeps scope) found.matches.items) relay.scopes.items

-- It is broken in this line at a match of the relay.
abbrev pub BrokenInRelay : {A : Type 0} → (ℕ → ℕ → MatchRule A → ℕ → Type 0) → Relay A → ℕ → Type 0
BrokenInRelay Breaks relay =
    BrokenInList (λ scope found. BrokenInList (Breaks scope) found.matches.items) relay.scopes.items

-- It is broken in this line at a match of the relay at this place.
abbrev pub BrokenInNet : {A : Type 0} → Network A → (ℕ → ℕ → ℕ → MatchRule A → ℕ → Type 0) → ℕ → ℕ
    → Type 0
BrokenInNet {A} net Breaks place line = (scope rule : ℕ) × (found : MatchRule A)
    × (rule_at net place scope rule ≡ Some found) × Breaks place scope rule found line

-- Another output than the one at this site, if it shares a path with it, stands in a later line.
abbrev pub StandsBehind : {A : Type 0} → Site → Output A → Site → Output A → Type 0
StandsBehind site found at other =
    ¬ ((at.scope ≡ site.scope) × (at.rule ≡ site.rule) × (at.output ≡ site.output))
    → SharePath other found → line_of found < line_of other
