-- Every place where a rule is broken.
use Rattle.std.specs.Prelude.{◌≡◌, ◌↔◌, ◌⊎◌, ◌+◌, ℕ, List, [], ◌∷◌, ◌++◌, map, Some, slice_get, slice_index_or, Contains, IsSome}
use Rattle.std.specs.List.Sorted.{IsStrictlyIncreasing}
use Rattle.relay_conf.specs.declared.output.Output.{Output}
use Rattle.relay_conf.specs.declared.output.Server.{Server}
use Rattle.relay_conf.specs.declared.relay.MatchRule.{MatchRule}
use Rattle.relay_net.specs.Network.{Network, entrance, address_of_server}
use Rattle.relay_net.specs.declared.node.Client.{Client}
use Rattle.relay_net.specs.declared.node.Node.{Node}
use Rattle.loss_rules.specs.Breaks.{Subject, asked, BreaksAtSource, IsFirstOfPath}
use Rattle.loss_rules.specs.Labels.{IsReached}
use Rattle.loss_rules.specs.Rules.{RelayIsNew, IsLabelledClient, IsMatchedLabel, IsCoveredLabel, DoesDuty, IsLabelledRelabel, IsLabelledServer, IsOnNoCycle}
use Rattle.loss_rules.specs.Sites.{MatchStands, OutputStands, ServerStands}
use Rattle.loss_rules.specs.declared.answer.Place.{Place}
use Rattle.loss_rules.specs.declared.answer.Place.TheVariants as place
use Rattle.loss_rules.specs.declared.answer.Rule.{Rule}
use Rattle.loss_rules.specs.declared.answer.Rule.TheVariants as rule
use Rattle.loss_rules.specs.declared.label.Label.{Label}
use Rattle.loss_rules.specs.declared.label.RelayLine.{RelayLine}

-- In this line of the relay's configuration this isn't so of a match.
abbrev pub BreaksAtMatch : {A : Type 0} → Network A → (ℕ → ℕ → ℕ → MatchRule A → Type 0) → ℕ → ℕ
    → Type 0
BreaksAtMatch net P place line =
    (asked (MatchStands net place line) (λ x. P place x.0 x.1 x.2)).broken

-- Of an output.
abbrev pub BreaksAtOutput : {A : Type 0} → Network A → (ℕ → ℕ → ℕ → ℕ → Output A → Type 0) → ℕ → ℕ
    → Type 0
BreaksAtOutput net P place line =
    (asked (OutputStands net place line) (λ x. P place x.0 x.1 x.2 x.3)).broken

-- Of a server of an output.
abbrev pub BreaksAtServer : {A : Type 0} → Network A → (ℕ → ℕ → ℕ → Server A → Type 0) → ℕ → ℕ
    → Type 0
BreaksAtServer net P place line =
    (asked (ServerStands net place line) (λ x. P place x.0 x.1 x.4)).broken

-- In this line of the plan this isn't so of a client.
abbrev pub BreaksAtClient : {A : Type 0} → Network A → List ℕ → (Client A → Type 0) → ℕ → Type 0
BreaksAtClient {A} net lines P line =
    (asked {X = ℕ × Client A}
    (λ x. (slice_get net.clients x.0 ≡ Some x.1) × (slice_index_or lines x.0 0 ≡ line))
    (λ x. P x.1)).broken

-- Of a label.
abbrev pub BreaksAtLabel : {A : Type 0} → List (Label A) → (Label A → Type 0) → ℕ → Type 0
BreaksAtLabel labels P line =
    (asked (λ label. Contains labels label × (label.line ≡ line)) P).broken

-- These are the lines in which this is broken, each once, in rising order.
pub record AreLines (Breaks : ℕ → Type 0) (lines : List ℕ) : Type 0 where
  pub rise : IsStrictlyIncreasing lines
  pub exact : (line : ℕ) → Contains lines line ↔ Breaks line

-- the places of these lines of the plan
abbrev pub plan_places : List ℕ → List Place
plan_places lines = map (λ line. place.Plan line) lines

-- the places of these lines of a relay's configuration
abbrev pub conf_places : ℕ → List ℕ → List Place
conf_places relay lines = map (λ line. place.Conf relay line) lines

-- These are the places of the lines of the plan in which this is broken.
abbrev pub AreInPlan : (ℕ → Type 0) → List Place → Type 0
AreInPlan Breaks places = (lines : List ℕ) × AreLines Breaks lines × (places ≡ plan_places lines)

-- These are the places in these relays, of which the first has this place in the plan: one relay
-- after another, as it is said of each.
abbrev pub AreByRelays : {A : Type 0} → (ℕ → Node A → List Place → Type 0) → ℕ → List (Node A)
    → List Place → Type 0
AreByRelays Are at [] places = places ≡ []
AreByRelays Are at (node ∷ nodes) places = (here later : List Place) × Are at node here
    × AreByRelays Are (at + 1) nodes later × (places ≡ here ++ later)

-- These are the places of the lines of the relay's configuration in which this is broken.
abbrev pub AreInRelay : {A : Type 0} → (ℕ → ℕ → Type 0) → ℕ → Node A → List Place → Type 0
AreInRelay Breaks at node places = (lines : List ℕ) × AreLines (Breaks at) lines
    × (places ≡ conf_places node.number lines)

-- This is so of each relay, in the order of the plan.
abbrev pub AreInConf : {A : Type 0} → Network A → (ℕ → ℕ → Type 0) → List Place → Type 0
AreInConf net Breaks places = AreByRelays (AreInRelay Breaks) 0 net.relays places

-- Numbers, folders and addresses: each relay's line of the plan, then its sources, then the next
-- relay.

-- This is the place of the relay's line of the plan, if the relay isn't new.
abbrev pub IsOwnPlace : {A : Type 0} → Network A → List (RelayLine A) → ℕ → List Place → Type 0
IsOwnPlace {A} net lines at own = (RelayIsNew net lines at × (own ≡ []))
    ⊎ ((found : RelayLine A) × (slice_get lines at ≡ Some found) × ¬ RelayIsNew net lines at
    × (own ≡ place.Plan found.line ∷ []))

-- These are the places of the relay's line and of its sources, as far as they aren't new.
abbrev pub AreTwiceInRelay : {A : Type 0} → Network A → List (RelayLine A) → ℕ → Node A → List Place
    → Type 0
AreTwiceInRelay net lines at node places = (own sources : List Place) × IsOwnPlace net lines at own
    × AreInRelay (BreaksAtSource net) at node sources
    × (places ≡ own ++ sources)

-- This is so of each relay, in the order of the plan.
abbrev pub AreTwice : {A : Type 0} → Network A → List (RelayLine A) → List Place → Type 0
AreTwice net lines places = AreByRelays (AreTwiceInRelay net lines) 0 net.relays places

-- These are the places where the rule is broken: each of them, and no other; by lines of the plan,
-- or by relays and then by their lines.
abbrev pub AreBrokenPlaces : {A : Type 0} → Subject A → Rule → List Place → Type 0
AreBrokenPlaces s rule.AddressesAreDistinct = AreTwice s.net s.relay_lines
AreBrokenPlaces s rule.ServersAreSources =
    AreInConf s.net
    (BreaksAtServer s.net (λ p scope r server. IsSome (entrance s.net (address_of_server server))))
AreBrokenPlaces s rule.ClientsAreLabelled =
    AreInPlan (BreaksAtClient s.net s.client_lines (IsLabelledClient s.net s.labels))
AreBrokenPlaces s rule.LabelsAreMatched = AreInPlan (BreaksAtLabel s.labels (IsMatchedLabel s.net))
AreBrokenPlaces s rule.ReachesCover =
    AreInPlan (BreaksAtLabel s.labels (IsCoveredLabel s.net s.reaches))
AreBrokenPlaces s rule.ReachedMatchesKeep =
    AreInConf s.net (BreaksAtMatch s.net (λ p scope r found. IsReached s.reaches p scope r
    → DoesDuty s.duty found))
AreBrokenPlaces s rule.RelabelsAreLabelled =
    AreInConf s.net
    (BreaksAtOutput s.net
    (λ p scope r output found. IsLabelledRelabel s.labels s.reaches p scope r found))
AreBrokenPlaces s rule.ForwardsAreLabelled =
    AreInConf s.net
    (BreaksAtServer s.net
    (λ p scope r server.
    IsLabelledServer s.net s.labels s.reaches p scope r (address_of_server server)))
AreBrokenPlaces s rule.PathsAreDistinct =
    AreInConf s.net (BreaksAtOutput s.net (IsFirstOfPath s.net))
AreBrokenPlaces s rule.NoRelabelCycle =
    AreInConf s.net
    (BreaksAtOutput s.net (λ p scope r output found. IsOnNoCycle s.net s.reaches p scope r found))
