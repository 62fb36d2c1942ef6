-- Where a rule is broken first, and what the checker's answer means.
use Rattle.std.specs.Prelude.{◌≡◌, ◌≢◌, ◌<◌, ℕ, List, Some, slice_get, slice_index_or, Contains, IsSome}
use Rattle.relay_conf.specs.declared.output.Output.{Output}
use Rattle.relay_conf.specs.declared.relay.Source.{Source}
use Rattle.relay_net.specs.Network.{Network, entrance, address_of_server}
use Rattle.relay_net.specs.declared.node.Client.{Client}
use Rattle.relay_net.specs.declared.node.Node.{Node}
use Rattle.loss_rules.specs.Labels.{IsReached}
use Rattle.loss_rules.specs.Sites.{output_in_rule, line_of, MatchStands, OutputStands, ServerStands}
use Rattle.loss_rules.specs.Rules.{RelayIsNew, source_in, SourceIsNew, AddressesAreDistinct, IsLabelledClient, IsMatchedLabel, IsCoveredLabel, DoesDuty, IsLabelledRelabel, IsLabelledServer, SharePath, IsOnNoCycle}
use Rattle.loss_rules.specs.declared.answer.Answer.{Answer}
use Rattle.loss_rules.specs.declared.answer.Answer.TheVariants as answer
use Rattle.loss_rules.specs.declared.answer.Place.{Place}
use Rattle.loss_rules.specs.declared.answer.Place.TheVariants as place
use Rattle.loss_rules.specs.declared.answer.Rule.{Rule}
use Rattle.loss_rules.specs.declared.answer.Rule.TheVariants as rule
use Rattle.loss_rules.specs.declared.label.Duty.{Duty}
use Rattle.loss_rules.specs.declared.label.Label.{Label}
use Rattle.loss_rules.specs.declared.label.Reach.{Reach}
use Rattle.loss_rules.specs.declared.label.RelayLine.{RelayLine}

-- All that the rules speak of: a network, the lines of its relays and clients in the plan, labels,
-- reaches, and what is asked of matches.
pub record Subject (A : Type 0) : Type 0 where
  pub net : Network A
  pub relay_lines : List (RelayLine A)  -- for each relay of the network
  pub client_lines : List ℕ  -- for each client of the network
  pub labels : List (Label A)
  pub reaches : List (Reach A)
  pub duty : Duty

-- In configurations: by relays in the order of the plan, and by lines.

-- This is broken in the first relay in which it is broken anywhere, and in the first such line of
-- its configuration.
pub record IsFirstLine (Breaks : ℕ → ℕ → Type 0) (place line : ℕ) : Type 0 where
  pub breaks : Breaks place line
  pub relays_before : (p l : ℕ) → p < place → ¬ Breaks p l
  pub lines_before : (l : ℕ) → l < line → ¬ Breaks place l

-- Each other output of the relay that shares a path with the output at this place stands in a later
-- line. Where it is so of each output, no two share one.
abbrev pub IsFirstOfPath : {A : Type 0} → Network A → ℕ → ℕ → ℕ → ℕ → Output A → Type 0
IsFirstOfPath {A} net place scope rule output found = (s r o : ℕ) (other : Output A)
    → output_in_rule net place s r o ≡ Some other
    → ¬ ((s ≡ scope) × (r ≡ rule) × (o ≡ output)) → SharePath other found
    → line_of found < line_of other

-- Of a rule, what it asks of all that stands in one line: all of it is so; or something isn't.
pub record Asked : Type 1 where
  pub kept : Type 0
  pub broken : Type 0

-- this is asked of each thing that stands there
abbrev pub asked : {X : Type 0} → (X → Type 0) → (X → Type 0) → Asked
asked {X} Stands P = record {
  kept = (x : X) → Stands x → P x;
  broken = (x : X) × Stands x × ¬ P x;
}

-- nothing is asked
abbrev pub nothing_asked : Asked
nothing_asked = record { kept = Unit {0}; broken = ⊥ }

-- what a rule asks in a line of the configuration of the relay at this place
abbrev pub asked_in_conf : {A : Type 0} → Subject A → Rule → ℕ → ℕ → Asked
asked_in_conf s rule.ServersAreSources place line =
    asked (ServerStands s.net place line) (λ x. IsSome (entrance s.net (address_of_server x.4)))
asked_in_conf s rule.ReachedMatchesKeep place line =
    asked (MatchStands s.net place line)
    (λ x. IsReached s.reaches place x.0 x.1 → DoesDuty s.duty x.2)
asked_in_conf s rule.RelabelsAreLabelled place line =
    asked (OutputStands s.net place line)
    (λ x. IsLabelledRelabel s.labels s.reaches place x.0 x.1 x.3)
asked_in_conf s rule.ForwardsAreLabelled place line =
    asked (ServerStands s.net place line)
    (λ x. IsLabelledServer s.net s.labels s.reaches place x.0 x.1 (address_of_server x.4))
asked_in_conf s rule.PathsAreDistinct place line =
    asked (OutputStands s.net place line) (λ x. IsFirstOfPath s.net place x.0 x.1 x.2 x.3)
asked_in_conf s rule.NoRelabelCycle place line =
    asked (OutputStands s.net place line)
    (λ x. IsOnNoCycle s.net s.reaches place x.0 x.1 x.3)
asked_in_conf s rule.AddressesAreDistinct place line = nothing_asked
asked_in_conf s rule.ClientsAreLabelled place line = nothing_asked
asked_in_conf s rule.LabelsAreMatched place line = nothing_asked
asked_in_conf s rule.ReachesCover place line = nothing_asked

-- what it asks in a line of the plan; of a client without a line it is asked in line 0
abbrev pub asked_in_plan : {A : Type 0} → Subject A → Rule → ℕ → Asked
asked_in_plan {A} s rule.ClientsAreLabelled line =
    asked {X = ℕ × Client A} (λ x. (slice_get s.net.clients x.0 ≡ Some x.1)
    × (slice_index_or s.client_lines x.0 0 ≡ line))
    (λ x. IsLabelledClient s.net s.labels x.1)
asked_in_plan s rule.LabelsAreMatched line =
    asked (λ label. Contains s.labels label × (label.line ≡ line)) (IsMatchedLabel s.net)
asked_in_plan s rule.ReachesCover line =
    asked (λ label. Contains s.labels label × (label.line ≡ line))
    (IsCoveredLabel s.net s.reaches)
asked_in_plan s rule.AddressesAreDistinct line = nothing_asked
asked_in_plan s rule.ServersAreSources line = nothing_asked
asked_in_plan s rule.ReachedMatchesKeep line = nothing_asked
asked_in_plan s rule.RelabelsAreLabelled line = nothing_asked
asked_in_plan s rule.ForwardsAreLabelled line = nothing_asked
asked_in_plan s rule.PathsAreDistinct line = nothing_asked
asked_in_plan s rule.NoRelabelCycle line = nothing_asked

-- Numbers, folders and addresses: each relay's line of the plan, then its sources, then the next
-- relay.

-- All is new in the relays before this one.
pub record AreNewBefore {A : Type 0} (net : Network A) (lines : List (RelayLine A))
    (place : ℕ) : Type 0 where
  pub relays : (before : ℕ) → before < place → RelayIsNew net lines before
  pub sources : (before source : ℕ) → before < place → SourceIsNew net before source

-- A source of the relay, opened in this line, has the address of one before it.
abbrev pub BreaksAtSource : {A : Type 0} → Network A → ℕ → ℕ → Type 0
BreaksAtSource {A} net place line = (s : ℕ) × (source : Source A)
    × (source_in net place s ≡ Some source) × (source.line ≡ line) × ¬ SourceIsNew net place s

-- The place is that of the first relay or source that isn't new.
abbrev pub IsFirstTwice : {A : Type 0} → Network A → List (RelayLine A) → Place → Type 0
IsFirstTwice {A} net lines (place.Plan line) = (p : ℕ) × (found : RelayLine A)
    × (slice_get lines p ≡ Some found) × (found.line ≡ line)
    × AreNewBefore net lines p × ¬ RelayIsNew net lines p
IsFirstTwice {A} net lines (place.Conf relay line) = (p : ℕ) × (node : Node A)
    × (slice_get net.relays p ≡ Some node) × (node.number ≡ relay)
    × AreNewBefore net lines p × RelayIsNew net lines p
    × IsFirstLine (λ q l. (q ≡ p) × BreaksAtSource net q l) p line

-- The rules, one after another.

-- the rule's number
abbrev pub rule_number : Rule → ℕ
rule_number rule.AddressesAreDistinct = 1
rule_number rule.ServersAreSources = 2
rule_number rule.ClientsAreLabelled = 3
rule_number rule.LabelsAreMatched = 4
rule_number rule.ReachesCover = 5
rule_number rule.ReachedMatchesKeep = 6
rule_number rule.RelabelsAreLabelled = 7
rule_number rule.ForwardsAreLabelled = 8
rule_number rule.PathsAreDistinct = 9
rule_number rule.NoRelabelCycle = 10

-- The rule holds.
abbrev pub IsKept : {A : Type 0} → Subject A → Rule → Type 0
IsKept s rule.AddressesAreDistinct = AddressesAreDistinct s.net s.relay_lines
IsKept s each = ((line : ℕ) → (asked_in_plan s each line).kept)
    × ((place line : ℕ) → (asked_in_conf s each place line).kept)

-- The rule is broken, and first at this place: in the first such line of the plan; or in the first
-- relay in which it is broken anywhere, and in the first such line of its configuration.
abbrev pub IsBrokenAt : {A : Type 0} → Subject A → Rule → Place → Type 0
IsBrokenAt s rule.AddressesAreDistinct at = IsFirstTwice s.net s.relay_lines at
IsBrokenAt s each (place.Plan line) = (asked_in_plan s each line).broken
    × ((l : ℕ) → l < line → ¬ (asked_in_plan s each l).broken)
IsBrokenAt {A} s each (place.Conf relay line) = (p : ℕ) × (node : Node A)
    × (slice_get s.net.relays p ≡ Some node) × (node.number ≡ relay)
    × IsFirstLine (λ q l. (asked_in_conf s each q l).broken) p line

-- The answer is yes, and each rule holds; or it is no, and the rule is the first that is broken,
-- first at this place.
abbrev pub IsAnswer : {A : Type 0} → Subject A → Answer → Type 0
IsAnswer s answer.Yes = (each : Rule) → IsKept s each
IsAnswer s (answer.No broken at) = ((before : Rule) → rule_number before < rule_number broken
    → IsKept s before) × IsBrokenAt s broken at

-- The rules hold that keep events: all but those on what is distinct, which serve that no two
-- relays, buffers or sinks are taken for one.
abbrev pub AreKeepingRulesKept : {A : Type 0} → Subject A → Type 0
AreKeepingRulesKept s = (each : Rule) → each ≢ rule.AddressesAreDistinct
    → each ≢ rule.PathsAreDistinct → IsKept s each
