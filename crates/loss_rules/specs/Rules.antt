-- The rules under which a network of relays loses no event that was acknowledged to a client. They
-- compare patterns, and know no tags, steps or buffers' contents.
use Rattle.std.specs.Prelude.{◌≡◌, ◌≢◌, ◌<◌, ℕ, List, Option, Some, None, slice_get, string_bytes, All, Any, IsSome, IsSomeAnd, ◌⊎◌}
use Rattle.std.specs.Option.{option_and_then}
use Rattle.relay_conf.specs.BufferSection.{kind_view}
use Rattle.relay_conf.specs.declared.output.Output.{Output}
use Rattle.relay_conf.specs.declared.output.Output.TheVariants as output
use Rattle.relay_conf.specs.declared.relay.MatchRule.{MatchRule}
use Rattle.relay_conf.specs.declared.relay.Source.{Source}
use Rattle.relay_net.specs.Addresses.{Address}
use Rattle.relay_net.specs.Network.{Network, entrance, prefix_at, address_of_client, address_of_server}
use Rattle.relay_net.specs.Outputs.{settings_of, Keeps}
use Rattle.relay_net.specs.declared.node.Client.{Client}
use Rattle.relay_net.specs.declared.node.Node.{Node}
use Rattle.route_graph.specs.Chains.{Chain}
use Rattle.tag_pattern.specs.Items.{Item}
use Rattle.tag_pattern.specs.Patterns.{Fits, Meets}
use Rattle.loss_rules.specs.Labels.{FitsLabel, FitsLabelWith, FitsReach, IsReached, EachReach}
use Rattle.loss_rules.specs.Sites.{rule_at, output_in_rule, EachMatch, EachOutput, EachServer, line_of, RelabelsTo}
use Rattle.loss_rules.specs.declared.label.Duty.{Duty}
use Rattle.loss_rules.specs.declared.label.Duty.TheVariants as duty
use Rattle.loss_rules.specs.declared.label.Label.{Label}
use Rattle.loss_rules.specs.declared.label.Reach.{Reach}
use Rattle.loss_rules.specs.declared.label.RelayLine.{RelayLine}

-- 1. Numbers, folders and addresses are distinct.

-- The relay at this place has another number than that at the other place, and another folder.
abbrev pub IsNewTo : {A : Type 0} → Network A → List (RelayLine A) → ℕ → ℕ → Type 0
IsNewTo {A} net lines place other =
    ((one two : Node A) → slice_get net.relays other ≡ Some one → slice_get net.relays place
    ≡ Some two → one.number ≢ two.number)
    × ((one two : RelayLine A) → slice_get lines other ≡ Some one → slice_get lines place ≡ Some two
    → string_bytes one.folder ≢ string_bytes two.folder)

-- So it is with each relay before it.
abbrev pub RelayIsNew : {A : Type 0} → Network A → List (RelayLine A) → ℕ → Type 0
RelayIsNew net lines place = (before : ℕ) → before < place → IsNewTo net lines place before

-- the source with this place in the relay at this place
abbrev pub source_in : {A : Type 0} → Network A → ℕ → ℕ → Option (Source A)
source_in net place source = option_and_then (λ node. slice_get node.relay.sources.items source)
    (slice_get net.relays place)

-- The source with this place in the relay at this place has another address than each source before
-- it.
abbrev pub SourceIsNew : {A : Type 0} → Network A → ℕ → ℕ → Type 0
SourceIsNew {A} net place source = (p s : ℕ) → (p < place) ⊎ ((p ≡ place) × (s < source))
    → (one two : Source A) (first second : Node A)
    → source_in net p s ≡ Some one → source_in net place source ≡ Some two
    → slice_get net.relays p ≡ Some first → slice_get net.relays place ≡ Some second
    → one.port ≡ two.port → string_bytes first.host ≢ string_bytes second.host

-- All relays have numbers, folders and addresses of their own.
pub record AddressesAreDistinct {A : Type 0} (net : Network A)
    (lines : List (RelayLine A)) : Type 0 where
  pub relays : (place : ℕ) → RelayIsNew net lines place
  pub sources : (place source : ℕ) → SourceIsNew net place source

-- 2. Servers are sources.

-- Each server's address is that of a source of the plan.
abbrev pub ServersAreSources : {A : Type 0} → Network A → Type 0
ServersAreSources net =
    EachServer net (λ place scope rule server. IsSome (entrance net (address_of_server server)))

-- 3. Clients are labelled.

-- Each pattern of the client, with the prefix of its source in front, fits a label of the scope
-- that the source leads into.
abbrev pub IsLabelledClient : {A : Type 0} → Network A → List (Label A) → Client A → Type 0
IsLabelledClient net labels client = IsSomeAnd (entrance net (address_of_client net client))
    (λ at.
    All (FitsLabelWith labels at.relay at.scope (prefix_at net (address_of_client net client)))
    client.patterns.items)

-- This is so of all clients.
abbrev pub ClientsAreLabelled : {A : Type 0} → Network A → List (Label A) → Type 0
ClientsAreLabelled net labels = All (IsLabelledClient net labels) net.clients

-- 4. Labels are matched.

-- The pattern fits a pattern of the match.
abbrev pub FitsMatch : {A : Type 0} → List Item → MatchRule A → Type 0
FitsMatch pattern rule = Any (Fits pattern) rule.patterns.items

-- The pattern fits a pattern of some match of the scope.
abbrev pub IsMatched : {A : Type 0} → Network A → ℕ → ℕ → List Item → Type 0
IsMatched {A} net place scope pattern = (rule : ℕ) × (found : MatchRule A)
    × (rule_at net place scope rule ≡ Some found) × FitsMatch pattern found

-- Each pattern of the label is.
abbrev pub IsMatchedLabel : {A : Type 0} → Network A → Label A → Type 0
IsMatchedLabel net label = All (IsMatched net label.place label.scope) label.patterns.items

-- This is so of all labels.
abbrev pub LabelsAreMatched : {A : Type 0} → Network A → List (Label A) → Type 0
LabelsAreMatched net labels = All (IsMatchedLabel net) labels

-- 5. Reaches cover.

-- The label's pattern and this pattern of the match have nothing in common, or one of them fits a
-- reach of the match.
abbrev pub IsCovered : {A : Type 0} → List (Reach A) → ℕ → ℕ → ℕ → List Item → List Item → Type 0
IsCovered reaches place scope rule label pattern = (¬ Meets pattern label)
    ⊎ (FitsReach reaches place scope rule label ⊎ FitsReach reaches place scope rule pattern)

-- The reaches of each match, up to and with the first that the label's pattern fits, cover what the
-- two may have in common. Where it fits none, nothing is asked for.
abbrev pub ReachesCoverLabel : {A : Type 0} → Network A → List (Reach A) → ℕ → ℕ → List Item
    → Type 0
ReachesCoverLabel {A} net reaches place scope label = IsMatched net place scope label
    → (rule : ℕ) (found : MatchRule A) → rule_at net place scope rule ≡ Some found
    → ((before : ℕ) (other : MatchRule A) → before < rule
    → rule_at net place scope before ≡ Some other → ¬ FitsMatch label other)
    → All (IsCovered reaches place scope rule label) found.patterns.items

-- This is so of each pattern of the label.
abbrev pub IsCoveredLabel : {A : Type 0} → Network A → List (Reach A) → Label A → Type 0
IsCoveredLabel net reaches label =
    All (ReachesCoverLabel net reaches label.place label.scope) label.patterns.items

-- This is so of all labels.
abbrev pub ReachesCover : {A : Type 0} → Network A → List (Label A) → List (Reach A) → Type 0
ReachesCover net labels reaches = All (IsCoveredLabel net reaches) labels

-- 6. Reached matches keep.

-- The output keeps, or sends events on to another scope.
abbrev pub KeepsOrRelabels : {A : Type 0} → Output A → Type 0
KeepsOrRelabels found = Keeps found ⊎ ((scope : ℕ) × RelabelsTo found scope)

-- The match does what the plan asks of it: one of its outputs keeps or sends events on, and under
-- the duty every each of them.
abbrev pub DoesDuty : {A : Type 0} → Duty → MatchRule A → Type 0
DoesDuty duty.Any rule = Any KeepsOrRelabels rule.outputs.items
DoesDuty duty.Every rule = Any KeepsOrRelabels rule.outputs.items
    × All KeepsOrRelabels rule.outputs.items

-- This is so of each reached match.
abbrev pub ReachedMatchesDo : {A : Type 0} → Network A → Duty → List (Reach A) → Type 0
ReachedMatchesDo net duty reaches =
    EachMatch net (λ place scope rule found. IsReached reaches place scope rule
    → DoesDuty duty found)

-- 7. Relabels are labelled.

-- Each reach of the output's match fits a label of the scope that it sends events on to.
abbrev pub IsLabelledRelabel : {A : Type 0} → List (Label A) → List (Reach A) → ℕ → ℕ → ℕ → Output A
    → Type 0
IsLabelledRelabel labels reaches place scope rule found = (target : ℕ) → RelabelsTo found target
    → EachReach reaches place scope rule (FitsLabel labels place target)

-- This is so of each output.
abbrev pub RelabelsAreLabelled : {A : Type 0} → Network A → List (Label A) → List (Reach A) → Type 0
RelabelsAreLabelled net labels reaches =
    EachOutput net (λ place scope rule output found.
    IsLabelledRelabel labels reaches place scope rule found)

-- 8. Forwards are labelled.

-- Each reach of the match, with the prefix of the source that the server is in front, fits a label
-- of the scope that this source leads into. Where the server is no source, nothing is asked for.
abbrev pub IsLabelledServer : {A : Type 0} → Network A → List (Label A) → List (Reach A) → ℕ → ℕ → ℕ
    → Address → Type 0
IsLabelledServer net labels reaches place scope rule address = (at : _)
    → entrance net address ≡ Some at
    → EachReach reaches place scope rule
    (FitsLabelWith labels at.relay at.scope (prefix_at net address))

-- This is so of each server.
abbrev pub ForwardsAreLabelled : {A : Type 0} → Network A → List (Label A) → List (Reach A) → Type 0
ForwardsAreLabelled net labels reaches =
    EachServer net (λ place scope rule server.
    IsLabelledServer net labels reaches place scope rule (address_of_server server))

-- 9. Paths are distinct.

-- the path of an output's buffer, if it has one that is a file
abbrev pub buffer_path : {A : Type 0} → Output A → Option (List ℕ)
buffer_path found = option_and_then (λ settings. kind_view settings.kind) (settings_of found)

-- the path of an output's sink, if it has one
abbrev pub sink_path : {A : Type 0} → Output A → Option (List ℕ)
sink_path (output.File settings line) = Some (string_bytes settings.path)
sink_path _ = None

-- The outputs share a path of their buffers, or one of their sinks.
abbrev pub SharePath : {A : Type 0} → Output A → Output A → Type 0
SharePath one two = (path : List ℕ)
    × (((buffer_path one ≡ Some path) × (buffer_path two ≡ Some path))
    ⊎ ((sink_path one ≡ Some path) × (sink_path two ≡ Some path)))

-- No two outputs of a relay share a path.
abbrev pub PathsAreDistinct : {A : Type 0} → Network A → Type 0
PathsAreDistinct {A} net =
    EachOutput net (λ place scope rule output found. (s r o : ℕ) (other : Output A)
    → output_in_rule net place s r o ≡ Some other
    → SharePath other found → (s ≡ scope) × (r ≡ rule) × (o ≡ output))

-- 10. Relabels don't come back.

-- In this line of the relay a reached match of the scope has a relabel to that target.
abbrev pub HasReachedRelabel : {A : Type 0} → Network A → List (Reach A) → ℕ → ℕ → ℕ → ℕ → Type 0
HasReachedRelabel {A} net reaches place scope target line = (rule output : ℕ) × (found : Output A)
    × (output_in_rule net place scope rule output ≡ Some found)
    × IsReached reaches place scope rule × RelabelsTo found target × (line_of found ≡ line)

-- A reached match of the scope sends events on to the other scope, in whatever line.
abbrev pub GoesOn : {A : Type 0} → Network A → List (Reach A) → ℕ → ℕ → ℕ → Type 0
GoesOn net reaches place scope target = (line : ℕ)
    × HasReachedRelabel net reaches place scope target line

-- Where the output is a relabel of a reached match, no chain of such relabels leads from its target
-- back to its scope.
abbrev pub IsOnNoCycle : {A : Type 0} → Network A → List (Reach A) → ℕ → ℕ → ℕ → Output A → Type 0
IsOnNoCycle net reaches place scope rule found = IsReached reaches place scope rule → (target : ℕ)
    → RelabelsTo found target → ¬ Chain (GoesOn net reaches place) target scope

-- This is so of each output.
abbrev pub NoRelabelCycle : {A : Type 0} → Network A → List (Reach A) → Type 0
NoRelabelCycle net reaches =
    EachOutput net (λ place scope rule output found. IsOnNoCycle net reaches place scope rule found)
