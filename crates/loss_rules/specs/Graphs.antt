-- The relabels of a relay's reached matches, as a graph of its scopes: for each scope the relabels
-- from there.
use Rattle.std.specs.Prelude.{ℕ, List, [], Option, Some, None, Contains, ◌↔◌, slice_index_or}
use Rattle.relay_conf.specs.declared.output.Output.{Output}
use Rattle.relay_conf.specs.declared.output.Output.TheVariants as output
use Rattle.relay_net.specs.Network.{Network}
use Rattle.route_graph.specs.Chains.{Chain}
use Rattle.loss_rules.specs.Rules.{HasReachedRelabel}
use Rattle.loss_rules.specs.declared.label.Reach.{Reach}
use Rattle.loss_rules.specs.declared.relabel.Relabel.{Relabel}

-- the relabel that an output is, if it is one
abbrev pub relabel_of : {A : Type 0} → Output A → Option Relabel
relabel_of (output.Null line) = None
relabel_of (output.Relabel target line) = Some (record { target = target.0; line = line })
relabel_of (output.Forward settings line) = None
relabel_of (output.File settings line) = None

-- the relabels of this scope; a scope that isn't there has none
abbrev pub relabels_at : List (List Relabel) → ℕ → List Relabel
relabels_at graph scope = slice_index_or graph scope []

-- A relabel in this line leads from the one scope to the other.
abbrev pub HasRelabel : List (List Relabel) → ℕ → ℕ → ℕ → Type 0
HasRelabel graph scope target line = Contains (relabels_at graph scope)
    (record { target = target; line = line })

-- A relabel leads from the one scope to the other.
abbrev pub Leads : List (List Relabel) → ℕ → ℕ → Type 0
Leads graph scope target = (line : ℕ) × HasRelabel graph scope target line

-- In this line the scope has a relabel from whose target a chain leads back to the scope.
abbrev pub IsOnCycleFrom : List (List Relabel) → ℕ → ℕ → Type 0
IsOnCycleFrom graph scope line = (target : ℕ) × HasRelabel graph scope target line
    × Chain (Leads graph) target scope

-- In this line some scope has such a relabel.
abbrev pub IsOnCycle : List (List Relabel) → ℕ → Type 0
IsOnCycle graph line = (scope : ℕ) × IsOnCycleFrom graph scope line

-- The graph has the relabels of the reached matches of the relay at this place, and no others.
abbrev pub IsGraphOf : {A : Type 0} → Network A → List (Reach A) → ℕ → List (List Relabel) → Type 0
IsGraphOf net reaches place graph = (scope target line : ℕ) → HasRelabel graph scope target line
    ↔ HasReachedRelabel net reaches place scope target line
