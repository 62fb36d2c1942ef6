-- Chains of relabels, in a network and in the graph of one of its relays.
use Rattle.std.proofs.Common.{ℕ, ◌<◌, List, [], length, subst, inl, inr, Contains}
use Rattle.std.proofs.lemmas.Bool.{cases_lt}
use Rattle.std.proofs.lemmas.List.{get_or_past}
use Rattle.relay_net.specs.Network.{Network}
use Rattle.loss_rules.specs.Rules.{GoesOn}
use Rattle.loss_rules.specs.declared.label.Reach.{Reach}
use Rattle.loss_rules.specs.Graphs.{HasRelabel, Leads, IsGraphOf}
use Rattle.loss_rules.specs.declared.relabel.Relabel.{Relabel}
use Rattle.route_graph.specs.Chains.{Chain, here, onward}
use Rattle.route_graph.proofs.Members.{nil-none}

-- a scope that isn't there has no relabels
pub leads-within : (graph : List (List Relabel)) (scope target line : ℕ) → HasRelabel graph scope target line → scope < length graph
leads-within graph scope target line has = elim (cases_lt scope (length graph)) [
  | inl less ↦ less
  | inr past ↦ absurd (nil-none (record { target = target; line = line }) (subst (λ (x : List Relabel). Contains x (record { target = target; line = line })) (get_or_past graph scope [] past) has))
]

-- a chain in the network is one in the graph
pub goes-leads : {A : Type 0} (net : Network A) (reaches : List (Reach A)) (place : ℕ) (graph : List (List Relabel)) → IsGraphOf net reaches place graph → {scope last : ℕ} → Chain (GoesOn net reaches place) scope last → Chain (Leads graph) scope last
goes-leads net reaches place graph is here = here
goes-leads net reaches place graph is (onward {start = scope} {next = target} g k) =
    onward (g.0, (is scope target g.0).1 g.1) (goes-leads net reaches place graph is k)

-- and the other way round
pub leads-goes : {A : Type 0} (net : Network A) (reaches : List (Reach A)) (place : ℕ) (graph : List (List Relabel)) → IsGraphOf net reaches place graph → {scope last : ℕ} → Chain (Leads graph) scope last → Chain (GoesOn net reaches place) scope last
leads-goes net reaches place graph is here = here
leads-goes net reaches place graph is (onward {start = scope} {next = target} h k) =
    onward (h.0, (is scope target h.0).0 h.1) (leads-goes net reaches place graph is k)
