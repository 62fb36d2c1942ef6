-- Where a match stands that is there.
use Rattle.std.proofs.Common.{◌≡◌, ◌<◌, ℕ, Option, Some, None, IsSome, slice_get, vec_len, Vec, refl, sym, subst}
use Rattle.std.proofs.lemmas.Option.{slice_get_within}
use Rattle.relay_conf.specs.declared.relay.MatchRule.{MatchRule}
use Rattle.relay_net.specs.Network.{Network}
use Rattle.relay_net.specs.declared.node.Node.{Node}
use Rattle.loss_rules.specs.Sites.{rule_at}
use Rattle.loss_rules.proofs.Places.{Stands, stands}
use Rattle.label_plan.specs.Changes.{HasMatch, HasMatchIn, HasScope}

-- what is there
pub some_of : {X : Type 0} (o : Option X) → IsSome o → (x : X) × (o ≡ Some x)
some_of None is = absurd (cc)
some_of (Some x) is = (x, refl)

-- what stands at a place stands below the length
below : {X Z : Type 0} (v : Vec X Z) (place : ℕ) (x : X) → slice_get v.items place ≡ Some x → place < vec_len v
below v place x at = subst (λ n. place < n) (sym v.ok.0) (slice_get_within v.items place x at)

module _ {A : Type 0} (relays : Vec (Node A) A) (net : Network A) (same : net.relays ≡ relays.items) (place scope rule : ℕ) (there : IsSome (rule_at net place scope rule)) where
  found : (m : MatchRule A) × (rule_at net place scope rule ≡ Some m)
  found = some_of (rule_at net place scope rule) there

  at : Stands net place scope rule found.0
  at = stands net place scope rule found.0 found.1

  node_there : slice_get relays.items place ≡ Some at.node
  node_there = subst (λ l. slice_get l place ≡ Some at.node) same at.node_is

  pub relay_fits : place < vec_len relays
  relay_fits = below relays place at.node node_there

  pub scope_fits : HasScope scope (slice_get relays.items place)
  scope_fits = subst (HasScope scope) (sym node_there) (below at.node.relay.scopes scope at.within at.within_is)

  pub rule_fits : HasMatchIn scope rule (slice_get relays.items place)
  rule_fits = subst (HasMatchIn scope rule) (sym node_there) (subst (HasMatch rule) (sym at.within_is) (below at.within.matches rule found.0 at.found_is))
