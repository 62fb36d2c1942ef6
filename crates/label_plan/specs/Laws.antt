-- Why a sink of its own may stand in place of a match's outputs.
use Rattle.std.specs.Prelude.{◌≡◌, ℕ, List, Some}
use Rattle.relay_conf.specs.declared.output.Output.{Output}
use Rattle.relay_conf.specs.declared.relay.MatchRule.{MatchRule}
use Rattle.relay_net.specs.Network.{Network, output_at}
use Rattle.relay_net.specs.Outputs.{Keeps}
use Rattle.relay_net.specs.Ways.{table_at}
use Rattle.route_graph.specs.Ways.{IsLeaf, IsLoop}
use Rattle.loss_rules.specs.Rules.{DoesDuty}
use Rattle.loss_rules.specs.SafeWays.{IsFirstTaker}
use Rattle.loss_rules.specs.Sites.{rule_at, output_in_rule, BuffersAreDistinct}
use Rattle.loss_rules.specs.declared.label.Duty.{Duty}
use Rattle.label_plan.specs.Sinks.{EndsInSink}

-- An event with this tag that comes into the scope ends in the one output of this match: its buffer
-- is the only leaf of the event's way, which is no loop, and the output keeps.
pub record EndsThere {A : Type 0} (net : Network A) (place scope rule : ℕ)
    (tag : List ℕ) : Type 0 where
  pub sink : Output A
  pub sink_is : output_in_rule net place scope rule 0 ≡ Some sink
  pub keeps : Keeps sink
  pub buffer : ℕ
  pub output_is : output_at net place buffer ≡ Some sink
  pub leaf : IsLeaf (table_at net place) tag scope buffer
  pub only : (other : ℕ) → IsLeaf (table_at net place) tag scope other → other ≡ buffer
  pub no_loop : ¬ IsLoop (table_at net place) tag scope

-- Each event that a match takes which ends in a sink of its own ends there.
abbrev pub EventsEndInSinks : Type 0 → Type 0
EventsEndInSinks A = (net : Network A) → BuffersAreDistinct net → (place scope rule : ℕ)
    → EndsInSink net place scope rule → (tag : List ℕ) → IsFirstTaker net place scope tag rule
    → EndsThere net place scope rule tag

-- Such a match does what is asked of reached matches, whatever a plan asks.
abbrev pub DroppedMatchesDo : Type 0 → Type 0
DroppedMatchesDo A = (net : Network A) (place scope rule : ℕ) → EndsInSink net place scope rule
    → (found : MatchRule A) → rule_at net place scope rule ≡ Some found → (duty : Duty)
    → DoesDuty duty found
