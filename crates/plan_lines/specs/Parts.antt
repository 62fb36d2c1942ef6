-- A plan in parts.
use Rattle.std.specs.Prelude.{◌≡◌, true, length}
use Rattle.loss_rules.specs.Breaks.{Subject}
use Rattle.loss_rules.specs.Sites.{BuffersAreDistinct}
use Rattle.relay_net.specs.Network.{all_enter}
use Rattle.plan_lines.specs.Plans.{network}
use Rattle.plan_lines.specs.declared.parts.PlanParts.{PlanParts}

-- the plan that these parts are
abbrev pub plan_of : {A : Type 0} → PlanParts A → Subject A
plan_of parts = record {
  net = network parts.relays.items parts.clients.items;
  relay_lines = parts.relay_lines.items;
  client_lines = parts.client_lines.items;
  labels = parts.labels.items;
  reaches = parts.reaches.items;
  duty = parts.duty;
}

-- Nothing is missing, and nothing is there twice: each client sends to a source, each relay and
-- each client has a line, and no two outputs of a relay share a buffer.
pub record IsWhole {A : Type 0} (plan : Subject A) : Type 0 where
  pub enter : all_enter plan.net.relays plan.net.clients ≡ true
  pub relay_lines : length plan.relay_lines ≡ length plan.net.relays
  pub client_lines : length plan.client_lines ≡ length plan.net.clients
  pub distinct : BuffersAreDistinct plan.net
