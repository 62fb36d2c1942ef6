-- What was read of a plan so far.
use Rattle.std.specs.Prelude.{ℕ, ◌<◌}
use Rattle.loss_rules.specs.Breaks.{Subject}
use Rattle.plan_lines.specs.declared.draft.Draft.{Draft}
use Rattle.plan_lines.specs.Forms.{LineForm, a_relay}
use Rattle.plan_lines.specs.Plans.{network}

-- the plan that it is
abbrev pub draft_of : {A : Type 0} → Draft A → Subject A
draft_of draft = record {
  net = network draft.relays draft.clients.items;
  relay_lines = draft.relay_lines.items;
  client_lines = draft.client_lines.items;
  labels = draft.labels.items;
  reaches = draft.reaches.items;
  duty = draft.duty;
}

-- behind so many relays there is a configuration for one more, where the line is a relay's
abbrev pub HasItsConf : LineForm → ℕ → ℕ → Type 0
HasItsConf (a_relay number host folder conf) relays confs = relays < confs
HasItsConf _ relays confs = Unit {0}
