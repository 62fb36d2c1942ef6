-- What a plan says, without where it lies in memory.
use Rattle.std.specs.Prelude.{ℕ, Bool, List, map, Option, option_map, string_bytes}
use Rattle.tag_pattern.specs.Items.{Item}
use Rattle.retry_waits.specs.declared.settings.RetrySettings.{RetrySettings}
use Rattle.relay_conf.specs.BufferSection.{kind_view}
use Rattle.relay_conf.specs.declared.buffer.BufferSettings.{BufferSettings}
use Rattle.relay_conf.specs.declared.buffer.FlushMode.{FlushMode}
use Rattle.relay_conf.specs.declared.buffer.OverflowAction.{OverflowAction}
use Rattle.relay_conf.specs.declared.output.ForwardSettings.{ForwardSettings}
use Rattle.relay_conf.specs.declared.output.FileSettings.{FileSettings}
use Rattle.relay_conf.specs.declared.output.Server.{Server}
use Rattle.relay_conf.specs.declared.output.Output.{Output}
use Rattle.relay_conf.specs.declared.output.Output.TheVariants as output
use Rattle.relay_conf.specs.declared.relay.MatchRule.{MatchRule}
use Rattle.relay_conf.specs.declared.relay.Relay.{Relay}
use Rattle.relay_conf.specs.declared.relay.Scope.{Scope}
use Rattle.relay_conf.specs.declared.relay.Security.{Security}
use Rattle.relay_conf.specs.declared.relay.Source.{Source}
use Rattle.relay_net.specs.declared.node.Client.{Client}
use Rattle.relay_net.specs.declared.node.Node.{Node}
use Rattle.loss_rules.specs.Breaks.{Subject}
use Rattle.loss_rules.specs.declared.label.Duty.{Duty}
use Rattle.loss_rules.specs.declared.label.Label.{Label}
use Rattle.loss_rules.specs.declared.label.Reach.{Reach}
use Rattle.loss_rules.specs.declared.label.RelayLine.{RelayLine}

-- what a security section says
pub record SecurityMeaning : Type 0 where
  pub self_hostname : List ℕ
  pub shared_key : List ℕ

-- what a source says
pub record SourceMeaning : Type 0 where
  pub port : ℕ
  pub bind : List ℕ
  pub label : ℕ
  pub prefix : Option (List ℕ)
  pub security : Option SecurityMeaning
  pub line : ℕ

-- what a server says
pub record ServerMeaning : Type 0 where
  pub host : List ℕ
  pub port : ℕ
  pub line : ℕ

-- what a buffer says; without a path its chunks are in memory
pub record BufferMeaning : Type 0 where
  pub path : Option (List ℕ)
  pub flush_mode : FlushMode
  pub flush_interval : ℕ
  pub flush_thread_count : ℕ
  pub retry : RetrySettings
  pub overflow_action : OverflowAction
  pub chunk_limit_size : ℕ
  pub total_limit_size : ℕ

-- what a forward output says
pub record ForwardMeaning : Type 0 where
  pub servers : List ServerMeaning
  pub require_ack_response : Bool
  pub ack_response_timeout : ℕ
  pub security : Option SecurityMeaning
  pub buffer : BufferMeaning
  pub number : ℕ

-- what a file output says
pub record FileMeaning : Type 0 where
  pub path : List ℕ
  pub buffer : BufferMeaning
  pub number : ℕ

-- what an output says, with its line
pub data OutputMeaning : Type 0 where
  to_nowhere : ℕ → OutputMeaning
  to_scope : ℕ → ℕ → OutputMeaning
  to_relays : ForwardMeaning → ℕ → OutputMeaning
  to_sink : FileMeaning → ℕ → OutputMeaning

-- what a match says: its patterns with their groups written out, its outputs and its line
pub record MatchMeaning : Type 0 where
  pub patterns : List (List Item)
  pub outputs : List OutputMeaning
  pub line : ℕ

-- what a scope says
pub record ScopeMeaning : Type 0 where
  pub name : List ℕ
  pub matches : List MatchMeaning

-- what a configuration says
pub record ConfMeaning : Type 0 where
  pub sources : List SourceMeaning
  pub scopes : List ScopeMeaning

-- what a plan says of a relay
pub record RelayMeaning : Type 0 where
  pub number : ℕ
  pub host : List ℕ
  pub conf : ConfMeaning

-- what a plan says of a relay beside that
pub record RelayLineMeaning : Type 0 where
  pub folder : List ℕ
  pub line : ℕ

-- what a plan says of a client
pub record ClientMeaning : Type 0 where
  pub relay : ℕ
  pub port : ℕ
  pub patterns : List (List Item)

-- what a label says
pub record LabelMeaning : Type 0 where
  pub place : ℕ
  pub scope : ℕ
  pub patterns : List (List Item)
  pub line : ℕ

-- what a reach says
pub record ReachMeaning : Type 0 where
  pub place : ℕ
  pub scope : ℕ
  pub rule : ℕ
  pub patterns : List (List Item)
  pub line : ℕ

-- what a plan says
pub record PlanMeaning : Type 0 where
  pub relays : List RelayMeaning
  pub relay_lines : List RelayLineMeaning
  pub clients : List ClientMeaning
  pub client_lines : List ℕ
  pub labels : List LabelMeaning
  pub reaches : List ReachMeaning
  pub duty : Duty

-- a security section
abbrev pub security_view : {A : Type 0} → Security A → SecurityMeaning
security_view s = record {
  self_hostname = string_bytes s.self_hostname;
  shared_key = string_bytes s.shared_key;
}

-- a source
abbrev pub source_view : {A : Type 0} → Source A → SourceMeaning
source_view s = record {
  port = s.port;
  bind = string_bytes s.bind;
  label = s.label.0;
  prefix = s.prefix;
  security = option_map security_view s.security;
  line = s.line;
}

-- a server
abbrev pub server_view : {A : Type 0} → Server A → ServerMeaning
server_view s = record { host = string_bytes s.host; port = s.port; line = s.line }

-- a buffer
abbrev pub buffer_view : {A : Type 0} → BufferSettings A → BufferMeaning
buffer_view b = record {
  path = kind_view b.kind;
  flush_mode = b.flush_mode;
  flush_interval = b.flush_interval;
  flush_thread_count = b.flush_thread_count;
  retry = b.retry;
  overflow_action = b.overflow_action;
  chunk_limit_size = b.chunk_limit_size;
  total_limit_size = b.total_limit_size;
}

-- a forward output
abbrev pub forward_view : {A : Type 0} → ForwardSettings A → ForwardMeaning
forward_view f = record {
  servers = map server_view f.servers.items;
  require_ack_response = f.require_ack_response;
  ack_response_timeout = f.ack_response_timeout;
  security = option_map security_view f.security;
  buffer = buffer_view f.buffer;
  number = f.number.0;
}

-- a file output
abbrev pub file_view : {A : Type 0} → FileSettings A → FileMeaning
file_view f = record {
  path = string_bytes f.path;
  buffer = buffer_view f.buffer;
  number = f.number.0;
}

-- an output
abbrev pub output_view : {A : Type 0} → Output A → OutputMeaning
output_view (output.Null line) = to_nowhere line
output_view (output.Relabel target line) = to_scope target.0 line
output_view (output.Forward settings line) = to_relays (forward_view settings) line
output_view (output.File settings line) = to_sink (file_view settings) line

-- a match
abbrev pub match_view : {A : Type 0} → MatchRule A → MatchMeaning
match_view rule = record {
  patterns = rule.patterns.items;
  outputs = map output_view rule.outputs.items;
  line = rule.line;
}

-- a scope
abbrev pub scope_view : {A : Type 0} → Scope A → ScopeMeaning
scope_view scope = record {
  name = string_bytes scope.name;
  matches = map match_view scope.matches.items;
}

-- a configuration
abbrev pub conf_view : {A : Type 0} → Relay A → ConfMeaning
conf_view relay = record {
  sources = map source_view relay.sources.items;
  scopes = map scope_view relay.scopes.items;
}

-- a relay
abbrev pub relay_view : {A : Type 0} → Node A → RelayMeaning
relay_view node = record {
  number = node.number;
  host = string_bytes node.host;
  conf = conf_view node.relay;
}

-- a relay's folder and line
abbrev pub relay_line_view : {A : Type 0} → RelayLine A → RelayLineMeaning
relay_line_view entry = record { folder = string_bytes entry.folder; line = entry.line }

-- a client
abbrev pub client_view : {A : Type 0} → Client A → ClientMeaning
client_view client = record {
  relay = client.relay;
  port = client.port;
  patterns = client.patterns.items;
}

-- a label
abbrev pub label_view : {A : Type 0} → Label A → LabelMeaning
label_view label = record {
  place = label.place;
  scope = label.scope;
  patterns = label.patterns.items;
  line = label.line;
}

-- a reach
abbrev pub reach_view : {A : Type 0} → Reach A → ReachMeaning
reach_view reach = record {
  place = reach.place;
  scope = reach.scope;
  rule = reach.rule;
  patterns = reach.patterns.items;
  line = reach.line;
}

-- a plan
abbrev pub plan_view : {A : Type 0} → Subject A → PlanMeaning
plan_view plan = record {
  relays = map relay_view plan.net.relays;
  relay_lines = map relay_line_view plan.relay_lines;
  clients = map client_view plan.net.clients;
  client_lines = plan.client_lines;
  labels = map label_view plan.labels;
  reaches = map reach_view plan.reaches;
  duty = plan.duty;
}
