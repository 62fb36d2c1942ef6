-- A relay as it runs.
use Rattle.std.specs.Prelude.{ℕ, ◌<◌, ◌^◌, List, length}
use Rattle.relay_conf.specs.declared.relay.Relay.{Relay}
use Rattle.relay_conf.specs.declared.relay.Source.{Source}
use Rattle.route_graph.specs.Table.{Table, table_of}
use Rattle.relay_ports.specs.declared.buffered.BufferedOutput.{BufferedOutput}
use Rattle.relay_ports.specs.Outputs.{AreInOrder, HaveOwnPaths, outputs_in}

-- what a relay is: its number, where its events go, its sources, each whole, and its outputs that
-- have buffers, each whole
pub record Setup (A : Type 0) : Type 0 where
  pub number : ℕ
  pub table : Table
  pub sources : List (Source A)
  pub outputs : List (BufferedOutput A)

-- the relay that was read, under this number: all its sources, and all of its outputs that have
-- buffers, in the order of the text
abbrev pub setup_of : {A : Type 0} → ℕ → Relay A → Setup A
setup_of number relay = record {
  number = number;
  table = table_of relay;
  sources = relay.sources.items;
  outputs = outputs_in relay.scopes.items;
}

-- Each buffer has the number of its place, which is one of 32 bits; and no two outputs share a
-- path.
pub record CanRun {A : Type 0} (outputs : List (BufferedOutput A)) : Type 0 where
  pub in_order : AreInOrder outputs
  pub few : length outputs < 2 ^ 32
  pub own_paths : HaveOwnPaths outputs
