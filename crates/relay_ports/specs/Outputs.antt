-- The outputs that have buffers, and what lets the chunks of these go.
use Rattle.std.specs.Prelude.{ℕ, ◌≡◌, ◌↔◌, List, Option, Some, None, IfSome, AllPairs, true, false, not, slice_get, string_bytes, option_to_list}
use Rattle.std.specs.List.{flat_map}
use Rattle.ack_receipt.specs.declared.takes.Basis.{Basis}
use Rattle.ack_receipt.specs.declared.takes.Basis.TheVariants.{Acknowledged, Stored, Written}
use Rattle.ack_receipt.specs.declared.takes.Takes.{Takes}
use Rattle.relay_conf.specs.BufferSection.{kind_view}
use Rattle.relay_conf.specs.declared.buffer.BufferSettings.{BufferSettings}
use Rattle.relay_conf.specs.declared.buffer.OverflowAction.TheVariants.{DropOldestChunk}
use Rattle.relay_conf.specs.declared.output.Output.{Output}
use Rattle.relay_conf.specs.declared.output.Output.TheVariants as output
use Rattle.relay_conf.specs.declared.relay.Scope.{Scope}
use Rattle.relay_ports.specs.declared.buffered.BufferedOutput.{BufferedOutput}
use Rattle.relay_ports.specs.declared.buffered.BufferedOutput.TheVariants.{Forward, File}

-- the settings of an output's buffer
abbrev pub settings_of : {A : Type 0} → BufferedOutput A → BufferSettings A
settings_of (Forward settings) = settings.buffer
settings_of (File settings) = settings.buffer

-- the number of its buffer in the relay
abbrev pub number_of : {A : Type 0} → BufferedOutput A → ℕ
number_of (Forward settings) = settings.number.0
number_of (File settings) = settings.number.0

-- an output of the configuration with all that is said of it, if it has a buffer
abbrev pub buffered : {A : Type 0} → Output A → Option (BufferedOutput A)
buffered (output.Forward settings line) = Some (Forward settings)
buffered (output.File settings line) = Some (File settings)
buffered _ = None

-- the outputs that have buffers of a relay that has these scopes, in the order of the text
abbrev pub outputs_in : {A : Type 0} → List (Scope A) → List (BufferedOutput A)
outputs_in scopes =
    flat_map (λ scope.
    flat_map (λ rule. flat_map (λ found. option_to_list (buffered found)) rule.outputs.items)
    scope.matches.items) scopes

-- each output has the number of its place
abbrev pub AreInOrder : {A : Type 0} → List (BufferedOutput A) → Type 0
AreInOrder outputs = (place : ℕ)
    → IfSome (slice_get outputs place) (λ found. number_of found ≡ place)

-- the path of an output's buffer, if it has one that has files
abbrev pub buffer_path : {A : Type 0} → BufferedOutput A → Option (List ℕ)
buffer_path found = kind_view (settings_of found).kind

-- the path of its sink, if it has one
abbrev pub sink_path : {A : Type 0} → BufferedOutput A → Option (List ℕ)
sink_path (Forward settings) = None
sink_path (File settings) = Some (string_bytes settings.path)

-- they are no two paths that are the same
abbrev pub AreOther : Option (List ℕ) → Option (List ℕ) → Type 0
AreOther one other = (path : List ℕ) → one ≡ Some path → other ≡ Some path → ⊥

-- two outputs have neither the path of their buffers in common, nor that of their sinks
pub record HaveOther {A : Type 0} (one other : BufferedOutput A) : Type 0 where
  pub buffers : AreOther (buffer_path one) (buffer_path other)
  pub sinks : AreOther (sink_path one) (sink_path other)

-- No two outputs share the path of their buffers, or of their sinks.
abbrev pub HaveOwnPaths : {A : Type 0} → List (BufferedOutput A) → Type 0
HaveOwnPaths outputs = AllPairs HaveOther outputs

-- This shows that the output has a chunk: an acknowledgement where it forwards and requires one,
-- that the chunk was sent where it forwards and requires none, the files of its sink where it
-- writes these.
abbrev pub IsBasisOf : {A B : Type 0} → BufferedOutput A → Basis B → Type 0
IsBasisOf (Forward settings) Acknowledged = settings.require_ack_response ≡ true
IsBasisOf (Forward settings) Written = settings.require_ack_response ≡ false
IsBasisOf (File settings) (Stored sink) = sink.items ≡ string_bytes settings.path
IsBasisOf _ _ = ⊥

-- what lets the chunks of a buffer go is as its output's settings say
pub record AreTakesOf {A B : Type 0} (found : BufferedOutput A) (takes : Takes B) : Type 0 where
  pub basis : IsBasisOf found takes.basis
  pub expires : takes.expires ≡ not (settings_of found).retry.forever
  pub drops : (takes.drops ≡ true) ↔ ((settings_of found).overflow_action ≡ DropOldestChunk)
