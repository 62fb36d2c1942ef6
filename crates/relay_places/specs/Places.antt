-- Where the places of a relay stand in the list of their names.
use Rattle.std.specs.Prelude.{◌≡◌, ℕ, ◌+◌, List, [], ◌∷◌, length}
use Rattle.relay_conf.specs.declared.output.Output.{Output}
use Rattle.relay_conf.specs.declared.output.Output.TheVariants as output
use Rattle.relay_conf.specs.declared.relay.Relay.{Relay}
use Rattle.relay_places.specs.declared.places.Carriers.{Carriers}
use Rattle.relay_places.specs.Outputs.{outputs_of}

-- how many sources there are, and of each output that has a buffer the places of its carriers
pub record PlacesView : Type 0 where
  pub sources : ℕ
  pub spans : List Carriers

-- the place of the source with this number; the relay is before all
abbrev pub source_place : ℕ → ℕ
source_place k = 1 + k

-- the place of the chunks of the output with this number; the sources are before those
abbrev pub chunk_place : PlacesView → ℕ → ℕ
chunk_place places n = 1 + places.sources + n

-- the place of its journal; the chunks of all outputs are before those
abbrev pub journal_place : PlacesView → ℕ → ℕ
journal_place places n = 1 + places.sources + length places.spans + n

-- the first place behind all journals
abbrev pub first_carrier : PlacesView → ℕ
first_carrier places = 1 + places.sources + length places.spans + length places.spans

-- how many servers an output has, or sinks
abbrev pub carriers_in : {A : Type 0} → Output A → ℕ
carriers_in (output.Null line) = 0
carriers_in (output.Relabel target line) = 0
carriers_in (output.Forward settings line) = length settings.servers.items
carriers_in (output.File settings line) = 1

-- the places of the carriers of these outputs, one behind the other from this place on
abbrev pub spans_from : {A : Type 0} → ℕ → List (Output A) → List Carriers
spans_from first [] = []
spans_from first (found ∷ rest) = record { first = first; end = first + carriers_in found }
    ∷ spans_from (first + carriers_in found) rest

-- The places are those of this relay.
pub record ArePlacesOf {A : Type 0} (relay : Relay A) (places : PlacesView) : Type 0 where
  pub sources : places.sources ≡ length relay.sources.items
  pub outputs : length places.spans ≡ length (outputs_of relay)
  pub spans : places.spans ≡ spans_from (first_carrier places) (outputs_of relay)
