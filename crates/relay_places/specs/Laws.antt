-- That the places of a relay have the names of what they are the places of.
use Rattle.std.specs.Prelude.{◌≡◌, ℕ, ◌+◌, List, Some, length, slice_get, slice_range}
use Rattle.relay_conf.specs.declared.output.Output.{Output}
use Rattle.relay_conf.specs.declared.relay.Relay.{Relay}
use Rattle.relay_conf.specs.declared.relay.Source.{Source}
use Rattle.relay_places.specs.declared.places.Carriers.{Carriers}
use Rattle.relay_places.specs.Names.{carrier_names, output_name, place_names, relay_name, source_name}
use Rattle.relay_places.specs.Outputs.{outputs_of}
use Rattle.relay_places.specs.Places.{ArePlacesOf, PlacesView, chunk_place, journal_place, source_place}

-- The place of the relay, of each source and of an output's chunks and journal has its name, and
-- the places of an output's carriers have theirs, in their order.
pub record HaveTheirNames {A : Type 0} (folder : List ℕ) (relay : Relay A) (places : PlacesView)
    : Type 0 where
  pub itself : slice_get (place_names folder relay) 0 ≡ Some (relay_name folder)
  pub source : (k : ℕ) (found : Source A) → slice_get relay.sources.items k ≡ Some found
      → slice_get (place_names folder relay) (source_place k) ≡ Some (source_name found)
  pub chunks : (n : ℕ) (found : Output A) → slice_get (outputs_of relay) n ≡ Some found
      → slice_get (place_names folder relay) (chunk_place places n) ≡ Some (output_name found)
  pub journal : (n : ℕ) (found : Output A) → slice_get (outputs_of relay) n ≡ Some found
      → slice_get (place_names folder relay) (journal_place places n) ≡ Some (output_name found)
  pub carriers : (n : ℕ) (found : Output A) (span : Carriers)
      → slice_get (outputs_of relay) n ≡ Some found → slice_get places.spans n ≡ Some span
      → slice_range (place_names folder relay) span.first span.end ≡ carrier_names folder found
  pub spanned : (n : ℕ) (found : Output A) (span : Carriers)
      → slice_get (outputs_of relay) n ≡ Some found → slice_get places.spans n ≡ Some span
      → span.end ≡ span.first + length (carrier_names folder found)

-- The places of any relay have their names.
abbrev pub PlacesHaveTheirNames : Type 0 → Type 0
PlacesHaveTheirNames A = (relay : Relay A) (folder : List ℕ) (places : PlacesView)
    → ArePlacesOf relay places → HaveTheirNames folder relay places
