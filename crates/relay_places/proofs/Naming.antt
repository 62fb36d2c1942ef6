-- The places of a relay have their names.
use Rattle.std.proofs.Common.{◌≡◌, ℕ, ◌+◌, List, [], ◌∷◌, ◌++◌, length, map, Some, refl, sym, ap, ◌∙◌, arith}
use Rattle.std.specs.List.{flat_map, slice_get}
use Rattle.std.proofs.lemmas.List.{length-append, length-map}
use Rattle.relay_conf.specs.declared.output.Output.{Output}
use Rattle.relay_conf.specs.declared.relay.Relay.{Relay}
use Rattle.relay_conf.specs.declared.relay.Source.{Source}
use Rattle.relay_places.specs.declared.places.Carriers.{Carriers}
use Rattle.relay_places.specs.Laws.{HaveTheirNames, PlacesHaveTheirNames}
use Rattle.relay_places.specs.Names.{carrier_names, output_name, relay_name, source_name}
use Rattle.relay_places.specs.Outputs.{outputs_of}
use Rattle.relay_places.specs.Places.{ArePlacesOf, PlacesView, first_carrier, spans_from}
use Rattle.relay_places.proofs.Finding.{get_left, named}
use Rattle.relay_places.proofs.Spanning.{IsSpanOf, span_of, length-spans}

module _ {A : Type 0} (folder : List ℕ) (sources : List (Source A)) (outputs : List (Output A)) where
  abbrev itself : List (List ℕ)
  itself = relay_name folder ∷ []

  abbrev front : List (List ℕ)
  front = relay_name folder ∷ map source_name sources

  abbrev chunks : List (List ℕ)
  chunks = front ++ map output_name outputs

  abbrev journals : List (List ℕ)
  journals = chunks ++ map output_name outputs

  abbrev carriers : List (List ℕ)
  carriers = flat_map (carrier_names folder) outputs

  length-front : length front ≡ 1 + length sources
  length-front = omega (arith, length-map sources (source_name {A = A}))

  length-chunks : length chunks ≡ 1 + length sources + length outputs
  length-chunks = omega (arith, length-front, length-append front (map output_name outputs), length-map outputs (output_name {A = A}))

  pub length-journals : length journals ≡ 1 + length sources + length outputs + length outputs
  length-journals = omega (arith, length-chunks, length-append chunks (map output_name outputs), length-map outputs (output_name {A = A}))

  pub source_named : (k : ℕ) (found : Source A) → slice_get sources k ≡ Some found
      → slice_get (journals ++ carriers) (1 + k) ≡ Some (source_name found)
  source_named k found h =
      let at = named source_name itself sources (1 + k) k found h (omega arith) in
      get_left journals carriers (1 + k) _ (get_left chunks (map output_name outputs) (1 + k) _ (get_left front (map output_name outputs) (1 + k) _ at))

  pub chunks_named : (place n : ℕ) (found : Output A) → slice_get outputs n ≡ Some found → place ≡ 1 + length sources + n
      → slice_get (journals ++ carriers) place ≡ Some (output_name found)
  chunks_named place n found h is =
      let at = named output_name front outputs place n found h (omega (arith, length-front)) in
      get_left journals carriers place _ (get_left chunks (map output_name outputs) place _ at)

  pub journal_named : (place n : ℕ) (found : Output A) → slice_get outputs n ≡ Some found → place ≡ 1 + length sources + length outputs + n
      → slice_get (journals ++ carriers) place ≡ Some (output_name found)
  journal_named place n found h is =
      let at = named output_name chunks outputs place n found h (omega (arith, length-chunks)) in
      get_left journals carriers place _ at

module _ {A : Type 0} (relay : Relay A) (folder : List ℕ) (places : PlacesView) (h : ArePlacesOf relay places) where
  abbrev sources : List (Source A)
  sources = relay.sources.items

  abbrev outputs : List (Output A)
  outputs = outputs_of relay

  spanned : (n : ℕ) (found : Output A) (span : Carriers) → slice_get outputs n ≡ Some found → slice_get places.spans n ≡ Some span
      → IsSpanOf (journals folder sources outputs ++ carriers folder sources outputs) span (carrier_names folder found)
  spanned n found span o s =
      let first : length (journals folder sources outputs) ≡ first_carrier places = omega (arith, length-journals folder sources outputs, h.sources, h.outputs) in
      span_of folder (journals folder sources outputs) (first_carrier places) outputs n found span first o (ap (λ (spans : List Carriers). slice_get spans n) (sym h.spans) ∙ s)

  pub have_names : HaveTheirNames folder relay places
  have_names = record {
    itself = refl;
    source = λ k found o. source_named folder sources outputs k found o;
    chunks = λ n found o. chunks_named folder sources outputs _ n found o (omega (arith, h.sources));
    journal = λ n found o. journal_named folder sources outputs _ n found o (omega (arith, h.sources, h.outputs));
    carriers = λ n found span o s. (spanned n found span o s).names_are;
    spanned = λ n found span o s. (spanned n found span o s).end_is;
  }

pub places_named : (A : Type 0) → PlacesHaveTheirNames A
places_named A relay folder places h = have_names relay folder places h

-- the places that are counted as their names are put
pub are_places : {A : Type 0} (relay : Relay A) (folder : List ℕ) (places : PlacesView) (outs : List (Output A)) (names : List (List ℕ)) (first : ℕ)
    → outs ≡ outputs_of relay → places.sources ≡ length relay.sources.items
    → names ≡ journals folder relay.sources.items outs → first ≡ length names → places.spans ≡ spans_from first outs
    → ArePlacesOf relay places
are_places relay folder places outs names first o s n f spans =
    let long : length places.spans ≡ length outs = ap length spans ∙ length-spans folder first outs in
    let first_is : first ≡ first_carrier places = omega (arith, s, long, f, ap length n, length-journals folder relay.sources.items outs) in
    record {
      sources = s;
      outputs = long ∙ ap length o;
      spans = spans ∙ ap (λ (at : ℕ). spans_from at outs) first_is ∙ ap (spans_from (first_carrier places)) o;
    }
