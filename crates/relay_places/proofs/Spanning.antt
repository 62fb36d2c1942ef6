-- The spans of carriers, and the names in them.
use Rattle.std.proofs.Common.{◌≡◌, ℕ, zero, suc, ◌+◌, List, [], ◌∷◌, ◌++◌, length, Some, refl, sym, ap, ◌∙◌, subst, arith}
use Rattle.std.specs.List.{flat_map, slice_get, slice_range}
use Rattle.std.proofs.lemmas.List.{append_assoc, append-nil, length-append, length-map}
use Rattle.std.proofs.lemmas.List.Concat.{flat_map-append}
use Rattle.std.proofs.lemmas.Option.{none-some, same_Some}
use Rattle.relay_conf.specs.declared.output.Output.{Output}
use Rattle.relay_conf.specs.declared.output.Output.TheVariants as output
use Rattle.relay_places.specs.declared.places.Carriers.{Carriers}
use Rattle.relay_places.specs.Names.{carrier_names, server_name}
use Rattle.relay_places.specs.Places.{carriers_in, spans_from}
use Rattle.relay_places.proofs.Finding.{range_between}

-- These are the places of names, of which so many stand behind each other.
pub record IsSpanOf (names : List (List ℕ)) (span : Carriers) (own : List (List ℕ)) : Type 0 where
  pub names_are : slice_range names span.first span.end ≡ own
  pub end_is : span.end ≡ span.first + length own

module _ {A : Type 0} (folder : List ℕ) where
  pub count_is : (found : Output A) → length (carrier_names folder found) ≡ carriers_in found
  count_is (output.Null line) = refl
  count_is (output.Relabel target line) = refl
  count_is (output.Forward settings line) = length-map settings.servers.items server_name
  count_is (output.File settings line) = refl

  -- the first span
  first_span : (front : List (List ℕ)) (first : ℕ) (found : Output A) (rest : List (Output A))
      → length front ≡ first
      → IsSpanOf (front ++ flat_map (carrier_names folder) (found ∷ rest))
      (record { first = first; end = first + carriers_in found }) (carrier_names folder found)
  first_span front first found rest f =
      let own = carrier_names folder found in
      let end : first + carriers_in found ≡ first + length own = omega (arith, count_is found) in
      record {
        names_are = range_between front own (flat_map (carrier_names folder) rest) first (first + carriers_in found) f end;
        end_is = end;
      }

  pub span_of : (front : List (List ℕ)) (first : ℕ) (outputs : List (Output A)) (n : ℕ) (found : Output A) (span : Carriers)
      → length front ≡ first
      → slice_get outputs n ≡ Some found
      → slice_get (spans_from first outputs) n ≡ Some span
      → IsSpanOf (front ++ flat_map (carrier_names folder) outputs) span (carrier_names folder found)
  span_of front first [] n found span f o s = absurd (none-some found o)
  span_of front first (one ∷ rest) zero found span f o s =
      let span_is = same_Some _ span s in
      let found_is = same_Some one found o in
      subst (λ (x : Output A). IsSpanOf (front ++ flat_map (carrier_names folder) (one ∷ rest)) span (carrier_names folder x)) found_is
      (subst (λ (x : Carriers). IsSpanOf (front ++ flat_map (carrier_names folder) (one ∷ rest)) x (carrier_names folder one)) span_is
      (first_span front first one rest f))
  span_of front first (one ∷ rest) (suc n) found span f o s =
      let own = carrier_names folder one in
      let behind : length (front ++ own) ≡ first + carriers_in one = omega (arith, count_is one, length-append front own) in
      let below = span_of (front ++ own) (first + carriers_in one) rest n found span behind o s in
      subst (λ (names : List (List ℕ)). IsSpanOf names span (carrier_names folder found)) (append_assoc front own (flat_map (carrier_names folder) rest)) below

  -- there are as many
  pub length-spans : (first : ℕ) (outputs : List (Output A)) → length (spans_from first outputs) ≡ length outputs
  length-spans first [] = refl
  length-spans first (one ∷ rest) = ap suc (length-spans (first + carriers_in one) rest)

  -- one output more
  pub spans_push : (first : ℕ) (outputs : List (Output A)) (one : Output A) (at end : ℕ)
      → at ≡ first + length (flat_map (carrier_names folder) outputs)
      → end ≡ at + length (carrier_names folder one)
      → spans_from first (outputs ++ one ∷ []) ≡ spans_from first outputs ++ record { first = at; end = end } ∷ []
  spans_push first [] one at end a e =
      let at_is : first ≡ at = omega arith in
      let end_is : first + carriers_in one ≡ end = omega (arith, count_is one) in
      λ i. record { first = at_is i; end = end_is i } ∷ []
  spans_push first (other ∷ rest) one at end a e =
      let own = carrier_names folder other in
      let behind : at ≡ (first + carriers_in other) + length (flat_map (carrier_names folder) rest) = omega (arith, count_is other, length-append own (flat_map (carrier_names folder) rest)) in
      ap (λ (all : List Carriers). record { first = first; end = first + carriers_in other } ∷ all) (spans_push (first + carriers_in other) rest one at end behind e)

  -- the names with those of one output more
  pub carriers_more : (done : List (Output A)) (one : Output A) (all : List (Output A)) → all ≡ done ++ one ∷ []
      → flat_map (carrier_names folder) all ≡ flat_map (carrier_names folder) done ++ carrier_names folder one
  carriers_more done one all more =
      ap (flat_map (carrier_names folder)) more
      ∙ flat_map-append (carrier_names folder) done (one ∷ [])
      ∙ ap (λ (z : List (List ℕ)). flat_map (carrier_names folder) done ++ z) (append-nil (carrier_names folder one))

  -- the spans with that of one output more, whose names were added behind the others
  pub spans_more : (base names names' : List (List ℕ)) (done : List (Output A)) (one : Output A) (all : List (Output A)) (spans spans' : List Carriers) (first at end : ℕ)
      → length base ≡ first → names ≡ base ++ flat_map (carrier_names folder) done → names' ≡ names ++ carrier_names folder one
      → at ≡ length names → end ≡ length names' → all ≡ done ++ one ∷ []
      → spans ≡ spans_from first done → spans' ≡ spans ++ record { first = at; end = end } ∷ []
      → spans' ≡ spans_from first all
  spans_more base names names' done one all spans spans' first at end f n m a e more s p =
      let own = flat_map (carrier_names folder) done in
      let at_is : at ≡ first + length own = omega (arith, ap length n, length-append base own, a, f) in
      let end_is : end ≡ at + length (carrier_names folder one) = omega (arith, ap length m, length-append names (carrier_names folder one), a, e) in
      p ∙ ap (λ (z : List Carriers). z ++ record { first = at; end = end } ∷ []) s
      ∙ sym (spans_push first done one at end at_is end_is)
      ∙ ap (spans_from first) (sym more)
