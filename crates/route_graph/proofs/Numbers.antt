-- Lists that grow by an element.
use Rattle.std.proofs.Common.{◌≡◌, ℕ, ◌+◌, ◌<◌, Option, Some, None, List, [], ◌∷◌, ◌++◌, take, length, get_or, refl, sym, ap, ◌∙◌}
use Rattle.std.specs.List.{filter_map, cons_option}
use Rattle.std.specs.Option.{option_to_list}
use Rattle.std.proofs.lemmas.List.{take_more}
use Rattle.std.proofs.lemmas.List.Elements.{filter_map-append}
use Rattle.relay_conf.specs.declared.output.Output.{Output}
use Rattle.route_graph.specs.Table.{hop_of}
use Rattle.route_graph.specs.declared.hop.Hop.{Hop}

alone : {X : Type 0} (o : Option X) → cons_option o [] ≡ option_to_list o
alone None = refl
alone (Some x) = refl

-- one output more
pub hops-more : {A : Type 0} (outputs : List (Output A)) (count : ℕ) (output : Output A) (hops more : List Hop) → count < length outputs → output ≡ get_or outputs count output → hops ≡ filter_map hop_of (take count outputs) → more ≡ hops ++ option_to_list (hop_of output) → more ≡ filter_map hop_of (take (count + 1) outputs)
hops-more {A} outputs count output hops more less is before e =
    let last : filter_map hop_of (get_or outputs count output ∷ []) ≡ option_to_list (hop_of output) = alone (hop_of (get_or outputs count output)) ∙ ap (λ (x : Output A). option_to_list (hop_of x)) (sym is) in
    let all : filter_map hop_of (take (count + 1) outputs) ≡ filter_map hop_of (take count outputs) ++ option_to_list (hop_of output) =
    ap (filter_map hop_of) (take_more outputs count output less) ∙ filter_map-append hop_of (take count outputs) (get_or outputs count output ∷ []) ∙ ap (λ (x : List Hop). filter_map hop_of (take count outputs) ++ x) last in
    e ∙ ap (λ (x : List Hop). x ++ option_to_list (hop_of output)) before ∙ sym all
