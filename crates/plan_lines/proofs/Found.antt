-- What is found of what a line names.
use Rattle.std.proofs.Common.{◌≡◌, ◌∙◌, ℕ, ◌==◌, Bool, true, false, cond, List, [], ◌∷◌, Option, Some, None, Result, Ok, Err, IsSome, refl, sym, subst}
use Rattle.std.specs.Prelude.{is_some, find, option_map, OnOk, IfErr}
use Rattle.std.specs.Option.{option_and_then, option_map_or}
use Rattle.std.proofs.lemmas.Bool.{eqb-true}
use Rattle.relay_conf.specs.declared.relay.Source.{Source}
use Rattle.relay_net.specs.Network.{source_of_port}
use Rattle.relay_net.specs.declared.node.Node.{Node}

some_found : {X : Type 0} (f : X → ℕ) (n : ℕ) (found : Option X) → Some n ≡ option_map f found → is_some found ≡ true
some_found f n None e = absurd (cc)
some_found f n (Some x) e = refl

-- the port of a source that was found by it
port_found : {A : Type 0} (wanted n : ℕ) (sources : List (Source A)) → Some n ≡ option_map (λ source. source.port) (find (λ source. source.port == wanted) sources) → n ≡ wanted
port_found wanted n [] e = absurd (cc)
port_found wanted n (s ∷ sources) e = by (port_found wanted n sources) (s.port == wanted) refl e
  where
    by : (Some n ≡ option_map (λ source. source.port) (find (λ source. source.port == wanted) sources) → n ≡ wanted)
        → (b : Bool) → (s.port == wanted) ≡ b → Some n ≡ option_map (λ source. source.port) (cond b (Some s) (find (λ source. source.port == wanted) sources)) → n ≡ wanted
    by later true is e = let same : n ≡ s.port = cc in same ∙ eqb-true s.port wanted is
    by later false is e = later e

-- a source that is found by a port has it, and is one of the relay that was found
pub source_found : {A : Type 0} (found : Option (Node A)) (wanted n : ℕ) → Some n ≡ option_map (λ source. source.port) (option_and_then (λ node. source_of_port node.relay wanted) found)
    → (n ≡ wanted) × (option_map_or (λ node. is_some (source_of_port node.relay n)) found false ≡ true)
source_found None wanted n e = absurd (cc)
source_found (Some node) wanted n e =
    let same = port_found wanted n node.relay.sources.items e in
    (same, subst (λ port. is_some (source_of_port node.relay port) ≡ true) (sym same) (some_found (λ source. source.port) n (source_of_port node.relay wanted) e))

-- what is found at an index is there
pub index_found : {X : Type 0} (index n : ℕ) (found : Option X) → Some n ≡ option_map (λ _. index) found → (n ≡ index) × IsSome found
index_found index n None e = absurd (cc)
index_found index n (Some x) e = let same : n ≡ index = cc in (same, refl)

-- what holds of each error that a call gives
pub map_err : {T E : Type 0} {P Q : E → Type 0} (r : Result T E) → ((e : E) → P e → Q e) → IfErr r P → IfErr r Q
map_err (Ok x) f p = tt
map_err (Err e) f p = f e p

-- what a call that succeeds shows
pub on_ok : {T E P Q : Type 0} (r : Result T E) → (P → Q) → OnOk r P → OnOk r Q
on_ok (Ok x) f p = f p
on_ok (Err e) f p = tt
