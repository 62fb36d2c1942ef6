-- The ports of sources that are bound.
use Rattle.std.proofs.Common.{ℕ, ◌≡◌, ◌∙◌, ◌<◌, ◌+◌, List, [], ◌∷◌, ◌++◌, length, take, get_or, ap, sym, add-one, subst, Option, Some}
use Rattle.std.specs.Prelude.{IfSome, option_map, slice_get}
use Rattle.std.specs.List.{AllZip}
use Rattle.std.proofs.Math.Seq.{take-suc}
use Rattle.std.proofs.lemmas.Option.{slice_get_read, slice_get-map}
use Rattle.relay_sockets.specs.Endpoints.{Endpoint, IsPortOf}
use Rattle.mio_relay.specs.Connections.{AreListening, ArePortsOf, Hosted, sources_in}

-- the port of a source that is hosted
abbrev pub IsPortAt : Hosted → ℕ → Type 0
IsPortAt h port = IsPortOf port h.source.endpoint

-- the listener at a place has the port that was bound there
port_at : (bound : List Endpoint) (hosted : List Hosted) (i : ℕ) (h : Hosted) (port number : ℕ) → AreListening bound hosted → i < length hosted → h ≡ get_or hosted i h
    → number ≡ h.number → IfSome (slice_get bound number) (IsPortOf port) → IsPortAt h port
port_at bound hosted i h port number listening lt at n its =
    let there : slice_get hosted i ≡ Some h = slice_get_read hosted (length hosted) i h refl_length lt at in
    let place : h.number ≡ i = subst (λ (o : Option Hosted). IfSome o (λ x. x.number ≡ i)) there (listening.numbered i) in
    let endpoint : Hosted → Endpoint = λ x. x.source.endpoint in
    let found : slice_get bound i ≡ Some h.source.endpoint =
    ap (λ (l : List Endpoint). slice_get l i) listening.own ∙ slice_get-map endpoint hosted i ∙ ap (option_map endpoint) there in
    subst (λ (o : Option Endpoint). IfSome o (IsPortOf port)) found (subst (λ (k : ℕ). IfSome (slice_get bound k) (IsPortOf port)) (n ∙ place) its)
  where
    refl_length : length hosted ≡ length hosted
    refl_length j = length hosted

-- one more on both sides
pushed : {X Y : Type 0} (R : X → Y → Type 0) (xs : List X) (ys : List Y) (x : X) (y : Y) → AllZip R xs ys → R x y → AllZip R (xs ++ x ∷ []) (ys ++ y ∷ [])
pushed R [] [] x y all one = (one, tt)
pushed R [] (b ∷ ys) x y all one = absurd all
pushed R (a ∷ xs) [] x y all one = absurd all
pushed R (a ∷ xs) (b ∷ ys) x y all one = (all.0, pushed R xs ys x y all.1 one)

-- one more is made, of the next element
one_more : {X Y : Type 0} (R : X → Y → Type 0) (xs : List X) (i : ℕ) (x : X) (made made' : List Y) (y : Y) → made' ≡ made ++ y ∷ [] → i < length xs
    → x ≡ get_or xs i x → AllZip R (take i xs) made → R x y → AllZip R (take (i + 1) xs) made'
one_more {X} {Y} R xs i x made made' y m lt at all one =
    let more : take (i + 1) xs ≡ take i xs ++ x ∷ [] = ap (λ (k : ℕ). take k xs) (add-one i) ∙ take-suc xs i x lt ∙ ap (λ (z : X). take i xs ++ z ∷ []) (sym at) in
    subst (λ l. AllZip R l made') (sym more) (subst (λ l. AllZip R (take i xs ++ x ∷ []) l) (sym m) (pushed R (take i xs) made x y all one))

-- the port of the next listener is added
pub port_more : (bound : List Endpoint) (hosted : List Hosted) (i : ℕ) (h : Hosted) (ports ports' : List ℕ) (port number : ℕ) → AreListening bound hosted → i < length hosted
    → h ≡ get_or hosted i h → number ≡ h.number → IfSome (slice_get bound number) (IsPortOf port) → ports' ≡ ports ++ port ∷ []
    → AllZip IsPortAt (take i hosted) ports → AllZip IsPortAt (take (i + 1) hosted) ports'
port_more bound hosted i h ports ports' port number listening lt at n its m all =
    one_more IsPortAt hosted i h ports ports' port m lt at all (port_at bound hosted i h port number listening lt at n its)

-- these are the ports of the sources
pub are_ports : (hosted : List Hosted) (ports : List ℕ) → AllZip IsPortAt hosted ports → ArePortsOf (sources_in hosted) ports
are_ports [] [] all = tt
are_ports [] (p ∷ ports) all = absurd all
are_ports (h ∷ hosted) [] all = absurd all
are_ports (h ∷ hosted) (p ∷ ports) all = (all.0, are_ports hosted ports all.1)
