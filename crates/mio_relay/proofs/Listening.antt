-- Sources that are bound one after another.
use Rattle.std.proofs.Common.{ℕ, zero, suc, ◌≡◌, ◌∙◌, List, [], ◌∷◌, ◌++◌, length, map, ap, sym, subst, append_assoc, append-nil}
use Rattle.std.specs.Prelude.{IfSome, slice_get}
use Rattle.std.proofs.lemmas.List.{map_push, length-map}
use Rattle.relay_sockets.specs.Endpoints.{Endpoint}
use Rattle.mio_relay.specs.Connections.{AreListening, Hosted, Served, sources_in}

-- none yet
pub none_listens : (bound : List Endpoint) (hosted : List Hosted) → bound ≡ [] → hosted ≡ [] → AreListening bound hosted
none_listens bound hosted e none = subst (AreListening bound) (sym none) record { own = e; numbered = λ place. tt }

-- one more behind them
pushed : (P : ℕ → Hosted → Type 0) (xs : List Hosted) (x : Hosted) → ((k : ℕ) → IfSome (slice_get xs k) (P k)) → P (length xs) x
    → (k : ℕ) → IfSome (slice_get (xs ++ x ∷ []) k) (P k)
pushed P [] x each p zero = p
pushed P [] x each p (suc k) = tt
pushed P (y ∷ ys) x each p zero = each zero
pushed P (y ∷ ys) x each p (suc k) = pushed (λ (n : ℕ). P (suc n)) ys x (λ (n : ℕ). each (suc n)) p k

-- the next source has its listener
pub one_more : (bound bound' : List Endpoint) (hosted hosted' : List Hosted) (h : Hosted) (endpoint : Endpoint) → AreListening bound hosted
    → bound' ≡ bound ++ endpoint ∷ [] → endpoint ≡ h.source.endpoint → h.number ≡ length bound → hosted' ≡ hosted ++ h ∷ [] → AreListening bound' hosted'
one_more bound bound' hosted hosted' h endpoint listening b same n hs =
    let at : Hosted → Endpoint = λ x. x.source.endpoint in
    let own : bound' ≡ map at hosted' =
    b ∙ ap (λ (e : Endpoint). bound ++ e ∷ []) same ∙ ap (λ (l : List Endpoint). l ++ at h ∷ []) listening.own ∙ sym (map_push at hosted h) ∙ sym (ap (map at) hs) in
    let place : h.number ≡ length hosted = n ∙ ap length listening.own ∙ length-map hosted at in
    record {
      own = own;
      numbered = subst (λ (l : List Hosted). (k : ℕ) → IfSome (slice_get l k) (λ x. x.number ≡ k)) (sym hs)
          (pushed (λ k x. x.number ≡ k) hosted h listening.numbered place);
    }

-- the first of what is left goes to what was made
pub moved : {S : Type 0} (f : Hosted → Served) (e : S → Served) (made made' : List Hosted) (x : Hosted) (left left' : List S) (s : S) (all : List Served)
    → made' ≡ made ++ x ∷ [] → left ≡ s ∷ left' → f x ≡ e s → map f made ++ map e left ≡ all → map f made' ++ map e left' ≡ all
moved {S} f e made made' x left left' s all m l same whole =
    let a : map f made' ≡ map f made ++ e s ∷ [] = ap (map f) m ∙ map_push f made x ∙ ap (λ (z : Served). map f made ++ z ∷ []) same in
    let b : map e left ≡ e s ∷ map e left' = ap (map e) l in
    ap (λ (z : List Served). z ++ map e left') a ∙ append_assoc (map f made) (e s ∷ []) (map e left') ∙ ap (λ (z : List Served). map f made ++ z) (sym b) ∙ whole

-- At its end all is there.
pub moved_all : {S : Type 0} (e : S → Served) (made : List Served) (left : List S) (all : List Served) → left ≡ [] → made ++ map e left ≡ all → made ≡ all
moved_all {S} e made left all none whole = sym (append-nil made) ∙ ap (λ (z : List S). made ++ map e z) (sym none) ∙ whole

-- the addresses of the sources are those of what hosts them
pub endpoints_in : (hosted : List Hosted) → map (λ h. h.source.endpoint) hosted ≡ map (λ source. source.endpoint) (sources_in hosted)
endpoints_in [] i = []
endpoints_in (h ∷ hosted) i = h.source.endpoint ∷ endpoints_in hosted i

-- what g makes of what f makes
pub map_again : {X Y Z : Type 0} (f : X → Y) (g : Y → Z) (xs : List X) → map g (map f xs) ≡ map (λ x. g (f x)) xs
map_again f g [] i = []
map_again f g (x ∷ xs) i = g (f x) ∷ map_again f g xs i
