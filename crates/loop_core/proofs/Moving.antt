-- Lists whose elements go from one to another.
use Rattle.std.proofs.Common.{ℕ, ◌≡◌, ◌∙◌, ◌<◌, ◌≤◌, ◌+◌, ◌-◌, arith, List, [], ◌∷◌, ◌++◌, length, take, get_or, map, ap, sym, add-one, append_assoc, append-nil, subst}
use Rattle.std.specs.List.{All, AllZip}
use Rattle.std.proofs.lemmas.List.{map_push}
use Rattle.std.proofs.lemmas.List.Elements.{All-push, All-same}
use Rattle.std.proofs.Math.Seq.{take-suc}

-- the first of what is left goes to what was made
pub moved : {X S : Type 0} (f : X → S) (made made' : List X) (x : X) (left left' : List S) (s : S) (all : List S)
    → made' ≡ made ++ x ∷ [] → left ≡ s ∷ left' → f x ≡ s → map f made ++ left ≡ all → map f made' ++ left' ≡ all
moved {X} {S} f made made' x left left' s all m l same whole =
    let a : map f made' ≡ map f made ++ s ∷ [] = ap (map f) m ∙ map_push f made x ∙ ap (λ (z : S). map f made ++ z ∷ []) same in
    ap (λ (z : List S). z ++ left') a ∙ append_assoc (map f made) (s ∷ []) left' ∙ ap (λ (z : List S). map f made ++ z) (sym l) ∙ whole

-- the same where something is made of what is left
pub made_of : {X S : Type 0} (f : X → S) (made made' : List S) (s : S) (left left' : List X) (x : X) (all : List S)
    → made' ≡ made ++ s ∷ [] → left ≡ x ∷ left' → s ≡ f x → made ++ map f left ≡ all → made' ++ map f left' ≡ all
made_of {X} {S} f made made' s left left' x all m l same whole =
    ap (λ (z : List S). z ++ map f left') (m ∙ ap (λ (y : S). made ++ y ∷ []) same) ∙ append_assoc made (f x ∷ []) (map f left') ∙ ap (λ (z : List X). made ++ map f z) (sym l) ∙ whole

-- at its end all is there
pub moved_all : {S : Type 0} (made left all : List S) → left ≡ [] → made ++ left ≡ all → made ≡ all
moved_all {S} made left all none whole = sym (append-nil made) ∙ ap (λ (z : List S). made ++ z) (sym none) ∙ whole

-- one less is left where there is room for one less
pub fits : (left left' room room' : ℕ) → left ≤ room → left' + 1 ≡ left → room' + 1 ≡ room → left' ≤ room'
fits left left' room room' a b c = omega arith

-- and where one more place is taken
pub fits_behind : (left left' cap cap' len len' : ℕ) → left ≤ cap - len → left' + 1 ≡ left → cap' ≡ cap → len' ≡ len + 1 → left' ≤ cap' - len'
fits_behind left left' cap cap' len len' a b c d = omega arith

-- one more is shared
pub shared_more : {X S T : Type 0} (f : X → T) (g : S → T) (made made' : List X) (y : X) (xs : List S) (i : ℕ) (x : S) → made' ≡ made ++ y ∷ [] → f y ≡ g x → i < length xs
    → x ≡ get_or xs i x → map f made ≡ map g (take i xs) → map f made' ≡ map g (take (i + 1) xs)
shared_more {X} {S} {T} f g made made' y xs i x m same lt at so =
    let more : take (i + 1) xs ≡ take i xs ++ x ∷ [] = ap (λ (k : ℕ). take k xs) (add-one i) ∙ take-suc xs i x lt ∙ ap (λ (z : S). take i xs ++ z ∷ []) (sym at) in
    ap (map f) m ∙ map_push f made y ∙ ap (λ (l : List T). l ++ f y ∷ []) so ∙ ap (λ (t : T). map g (take i xs) ++ t ∷ []) same ∙ sym (map_push g (take i xs) x) ∙ ap (map g) (sym more)

-- one more on both sides
pushed : {X Y : Type 0} (R : X → Y → Type 0) (xs : List X) (ys : List Y) (x : X) (y : Y) → AllZip R xs ys → R x y → AllZip R (xs ++ x ∷ []) (ys ++ y ∷ [])
pushed R [] [] x y all one = (one, tt)
pushed R [] (b ∷ ys) x y all one = absurd all
pushed R (a ∷ xs) [] x y all one = absurd all
pushed R (a ∷ xs) (b ∷ ys) x y all one = (all.0, pushed R xs ys x y all.1 one)

-- the same of what f and g make of each
pub pushed_to : {E X Y : Type 0} (R : X → Y → Type 0) (f : E → X) (g : E → Y) (made made' : List E) (e : E) → made' ≡ made ++ e ∷ []
    → AllZip R (map f made) (map g made) → R (f e) (g e) → AllZip R (map f made') (map g made')
pushed_to {E} {X} {Y} R f g made made' e m all one =
    let more : AllZip R (map f made ++ f e ∷ []) (map g made ++ g e ∷ []) = pushed R (map f made) (map g made) (f e) (g e) all one in
    let on_f : AllZip R (map f (made ++ e ∷ [])) (map g made ++ g e ∷ []) = subst (λ (l : List X). AllZip R l (map g made ++ g e ∷ [])) (sym (map_push f made e)) more in
    let on_g : AllZip R (map f (made ++ e ∷ [])) (map g (made ++ e ∷ [])) = subst (λ (l : List Y). AllZip R (map f (made ++ e ∷ [])) l) (sym (map_push g made e)) on_f in
    subst (λ (l : List E). AllZip R (map f l) (map g l)) (sym m) on_g

-- what holds of each of these holds where one more is made
pub all_more : {E X : Type 0} (P : X → Type 0) (f : E → X) (made made' : List E) (e : E) → made' ≡ made ++ e ∷ [] → All P (map f made) → P (f e) → All P (map f made')
all_more P f made made' e m all one = All-same P (map f made') (map f made ++ f e ∷ []) (ap (map f) m ∙ map_push f made e) (All-push P (map f made) (f e) all one)

-- nothing is made yet, and all is left
pub all_left : {X S : Type 0} (f : X → S) (made : List S) (left xs : List X) → made ≡ [] → left ≡ xs → made ++ map f left ≡ map f xs
all_left {X} {S} f made left xs none is = ap (λ (z : List S). z ++ map f left) none ∙ ap (map f) is

-- there is room for all that is left
pub enough : (left all count room : ℕ) → left ≡ all → count ≡ all → count ≤ room → left ≤ room
enough left all count room a b c = omega arith

-- also behind nothing
pub enough_behind : (left all count cap len : ℕ) → left ≡ all → count ≡ all → count ≤ cap → len ≡ 0 → left ≤ cap - len
enough_behind left all count cap len a b c d = omega arith
