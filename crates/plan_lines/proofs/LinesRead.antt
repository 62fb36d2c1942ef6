-- The lines of a text, one after another.
use Rattle.std.proofs.Common.{◌≡◌, ◌∙◌, ℕ, zero, suc, ◌+◌, ◌<◌, List, [], ◌∷◌, ◌++◌, length, map, take, drop, get_or, Result, Ok, Err, refl, sym, ap, subst, arith}
use Rattle.std.specs.Borrow.{Bor}
use Rattle.std.specs.Prelude.{IfOk, IfErr}
use Rattle.std.proofs.lemmas.List.{take_more, get_or-map, length-map}

-- the bytes of lines
abbrev pub bytes_of : List (Bor (List ℕ)) → List (List ℕ)
bytes_of lines = map (λ line. line.now) lines

-- the lines, taken apart at one of them
pub split_at : (lines : List (Bor (List ℕ))) (at : ℕ) (d : Bor (List ℕ)) → at < length lines → bytes_of lines ≡ take at (bytes_of lines) ++ (get_or lines at d).now ∷ drop (suc at) (bytes_of lines)
split_at [] at d less = absurd (omega (arith, less))
split_at (x ∷ lines) zero d less = refl
split_at (x ∷ lines) (suc at) d less = ap (λ more. x.now ∷ more) (split_at lines at d (omega (arith, less)))

-- the front with one line more
pub take_next : (lines : List (Bor (List ℕ))) (at : ℕ) (d : Bor (List ℕ)) → at < length lines → take (at + 1) (bytes_of lines) ≡ take at (bytes_of lines) ++ (get_or lines at d).now ∷ []
take_next lines at d less =
    take_more (bytes_of lines) at (get_or lines at d).now (simp length-map less)
    ∙ ap (λ (l : List ℕ). take at (bytes_of lines) ++ l ∷ []) (get_or-map (λ (l : Bor (List ℕ)). l.now) lines at d (get_or lines at d).now less)

-- what holds of the one value that a call gives holds of what it gives
pub if_ok : {X E : Type 0} (r : Result X E) (x : X) (P : X → Type 0) → IfOk r (λ y. y ≡ x) → P x → IfOk r P
if_ok (Ok y) x P e p = subst P (sym e) p
if_ok (Err y) x P e p = tt

pub if_err : {X E : Type 0} (r : Result X E) (x : E) (P : E → Type 0) → IfErr r (λ y. y ≡ x) → P x → IfErr r P
if_err (Ok y) x P e p = tt
if_err (Err y) x P e p = subst P (sym e) p
