-- There is one way to read hex digits.
use Rattle.std.proofs.Common.{◌≡◌, ◌⊎◌, inl, inr, ℕ, List, [], ◌∷◌, ◌++◌, take, Ok, refl, sym, ap, ◌∙◌, subst}
use Rattle.std.specs.Prelude.{IsErr}
use Rattle.hex.specs.Hex.{decode_of}
use Rattle.hex.proofs.HexLemmas.{decode_of-same}
use Rattle.stream_listing.specs.HexText.{AreDigitsUpTo}
use Rattle.stream_listing.proofs.HexPairs.{AreDigitsOf, pairs_of, pairs_decode}

-- one reading goes on where the other ended
abbrev pub GoesOn : List ℕ → List ℕ → List ℕ → List ℕ → Type 0
GoesOn bytes left more_bytes rest = (more : List ℕ) × (more_bytes ≡ bytes ++ more) × AreDigitsUpTo left more rest

same_byte : (high low one other : ℕ) → decode_of (high ∷ low ∷ []) ≡ Ok (one ∷ []) → decode_of (high ∷ low ∷ []) ≡ Ok (other ∷ []) → one ≡ other
same_byte high low one other h k = let e = decode_of-same (high ∷ low ∷ []) (one ∷ []) (other ∷ []) h k in cc

compare_fronts : (front other bytes others left rest : List ℕ) → AreDigitsOf front bytes → AreDigitsOf other others → front ++ left ≡ other ++ rest
    → GoesOn bytes left others rest ⊎ GoesOn others rest bytes left
compare_fronts [] other [] others left rest h k e = inl (others, refl, record { front = other; spelled = pairs_decode other others k; whole = e })
compare_fronts [] other (b ∷ bytes) others left rest h k e = absurd h
compare_fronts (d ∷ []) other bytes others left rest h k e = absurd h
compare_fronts (c ∷ d ∷ front) [] bytes [] left rest h k e = inr (bytes, refl, record { front = c ∷ d ∷ front; spelled = pairs_decode (c ∷ d ∷ front) bytes h; whole = sym e })
compare_fronts (c ∷ d ∷ front) [] bytes (b ∷ others) left rest h k e = absurd k
compare_fronts (c ∷ d ∷ front) (x ∷ []) bytes others left rest h k e = absurd k
compare_fronts (c ∷ d ∷ front) (x ∷ y ∷ other) [] others left rest h k e = absurd h
compare_fronts (c ∷ d ∷ front) (x ∷ y ∷ other) (b ∷ bytes) [] left rest h k e = absurd k
compare_fronts (c ∷ d ∷ front) (x ∷ y ∷ other) (b ∷ bytes) (a ∷ others) left rest h k e =
    let high : x ≡ c = cc in
    let low : y ≡ d = cc in
    let tails : front ++ left ≡ other ++ rest = cc in
    let byte : b ≡ a = same_byte c d b a h.0 (subst (λ l. decode_of (c ∷ l ∷ []) ≡ Ok (a ∷ [])) low (subst (λ l. decode_of (l ∷ y ∷ []) ≡ Ok (a ∷ [])) high k.0)) in
    elim (compare_fronts front other bytes others left rest h.1 k.1 tails) [
      | inl on ↦ inl (on.0, ap (λ l. a ∷ l) on.1 ∙ ap (λ v. v ∷ (bytes ++ on.0)) (sym byte), on.2)
      | inr on ↦ inr (on.0, ap (λ l. b ∷ l) on.1 ∙ ap (λ v. v ∷ (others ++ on.0)) byte, on.2)
    ]

-- of two readings one goes on where the other ended
pub compare : (digits bytes others left rest : List ℕ) → AreDigitsUpTo digits bytes left → AreDigitsUpTo digits others rest
    → GoesOn bytes left others rest ⊎ GoesOn others rest bytes left
compare digits bytes others left rest h k =
    compare_fronts h.front k.front bytes others left rest (pairs_of h.front bytes h.spelled) (pairs_of k.front others k.spelled) (sym h.whole ∙ k.whole)

-- nothing goes on where no byte stands next
pub ends_here : (bytes left others rest : List ℕ) → (left ≡ []) ⊎ IsErr (decode_of (take 2 left)) → GoesOn bytes left others rest → (others ≡ bytes ++ []) × (rest ≡ left)
ends_here bytes left others rest none h = ends h.0 h.2.front h.1 (pairs_of h.2.front h.0 h.2.spelled) h.2.whole where
  no_byte : (c d byte : ℕ) (front : List ℕ) → (left ≡ []) ⊎ IsErr (decode_of (take 2 left)) → decode_of (c ∷ d ∷ []) ≡ Ok (byte ∷ []) → left ≡ c ∷ d ∷ front → ⊥
  no_byte c d byte front (inl none) s w = (let e = sym w ∙ none in cc)
  no_byte c d byte front (inr bad) s w =
      let broken : IsErr (decode_of (c ∷ d ∷ [])) = subst (λ l. IsErr (decode_of (take 2 l))) w bad in
      cc (rw s at broken)

  ends : (more front : List ℕ) → others ≡ bytes ++ more → AreDigitsOf front more → left ≡ front ++ rest → (others ≡ bytes ++ []) × (rest ≡ left)
  ends [] [] e s w = (e, sym w)
  ends (b ∷ more) [] e s w = absurd s
  ends more (d ∷ []) e s w = absurd s
  ends [] (c ∷ d ∷ front) e s w = absurd s
  ends (b ∷ more) (c ∷ d ∷ front) e s w = absurd (no_byte c d b (front ++ rest) none s.0 w)
