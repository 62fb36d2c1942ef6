-- Texts parted by a separator, and joined again.
use Rattle.std.proofs.Common.{◌≡◌, ◌≢◌, ℕ, ◌<◌, ◌==◌, Bool, true, false, List, [], ◌∷◌, ◌++◌, length, inl, inr, refl, sym, ap, ◌∙◌, arith}
use Rattle.std.specs.List.{AllByRecursion, slice_split, onto_first, join_with_byte}
use Rattle.std.proofs.lemmas.Bool.{cases_eq, eq-eqb, ne_eqb, false≢true}
use Rattle.std.proofs.lemmas.List.{append-nil}
use Rattle.std.proofs.lemmas.List.Splits.{slice_split-cons_yes, slice_split-cons_no, length-slice_split}
use Rattle.tag_pattern.specs.Cuts.{is_among, BeginsWith, IsCut}

-- a text without the byte c
abbrev pub HasNo : ℕ → List ℕ → Type 0
HasNo c text = AllByRecursion (λ b. b ≢ c) text

abbrev pub pieces : ℕ → List ℕ → List (List ℕ)
pieces c text = slice_split (λ b. b == c) text

onto_lacks : (c b : ℕ) (xs : List (List ℕ)) → b ≢ c → AllByRecursion (HasNo c) xs → AllByRecursion (HasNo c) (onto_first b xs)
onto_lacks c b [] other h = ((other, tt), tt)
onto_lacks c b (x ∷ xs) other (h, hs) = ((other, h), hs)

pub pieces_lack : (c : ℕ) (text : List ℕ) → AllByRecursion (HasNo c) (pieces c text)
pieces_lack c [] = (tt, tt)
pieces_lack c (b ∷ text) = elim (cases_eq b c) [
  | inl e ↦ rw (slice_split-cons_yes (λ x. x == c) b text (eq-eqb b c e)) (tt, pieces_lack c text)
  | inr other ↦ rw (slice_split-cons_no (λ x. x == c) b text (ne_eqb b c other)) (onto_lacks c b (pieces c text) other (pieces_lack c text))
]

onto_some : (b : ℕ) (xs : List (List ℕ)) → onto_first b xs ≢ []
onto_some b [] e = cc
onto_some b (x ∷ xs) e = cc

pub pieces_some : (c : ℕ) (text : List ℕ) → pieces c text ≢ []
pieces_some c [] = λ e. cc
pieces_some c (b ∷ text) = elim (cases_eq b c) [
  | inl is ↦ rw (slice_split-cons_yes (λ x. x == c) b text (eq-eqb b c is)) (λ e. cc)
  | inr other ↦ rw (slice_split-cons_no (λ x. x == c) b text (ne_eqb b c other)) (onto_some b (pieces c text))
]

-- a piece, and the pieces behind it
pub pieces_front : (c : ℕ) (x text : List ℕ) → HasNo c x → pieces c (x ++ c ∷ text) ≡ x ∷ pieces c text
pieces_front c [] text h = slice_split-cons_yes (λ x. x == c) c text (eq-eqb c c refl)
pieces_front c (b ∷ x) text (other, h) = slice_split-cons_no (λ x. x == c) b (x ++ c ∷ text) (ne_eqb b c other) ∙ ap (onto_first b) (pieces_front c x text h)

-- the last piece
pub pieces_last : (c : ℕ) (x : List ℕ) → HasNo c x → pieces c x ≡ x ∷ []
pieces_last c [] h = refl
pieces_last c (b ∷ x) (other, h) = slice_split-cons_no (λ x. x == c) b x (ne_eqb b c other) ∙ ap (onto_first b) (pieces_last c x h)

-- what a separator joins is parted into the same pieces
pub pieces-join : (c : ℕ) (xs : List (List ℕ)) → xs ≢ [] → AllByRecursion (HasNo c) xs → pieces c (join_with_byte c xs) ≡ xs
pieces-join c [] some h = absurd (some refl)
pieces-join c (x ∷ []) some (h, _) = pieces_last c x h
pieces-join c (x ∷ y ∷ xs) some (h, hs) =
    pieces_front c x (join_with_byte c (y ∷ xs)) h ∙ ap (λ (ps : List (List ℕ)). x ∷ ps) (pieces-join c (y ∷ xs) (λ e. cc) hs)

-- ---- texts that are cut at a first mark

-- there is one place to cut
pub same_cut : (p : ℕ → Bool) (a x b y : List ℕ) → AllByRecursion (λ c. p c ≡ false) a → BeginsWith p x → AllByRecursion (λ c. p c ≡ false) b → BeginsWith p y → a ++ x ≡ b ++ y → (a ≡ b) × (x ≡ y)
same_cut p [] x [] y ha hx hb hy e = (refl, e)
same_cut p [] [] (d ∷ b) y ha hx hb hy e = cc
same_cut p [] (c ∷ x) (d ∷ b) y ha hx hb hy e = let same : c ≡ d = cc in absurd (false≢true (sym hb.0 ∙ (ap p (sym same) ∙ hx)))
same_cut p (c ∷ a) x [] [] ha hx hb hy e = cc
same_cut p (c ∷ a) x [] (d ∷ y) ha hx hb hy e = let same : c ≡ d = cc in absurd (false≢true (sym ha.0 ∙ (ap p same ∙ hy)))
same_cut p (c ∷ a) x (d ∷ b) y ha hx hb hy e =
    let heads : c ≡ d = cc in
    let tails : a ++ x ≡ b ++ y = cc in
    let rest = same_cut p a x b y ha.1 hx hb.1 hy tails in
    let fronts : a ≡ b = rest.0 in
    (cc, rest.1)

-- ---- a cut at one mark

among_yes : (c b : ℕ) → is_among (c ∷ []) b ≡ true → b ≡ c
among_yes c b e = elim (cases_eq c b) [ inl same ↦ sym same | inr other ↦ absurd (false≢true (sym (rw (ne_eqb c b other) refl) ∙ e)) ]

among_no : (c b : ℕ) → is_among (c ∷ []) b ≡ false → b ≢ c
among_no c b e same = absurd (false≢true (sym e ∙ rw (eq-eqb c b (sym same)) refl))

cut_lacks : (c : ℕ) (front : List ℕ) → AllByRecursion (λ b. is_among (c ∷ []) b ≡ false) front → HasNo c front
cut_lacks c [] h = tt
cut_lacks c (b ∷ front) (h, hs) = (among_no c b h, cut_lacks c front hs)

-- nothing stands behind the cut
pub cut_last : (c : ℕ) (text front : List ℕ) → IsCut (is_among (c ∷ [])) text front [] → pieces c text ≡ front ∷ []
cut_last c text front cut = let whole = append-nil front in rw (← cut.whole, whole) (pieces_last c front (cut_lacks c front cut.front_lacks))

-- the separator stands behind it
pub cut_more : (c : ℕ) (text front : List ℕ) (b : ℕ) (rest : List ℕ) → IsCut (is_among (c ∷ [])) text front (b ∷ rest) → pieces c text ≡ front ∷ pieces c rest
cut_more c text front b rest cut =
    let is = among_yes c b cut.back_begins in
    rw (← cut.whole, is) (pieces_front c front rest (cut_lacks c front cut.front_lacks))

pub pieces_length : (c : ℕ) (text : List ℕ) → 0 < length (pieces c text)
pieces_length c text = rw length-slice_split (omega arith)
