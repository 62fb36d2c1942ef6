-- Steps of a listing that goes over items.
use Rattle.std.proofs.Common.{ℕ, suc, List, [], ◌∷◌, ◌++◌, ◌≡◌, ◌+◌, ◌<◌, length, take, get_or, map, refl, sym, ap, ◌∙◌, subst, append-nil, append_assoc, add-one}
use Rattle.std.specs.List.{AllZip, concat}
use Rattle.std.proofs.lemmas.List.{map_more}
use Rattle.std.proofs.lemmas.List.Folds.{concat-append}
use Rattle.std.proofs.Math.Seq.{take-suc, take-length}
use Rattle.program_text.specs.Listings.{AreListed}

-- nothing is listed of no items
pub none_listed : {X : Type 0} (P : X → List ℕ → Type 0) → AreListed P [] []
none_listed P = record { listings = []; each = tt; text_is = refl }

-- one more item of two lists
pub zip_push : {X Y : Type 0} (R : X → Y → Type 0) (xs : List X) (ys : List Y) (x : X) (y : Y) → AllZip R xs ys → R x y → AllZip R (xs ++ x ∷ []) (ys ++ y ∷ [])
zip_push R [] [] x y all one = (one, tt)
zip_push R [] (b ∷ bs) x y all one = absurd all
zip_push R (a ∷ xs) [] x y all one = absurd all
zip_push R (a ∷ xs) (b ∷ bs) x y all one = (all.0, zip_push R xs bs x y all.1 one)

-- one item more
pub listed_push : {X : Type 0} (P : X → List ℕ → Type 0) (xs : List X) (x : X) (text one new : List ℕ) → AreListed P xs text → P x one → new ≡ text ++ one → AreListed P (xs ++ x ∷ []) new
listed_push P xs x text one new listed is more = record {
  listings = listed.listings ++ one ∷ [];
  each = zip_push P xs listed.listings x one listed.each is;
  text_is = more ∙ ap (λ t. t ++ one) listed.text_is ∙ ap (λ t. concat listed.listings ++ t) (sym (append-nil one)) ∙ sym (concat-append listed.listings (one ∷ []));
}

-- the item of this place more
pub listed_more : {X : Type 0} (P : X → List ℕ → Type 0) (xs : List X) (i : ℕ) (x : X) (text one new : List ℕ) → AreListed P (take i xs) text → i < length xs → x ≡ get_or xs i x → P x one → new ≡ text ++ one
    → AreListed P (take (i + 1) xs) new
listed_more P xs i x text one new listed lt at is more =
    subst (λ ys. AreListed P ys new) (sym (ap (λ k. take k xs) (add-one i) ∙ take-suc xs i x lt ∙ ap (λ y. take i xs ++ y ∷ []) (sym at)))
    (listed_push P (take i xs) x text one new listed is more)

-- all items
pub listed_all : {X : Type 0} (P : X → List ℕ → Type 0) (xs : List X) (text : List ℕ) → AreListed P (take (length xs) xs) text → AreListed P xs text
listed_all P xs text = subst (λ ys. AreListed P ys text) (take-length xs)
