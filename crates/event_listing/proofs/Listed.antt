-- What is printed of events, one after another.
use Rattle.std.proofs.Common.{ℕ, List, [], ◌∷◌, ◌++◌, sym, ap, ◌∙◌}
use Rattle.std.specs.List.{AllZip, concat}
use Rattle.std.proofs.lemmas.List.Folds.{concat-append}
use Rattle.program_text.specs.Listings.{AreListed}

zip_append : {X Y : Type 0} (R : X → Y → Type 0) (xs more : List X) (ys others : List Y) → AllZip R xs ys → AllZip R more others → AllZip R (xs ++ more) (ys ++ others)
zip_append R [] more [] others all behind = behind
zip_append R [] more (y ∷ ys) others all behind = absurd all
zip_append R (x ∷ xs) more [] others all behind = absurd all
zip_append R (x ∷ xs) more (y ∷ ys) others all behind = (all.0, zip_append R xs more ys others all.1 behind)

-- two listings, one behind the other
pub listed_append : {X : Type 0} (P : X → List ℕ → Type 0) (xs more : List X) (text behind : List ℕ) → AreListed P xs text → AreListed P more behind → AreListed P (xs ++ more) (text ++ behind)
listed_append P xs more text behind first second = record {
  listings = first.listings ++ second.listings;
  each = zip_append P xs more first.listings second.listings first.each second.each;
  text_is = ap (λ t. t ++ behind) first.text_is ∙ ap (λ t. concat first.listings ++ t) second.text_is ∙ sym (concat-append first.listings second.listings);
}
