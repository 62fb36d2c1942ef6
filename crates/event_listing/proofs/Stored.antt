-- The time and the record of a stored entry, as the items behind its first byte.
use Rattle.std.proofs.Common.{ℕ, ◌≡◌, List, [], ◌∷◌, ◌++◌, drop, refl, ap, sym, subst, ◌∙◌}
use Rattle.std.proofs.lemmas.List.{append-nil}
use Rattle.event_modes.specs.Entry.{IsTime}
use Rattle.event_modes.specs.Rows.{items_of, AreItems, IsStored}
use Rattle.event_modes.proofs.Counted.{are_items, element_texts}

stored_items : (entry : List ℕ) (s : IsStored entry) → AreItems 2 (drop 1 entry) × (items_of 2 (drop 1 entry) ≡ s.kept.time ∷ s.kept.fields ∷ [])
stored_items entry s =
    let k = s.kept in
    are_items 2 (drop 1 entry) (k.time ∷ k.fields ∷ []) refl (ap (drop 1) k.is_stored ∙ ap (λ (z : List ℕ). k.time ++ z) (sym (append-nil k.fields)))
    (element_texts (k.time ∷ k.fields ∷ []) entry s.item k.array)

-- they are two
pub two_items : (entry bytes : List ℕ) → bytes ≡ drop 1 entry → IsStored entry → AreItems 2 bytes
two_items entry bytes e s = subst (AreItems 2) (sym e) (stored_items entry s).0

-- the first is the time
pub first_is : (entry bytes item : List ℕ) (others : List (List ℕ)) → bytes ≡ drop 1 entry → (s : IsStored entry) → items_of 2 bytes ≡ item ∷ others
    → (item ≡ s.kept.time) × (others ≡ s.kept.fields ∷ [])
first_is entry bytes item others e s first =
    let same = sym first ∙ ap (items_of 2) e ∙ (stored_items entry s).1 in
    (cc, cc)

-- and the second the record
pub second_is : (item fields : List ℕ) (others left : List (List ℕ)) → others ≡ fields ∷ [] → others ≡ item ∷ left → item ≡ fields
second_is item fields others left e f = let same = sym f ∙ e in cc
