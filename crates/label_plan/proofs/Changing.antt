-- Lists of which one element is changed.
use Rattle.std.proofs.Common.{◌≡◌, ◌≢◌, ◌<◌, ℕ, zero, suc, List, [], ◌∷◌, length, map, get_or, set, slice_get, Some, refl, sym, ap, ◌∙◌}
use Rattle.std.proofs.lemmas.Option.{same_Some, slice_get_read}
use Rattle.label_plan.specs.Changes.{ChangesAt}

pub changed : {X : Type 0} (R : X → X → Type 0) (place : ℕ) (xs : List X) (n : ℕ) (x is : X) → n ≡ length xs → place < n → x ≡ get_or xs place x → R x is → ChangesAt R place xs (set xs place is)
changed R place xs n x is counted less there changes = record { was = x; is = is; was_there = slice_get_read xs n place x counted less there; changes = changes; after_is = refl }

-- what stands at the place
set_there : {X : Type 0} (xs : List X) (place : ℕ) (was is : X) → slice_get xs place ≡ Some was → slice_get (set xs place is) place ≡ Some is
set_there [] place was is at = absurd (cc)
set_there (x ∷ xs) zero was is at = refl
set_there (x ∷ xs) (suc place) was is at = set_there xs place was is at

-- and elsewhere
set_elsewhere : {X : Type 0} (xs : List X) (place other : ℕ) (is : X) → other ≢ place → slice_get (set xs place is) other ≡ slice_get xs other
set_elsewhere [] place other is apart = refl
set_elsewhere (x ∷ xs) zero zero is apart = absurd (apart refl)
set_elsewhere (x ∷ xs) zero (suc other) is apart = refl
set_elsewhere (x ∷ xs) (suc place) zero is apart = refl
set_elsewhere (x ∷ xs) (suc place) (suc other) is apart = set_elsewhere xs place other is (λ e. apart (ap suc e))

-- what is seen of a list by what stays of its elements
set_seen : {X Y : Type 0} (f : X → Y) (xs : List X) (place : ℕ) (was is : X) → slice_get xs place ≡ Some was → f is ≡ f was → map f (set xs place is) ≡ map f xs
set_seen f [] place was is at same = refl
set_seen f (x ∷ xs) zero was is at same = ap (λ y. y ∷ map f xs) (same ∙ ap f (sym (same_Some x was at)))
set_seen f (x ∷ xs) (suc place) was is at same = ap (λ ys. f x ∷ ys) (set_seen f xs place was is at same)

pub changed_there : {X : Type 0} (R : X → X → Type 0) (place : ℕ) (before after : List X) → (h : ChangesAt R place before after) → slice_get after place ≡ Some h.is
changed_there R place before after h = ap (λ l. slice_get l place) h.after_is ∙ set_there before place h.was h.is h.was_there

pub changed_elsewhere : {X : Type 0} (R : X → X → Type 0) (place other : ℕ) (before after : List X) → ChangesAt R place before after → other ≢ place → slice_get after other ≡ slice_get before other
changed_elsewhere R place other before after h apart = ap (λ l. slice_get l other) h.after_is ∙ set_elsewhere before place other h.is apart

pub changed_seen : {X Y : Type 0} (R : X → X → Type 0) (f : X → Y) (place : ℕ) (before after : List X) → ((was is : X) → R was is → f is ≡ f was) → ChangesAt R place before after → map f after ≡ map f before
changed_seen R f place before after same h = ap (map f) h.after_is ∙ set_seen f before place h.was h.is h.was_there (same h.was h.is h.changes)
