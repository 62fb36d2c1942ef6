-- Texts that list items.
use Rattle.std.specs.Prelude.{◌≡◌, ℕ, List}
use Rattle.std.specs.List.{AllZip, concat}

-- The text is such a listing of each item, one behind another in their order.
pub record AreListed {X : Type 0} (IsListing : X → List ℕ → Type 0) (items : List X)
    (text : List ℕ) : Type 0 where
  pub listings : List (List ℕ)
  pub each : AllZip IsListing items listings
  pub text_is : text ≡ concat listings
