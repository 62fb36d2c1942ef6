-- What is read at a place of a list.
use Rattle.std.proofs.Common.{◌≡◌, ℕ, List, Option, Some, None, slice_get, refl, sym, ap, ◌∙◌, Bor}
use Rattle.std.specs.Option.{option_copied}
use Rattle.std.specs.Slice.{IsItemAt}
use Rattle.std.proofs.lemmas.Option.{slice_get_past, slice_get_read}

-- what a slice of the list gives at a place
pub got : {X : Type 0} (xs ys : List X) (place : ℕ) (r : Option (Bor X)) → ys ≡ xs → IsItemAt ys place r → option_copied r ≡ slice_get xs place
got xs ys place None same h = sym (ap (λ l. slice_get l place) (sym same) ∙ slice_get_past ys place h.3)
got xs ys place (Some x) same h = sym (ap (λ l. slice_get l place) (sym same) ∙ slice_get_read ys _ place x.now refl h.3.0 h.1)
