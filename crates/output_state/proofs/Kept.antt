-- What is read of one line more.
use Rattle.std.proofs.Common.{◌≡◌, List, [], ◌∷◌, ◌++◌, Option, Some, None, sym, ap, ◌∙◌}
use Rattle.std.specs.List.{filter_map}
use Rattle.std.proofs.lemmas.List.{append-nil}
use Rattle.std.proofs.lemmas.List.Elements.{filter_map-append}

module _ {X Y : Type 0} (read : X → Option Y) (front : List X) (x : X) (all : List Y) (before : all ≡ filter_map read front) where
  -- a line that is a row
  pub kept : (y : Y) → Some y ≡ read x → all ++ y ∷ [] ≡ filter_map read (front ++ x ∷ [])
  kept y e = rw (filter_map-append read front (x ∷ []), sym e) (ap (λ ys. ys ++ y ∷ []) before)

  -- a line that is none
  pub passed : None ≡ read x → all ≡ filter_map read (front ++ x ∷ [])
  passed e = rw (filter_map-append read front (x ∷ []), sym e) (before ∙ sym (append-nil (filter_map read front)))
