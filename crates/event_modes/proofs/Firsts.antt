-- The first bad one of some, with what stands before it and behind it.
use Rattle.std.proofs.Common.{ℕ, zero, suc, ◌≡◌, List, [], ◌∷◌, ◌++◌, take, IsSomeAnd, refl, ap}
use Rattle.std.specs.List.{AllByRecursion, slice_get}
use Rattle.event_modes.specs.Faults.{FirstBad}

pub record BadAt {X : Type 0} (Good Bad : X → Type 0) (all : List X) : Type 0 where
  pub before : List X
  pub first : X
  pub after : List X
  pub good : AllByRecursion Good before
  pub bad : Bad first
  pub whole : all ≡ before ++ first ∷ after

module _ {X : Type 0} (Good Bad : X → Type 0) where
  parted_at : (all : List X) (k : ℕ) → AllByRecursion Good (take k all) → IsSomeAnd (slice_get all k) Bad → BadAt Good Bad all
  parted_at [] k g b = absurd b
  parted_at (x ∷ xs) zero g b = record { before = []; first = x; after = xs; good = tt; bad = b; whole = refl }
  parted_at (x ∷ xs) (suc k) g b =
      let r = parted_at xs k g.1 b in
      record { before = x ∷ r.before; first = r.first; after = r.after; good = (g.0, r.good); bad = r.bad; whole = ap (λ (ys : List X). x ∷ ys) r.whole }

  pub parted : (all : List X) → FirstBad Good Bad all → BadAt Good Bad all
  parted all f = parted_at all f.0 f.1 f.2

  pub bad_behind : (before : List X) (first : X) (after : List X) → AllByRecursion Good before → Bad first → FirstBad Good Bad (before ++ first ∷ after)
  bad_behind [] first after g b = (0, tt, b)
  bad_behind (x ∷ before) first after g b = let r = bad_behind before first after g.1 b in (suc r.0, (g.0, r.1), r.2)
