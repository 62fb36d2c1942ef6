-- Names of pairs, one after another.
use Rattle.std.proofs.Common.{ℕ, ◌≡◌, ◌*◌, ◌≤◌, IsTrue, Bool, false, List, [], ◌∷◌, Option, Some, None, MatchOption, Bor, refl, ap, sym, subst, ◌∙◌, arith}
use Rattle.std.specs.Option.{is_some}
use Rattle.std.specs.List.{AllByRecursion}
use Rattle.msgpack_bytes.specs.Containers.{Pair}
use Rattle.event_modes.specs.Rows.{items_of}
use Rattle.event_modes.proofs.Counted.{no_items}
use Rattle.event_listing.specs.Json.{IsName, IsNamed}
use Rattle.event_listing.specs.Walking.{pairs_from, pairs_of}

pub not_named : (o : Option (Bor (List ℕ))) (key : List ℕ) → is_some o ≡ false → MatchOption o ((name : List ℕ) → IsName key name → ⊥) (λ name. IsName key name.now) → (name : List ℕ) → IsName key name → ⊥
not_named None key e m = m
not_named (Some x) key e m = absurd cc

pub named_first : (ps qs : List Pair) (p : Pair) → ps ≡ p ∷ qs → AllByRecursion IsNamed ps → IsNamed p
named_first ps qs p e a = (subst (AllByRecursion IsNamed) e a).0

pub none_left : (n : ℕ) (bytes : List ℕ) → n ≤ 0 → pairs_of n bytes ≡ []
none_left n bytes h = let z : 2 * n ≡ 0 = omega arith in ap (λ (k : ℕ). pairs_from (items_of k bytes)) z ∙ ap pairs_from (no_items bytes)

pub not_true : IsTrue false → ⊥
not_true e = absurd cc
