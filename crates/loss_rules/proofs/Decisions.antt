-- Whether one of some patterns has a tag, and the least number of which something holds.
use Rattle.std.proofs.Common.{◌≡◌, ℕ, zero, suc, ◌<◌, Bool, true, false, List, [], ◌∷◌, ◌++◌, Option, Some, None, Any, Decides, IsSomeAnd, bytes_eq, refl, ap, ◌⊎◌, inl, inr, arith, subst, sym}
use Rattle.std.proofs.lemmas.Bool.{cases_lt}
use Rattle.std.proofs.lemmas.Slice.Eq.{bytes_eq-Decides}
use Rattle.tag_pattern.specs.Items.{Item}
use Rattle.tag_pattern.specs.Parts.{parts_of}
use Rattle.tag_pattern.specs.Patterns.{InPattern}
use Rattle.tag_pattern.specs.declared.item.PatternItem.TheVariants.{Literal, AnyPart, AnyParts}
use Rattle.route_graph.specs.Ways.{HaveTag}

-- It holds, or it doesn't.
abbrev pub IsDecided : Type 0 → Type 0
IsDecided P = P ⊎ ¬ P

by_test : {P : Type 0} (b : Bool) → Decides b P → IsDecided P
by_test true d = inl (d.0 refl)
by_test false d = inr (λ p. let e : false ≡ true = d.1 p in absurd (cc))

text_decided : (text other : List ℕ) → IsDecided (text ≡ other)
text_decided text other = by_test (bytes_eq text other) (bytes_eq-Decides text other)

literal_decided : (text : List ℕ) (p : List Item) → ((parts : List (List ℕ)) → IsDecided (InPattern p parts)) → (parts : List (List ℕ)) → IsDecided (InPattern (Literal text ∷ p) parts)
literal_decided text p less [] = inr (λ h. let e = h.1 in absurd (cc))
literal_decided text p less (part ∷ parts) =
    elim (text_decided part text) [
      | inl e ↦ elim (less parts) [
        | inl h ↦ inl (parts, ap (λ x. x ∷ parts) e, h)
        | inr n ↦ inr (λ h. let f : h.0 ≡ parts = (let g = h.1 in cc) in n (subst (InPattern p) f h.2))
      ]
      | inr n ↦ inr (λ h. n (let e = h.1 in cc))
    ]

part_decided : (p : List Item) → ((parts : List (List ℕ)) → IsDecided (InPattern p parts)) → (parts : List (List ℕ)) → IsDecided (InPattern (AnyPart ∷ p) parts)
part_decided p less [] = inr (λ h. let e = h.2 in absurd (cc))
part_decided p less (part ∷ parts) =
    elim (less parts) [
      | inl h ↦ inl (part, parts, refl, h)
      | inr n ↦ inr (λ h. let f : h.1 ≡ parts = (let g = h.2 in cc) in n (subst (InPattern p) f h.3))
    ]

-- what any number of parts has, with a part in front or with none
parts_cases : (p : List Item) (part : List ℕ) (parts : List (List ℕ)) → InPattern (AnyParts ∷ p) (part ∷ parts) → InPattern p (part ∷ parts) ⊎ InPattern (AnyParts ∷ p) parts
parts_cases p part parts ([], rest, e, h) = inl (subst (InPattern p) (sym e) h)
parts_cases p part parts (first ∷ front, rest, e, h) = let f : parts ≡ front ++ rest = cc in inr (front, rest, f, h)

no_parts : (p : List Item) → InPattern (AnyParts ∷ p) [] → InPattern p []
no_parts p ([], rest, e, h) = subst (InPattern p) (sym e) h
no_parts p (first ∷ front, rest, e, h) = absurd (cc)

parts_decided : (p : List Item) → ((parts : List (List ℕ)) → IsDecided (InPattern p parts)) → (parts : List (List ℕ)) → IsDecided (InPattern (AnyParts ∷ p) parts)
parts_decided p less [] =
    elim (less []) [
      | inl h ↦ inl ([], [], refl, h)
      | inr n ↦ inr (λ h. n (no_parts p h))
    ]
parts_decided p less (part ∷ parts) =
    elim (less (part ∷ parts)) [
      | inl h ↦ inl ([], part ∷ parts, refl, h)
      | inr n ↦ elim (parts_decided p less parts) [
        | inl h ↦ inl (part ∷ h.0, h.1, ap (λ x. part ∷ x) h.2, h.3)
        | inr m ↦ inr (λ h. elim (parts_cases p part parts h) [ inl k ↦ n k | inr k ↦ m k ])
      ]
    ]

nil_decided : (parts : List (List ℕ)) → IsDecided (InPattern [] parts)
nil_decided [] = inl refl
nil_decided (part ∷ parts) = inr (λ e. absurd (cc))

in_decided : (p : List Item) (parts : List (List ℕ)) → IsDecided (InPattern p parts)
in_decided [] = nil_decided
in_decided (Literal text ∷ p) = literal_decided text p (in_decided p)
in_decided (AnyPart ∷ p) = part_decided p (in_decided p)
in_decided (AnyParts ∷ p) = parts_decided p (in_decided p)

any_head : {X : Type 0} (P : X → Type 0) (x : X) (xs : List X) → P x → Any P (x ∷ xs)
any_head P x xs h = (0, x, omega arith, refl, h)

any_tail : {X : Type 0} (P : X → Type 0) (x : X) (xs : List X) → Any P xs → Any P (x ∷ xs)
any_tail P x xs (k, y, less, is, h) = (suc k, y, omega arith, is, h)

any_cases : {X : Type 0} (P : X → Type 0) (x : X) (xs : List X) → Any P (x ∷ xs) → P x ⊎ Any P xs
any_cases P x xs (zero, y, less, is, h) = inl (subst P (sym is) h)
any_cases P x xs (suc k, y, less, is, h) = inr (k, y, omega arith, is, h)

any_decided : {X : Type 0} (P : X → Type 0) → ((x : X) → IsDecided (P x)) → (xs : List X) → IsDecided (Any P xs)
any_decided P each [] = inr (λ h. let less = h.2 in absurd (omega arith))
any_decided P each (x ∷ xs) =
    elim (each x) [
      | inl h ↦ inl (any_head P x xs h)
      | inr n ↦ elim (any_decided P each xs) [
        | inl h ↦ inl (any_tail P x xs h)
        | inr m ↦ inr (λ h. elim (any_cases P x xs h) [ inl k ↦ n k | inr k ↦ m k ])
      ]
    ]

-- one of the patterns has the tag, or none has
pub tag_decided : (patterns : List (List Item)) (tag : List ℕ) → IsDecided (HaveTag patterns tag)
tag_decided patterns tag = any_decided (λ p. InPattern p (parts_of tag)) (λ p. in_decided p (parts_of tag)) patterns

pub some_decided : {X : Type 0} (P : X → Type 0) → ((x : X) → IsDecided (P x)) → (found : Option X) → IsDecided (IsSomeAnd found P)
some_decided P each None = inr (λ h. absurd h)
some_decided P each (Some x) = each x

-- The number is the least of which P holds.
pub record IsLeast (P : ℕ → Type 0) (n : ℕ) : Type 0 where
  pub holds : P n
  pub others : (m : ℕ) → m < n → ¬ P m

least_below : (P : ℕ → Type 0) → ((n : ℕ) → IsDecided (P n)) → (bound : ℕ) → ((n : ℕ) × IsLeast P n) ⊎ ((m : ℕ) → m < bound → ¬ P m)
least_below P each zero = inr (λ m less. absurd (omega arith))
least_below P each (suc bound) =
    elim (least_below P each bound) [
      | inl least ↦ inl least
      | inr none ↦ elim (each bound) [
        | inl h ↦ inl (bound, record { holds = h; others = none })
        | inr n ↦ inr (λ m less. elim (cases_lt m bound) [
          | inl lower ↦ none m lower
          | inr above ↦ let same : bound ≡ m = omega arith in subst (λ x. ¬ P x) same n
        ])
      ]
    ]

-- of the numbers of which P holds, one is the least
pub least_of : (P : ℕ → Type 0) → ((n : ℕ) → IsDecided (P n)) → (k : ℕ) → P k → (n : ℕ) × IsLeast P n
least_of P each k h =
    elim (least_below P each (suc k)) [
      | inl least ↦ least
      | inr none ↦ absurd (none k (omega arith) h)
    ]
