-- The path and the number that make a name.
use Rattle.std.proofs.Common.{ℕ, List, ◌∷◌, ◌++◌, ◌≡◌, ◌≢◌, ◌<◌, ◌+◌, ◌^◌, length, take, sym, ap, ◌∙◌, subst, arith}
use Rattle.std.specs.Str.{IsUtf8}
use Rattle.std.proofs.Math.Seq.{take-append_seam}
use Rattle.std.proofs.lemmas.List.{length-append}
use Rattle.numbered_files.specs.Names.{ten_digits}
use Rattle.folder_listing.specs.Files.{kind_text}
use Rattle.folder_listing.specs.declared.kind.Kind.{Kind}
use Rattle.folder_counts.specs.Names.{numbered_name, IsUnnumbered}

-- what stands behind a path in the name of a file
behind : Kind → ℕ → List ℕ
behind kind number = 46 ∷ (ten_digits number ++ 46 ∷ kind_text kind)

behind_length : (kind : Kind) (number : ℕ) → length (behind kind number) ≡ length (kind_text kind) + 12
unfolding behind ten_digits
behind_length kind number = omega arith

name_length : (kind : Kind) (path : List ℕ) (number : ℕ) → length (numbered_name kind path number) ≡ length path + (length (kind_text kind) + 12)
unfolding behind
name_length kind path number = length-append path (behind kind number) ∙ ap (λ n. length path + n) (behind_length kind number)

-- a name that is too short
pub none_short : (kind : Kind) (name : List ℕ) → length name < length (kind_text kind) + 12 → IsUnnumbered kind name
none_short kind name short path number utf8 fits is = absurd (omega (arith, short, ap length is, name_length kind path number))

-- the path that a name has to have
pub path_is : (kind : Kind) (name path : List ℕ) (number front : ℕ) → front + (length (kind_text kind) + 12) ≡ length name → name ≡ numbered_name kind path number → take front name ≡ path
unfolding behind
path_is kind name path number front at is =
    let same : front ≡ length path = omega (arith, at, ap length is, name_length kind path number) in
    ap (λ n. take n name) same ∙ ap (take (length path)) is ∙ take-append_seam path (behind kind number)

-- it has no number
pub none_numbered : (kind : Kind) (name : List ℕ) (front : ℕ) → front + (length (kind_text kind) + 12) ≡ length name
    → ((number : ℕ) → number < 2 ^ 32 → name ≢ numbered_name kind (take front name) number) → IsUnnumbered kind name
none_numbered kind name front at none path number utf8 fits is =
    none number fits (is ∙ ap (λ p. numbered_name kind p number) (sym (path_is kind name path number front at is)))

-- it isn't UTF-8
pub none_readable : (kind : Kind) (name : List ℕ) (front : ℕ) → front + (length (kind_text kind) + 12) ≡ length name → (IsUtf8 (take front name) → ⊥) → IsUnnumbered kind name
none_readable kind name front at not path number utf8 fits is = not (subst IsUtf8 (sym (path_is kind name path number front at is)) utf8)
