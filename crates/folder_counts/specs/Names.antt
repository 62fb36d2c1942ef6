-- What the names of files say.
use Rattle.std.specs.Prelude.{ℕ, ◌≡◌, ◌≢◌, ◌<◌, ◌^◌, List, ◌∷◌, ◌++◌}
use Rattle.std.specs.Str.{IsUtf8}
use Rattle.numbered_files.specs.Names.{ten_digits}
use Rattle.folder_listing.specs.Files.{kind_text}
use Rattle.folder_listing.specs.declared.kind.Kind.{Kind}

-- the name of a file of this kind: a path, a dot, a number in ten digits, a dot, and what the file
-- is called
abbrev pub numbered_name : Kind → List ℕ → ℕ → List ℕ
numbered_name kind path number = path ++ 46 ∷ (ten_digits number ++ 46 ∷ kind_text kind)

-- no path and number make this name
abbrev pub IsUnnumbered : Kind → List ℕ → Type 0
IsUnnumbered kind name = (path : List ℕ) (number : ℕ) → IsUtf8 path → number < 2 ^ 32
    → name ≢ numbered_name kind path number

-- Whose file it is that has this name: that of the path that makes it, with a number; or where none
-- does, its own, with number 0.
pub data IsOwner (kind : Kind) (name path : List ℕ) (number : ℕ) : Type 0 where
  Numbered : name ≡ numbered_name kind path number → IsOwner kind name path number
  Alone : IsUnnumbered kind name → path ≡ name → number ≡ 0 → IsOwner kind name path number
