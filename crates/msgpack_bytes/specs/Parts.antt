-- Containers by recursion on how many parts follow: the form in which the readers and the proofs use
-- them.
use Rattle.std.specs.Prelude.{ℕ, zero, suc, ◌≡◌, List, [], ◌++◌}
use Rattle.msgpack_bytes.specs.declared.format.Container.{Container}
use Rattle.msgpack_bytes.specs.Format.{items_in}
use Rattle.msgpack_bytes.specs.Item.{IsContainerHeader}

-- n parts, one after another
abbrev pub Row : (List ℕ → Type 0) → ℕ → List ℕ → Type 0
Row part zero bytes = bytes ≡ []
Row part (suc n) bytes = (front : List ℕ) × (back : List ℕ) × part front × Row part n back
    × (bytes ≡ front ++ back)

-- a whole container: its header, and as many parts as it holds
pub record HasRow (part : List ℕ → Type 0) (bytes : List ℕ) : Type 0 where
  pub container : Container
  pub n : ℕ
  pub header : List ℕ
  pub inner : List ℕ
  pub counted : IsContainerHeader container n header
  pub parts : Row part (items_in container n) inner
  pub whole : bytes ≡ header ++ inner
