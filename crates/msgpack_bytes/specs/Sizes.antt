-- What stands behind a first byte, shape by shape: the form in which the proofs use headers.
use Rattle.std.specs.Prelude.{ℕ, ◌≡◌, ◌+◌, List, [], length}
use Rattle.msgpack_bytes.specs.declared.format.Kind.{Kind}
use Rattle.msgpack_bytes.specs.declared.format.Container.{Container}
use Rattle.msgpack_bytes.specs.declared.format.Shape.{Shape}
use Rattle.msgpack_bytes.specs.declared.format.Shape.TheVariants.{Fixed, Sized, Holds, Counted, Never}
use Rattle.msgpack_bytes.specs.Format.{big_endian}

-- behind a first byte of this shape stands the length of a content of this kind, which has n bytes
abbrev pub Sizes : Shape → Kind → ℕ → List ℕ → Type 0
Sizes (Fixed kind content) k n length_bytes = (kind ≡ k) × (length_bytes ≡ []) × (n ≡ content)
Sizes (Sized kind width extra) k n length_bytes = (kind ≡ k) × (length length_bytes ≡ width)
    × (n ≡ big_endian length_bytes + extra)
Sizes (Holds container count) k n length_bytes = ⊥
Sizes (Counted container width) k n length_bytes = ⊥
Sizes Never k n length_bytes = ⊥

-- behind a first byte of this shape stands the count of such a container, which has n entries
abbrev pub Counts : Shape → Container → ℕ → List ℕ → Type 0
Counts (Fixed kind content) c n count_bytes = ⊥
Counts (Sized kind width extra) c n count_bytes = ⊥
Counts (Holds container count) c n count_bytes = (container ≡ c) × (count_bytes ≡ []) × (n ≡ count)
Counts (Counted container width) c n count_bytes = (container ≡ c) × (length count_bytes ≡ width)
    × (n ≡ big_endian count_bytes)
Counts Never c n count_bytes = ⊥
