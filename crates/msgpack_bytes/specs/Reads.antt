-- What the parts of `head` compute, for the proofs of this crate.
use Rattle.std.specs.Prelude.{ℕ, pos, ◌-ℤ◌, ◌≡◌, ◌+◌, ◌<◌, ◌≤◌, ◌⊎◌, List, [], ◌∷◌, length, drop, slice_index, slice_range, Option, Some, None, nat_lt, ◌==◌, if◌then◌else◌}
use Rattle.msgpack_bytes.specs.declared.answers.Head.{Head}
use Rattle.msgpack_bytes.specs.declared.answers.Head.TheVariants as head
use Rattle.msgpack_bytes.specs.declared.format.Kind.{Kind}
use Rattle.msgpack_bytes.specs.declared.format.Kind.TheVariants.{Nil, Bool, PositiveFixint, NegativeFixint, Unsigned, Signed, Float, Str, Bin, Ext}
use Rattle.msgpack_bytes.specs.declared.format.Container.{Container}
use Rattle.msgpack_bytes.specs.declared.format.Container.TheVariants.{Array, Map}
use Rattle.msgpack_bytes.specs.declared.format.Shape.{Shape}
use Rattle.msgpack_bytes.specs.declared.format.Shape.TheVariants.{Fixed, Sized, Holds, Counted, Never}
use Rattle.msgpack_bytes.specs.declared.format.Span.{Span}
use Rattle.msgpack_bytes.specs.declared.format.Count.{Count}
use Rattle.msgpack_bytes.specs.Format.{big_endian, shape_of}
use Rattle.msgpack_bytes.specs.Kinds.{twos_complement}
use Rattle.msgpack_bytes.specs.Run.{number}

-- what a kind says of its first byte and of its content's fixed size
abbrev pub IsFixedFit : ℕ → Kind → ℕ → Type 0
IsFixedFit first Nil size = first ≡ 0xc0
IsFixedFit first Bool size = (first ≡ 0xc2) ⊎ (first ≡ 0xc3)
IsFixedFit first PositiveFixint size = first < 0x80
IsFixedFit first NegativeFixint size = 0xe0 ≤ first
IsFixedFit first Unsigned size = size ≤ 8
IsFixedFit first Signed size = size ≤ 8
IsFixedFit first Float size = Unit {0}
IsFixedFit first Str size = Unit {0}
IsFixedFit first Bin size = Unit {0}
IsFixedFit first Ext size = 0 < size

-- which kinds have a length, and what it leaves out
abbrev pub IsSizedFit : Kind → ℕ → Type 0
IsSizedFit Nil extra = ⊥
IsSizedFit Bool extra = ⊥
IsSizedFit PositiveFixint extra = ⊥
IsSizedFit NegativeFixint extra = ⊥
IsSizedFit Unsigned extra = ⊥
IsSizedFit Signed extra = ⊥
IsSizedFit Float extra = ⊥
IsSizedFit Str extra = extra ≡ 0
IsSizedFit Bin extra = extra ≡ 0
IsSizedFit Ext extra = extra ≡ 1

-- what the table's rows have in common
abbrev pub IsFitShape : ℕ → Shape → Type 0
IsFitShape first (Fixed kind size) = IsFixedFit first kind size × (size ≤ 31)
IsFitShape first (Sized kind width extra) = IsSizedFit kind extra × (width ≤ 4) × (extra ≤ 1)
IsFitShape first (Holds container count) = count < 16
IsFitShape first (Counted container width) = width ≤ 4
IsFitShape first Never = first ≡ 0xc1

-- the content of a scalar, where `rest` is what stands from `start` on, behind its first byte
abbrev pub content_in : Shape → ℕ → List ℕ → Option Span
content_in (Fixed kind size) start rest =
    if nat_lt (length rest) size then None else Some (record { start = start; end = start + size })
content_in (Sized kind width extra) start rest =
    if nat_lt (length rest) (width + (number width rest + extra)) then None
    else Some (record { start = start + width; end = start + width + (number width rest + extra) })
content_in (Holds container count) start rest = None
content_in (Counted container width) start rest = None
content_in Never start rest = None

-- likewise the count of a container
abbrev pub count_in : Shape → ℕ → List ℕ → Option Count
count_in (Fixed kind size) start rest = None
count_in (Sized kind width extra) start rest = None
count_in (Holds container n) start rest = Some (record { count = n; next = start })
count_in (Counted container width) start rest =
    if nat_lt (length rest) width then None
    else Some (record { count = number width rest; next = start + width })
count_in Never start rest = None

-- the head of a scalar of this kind, whose first byte and content these are
abbrev pub scalar_head : Kind → ℕ → List ℕ → Span → Head
scalar_head Nil first bytes content = head.Nil
scalar_head Bool first bytes content = head.Bool (first == 0xc3)
scalar_head PositiveFixint first bytes content = head.Int (pos first)
scalar_head NegativeFixint first bytes content = head.Int (pos first -ℤ pos 0x100)
scalar_head Unsigned first bytes content =
    head.Int (pos (big_endian (slice_range bytes content.start content.end)))
scalar_head Signed first bytes content =
    head.Int (twos_complement (slice_range bytes content.start content.end))
scalar_head Float first bytes content = head.Float
scalar_head Str first bytes content = head.Str content.start content.end
scalar_head Bin first bytes content = head.Bin content.start content.end
scalar_head Ext first bytes content = head.Ext (slice_index bytes content.start)
    (content.start + 1) content.end

-- the head of a container
abbrev pub container_head : Container → Count → Head
container_head Array found = head.Array found.count found.next
container_head Map found = head.Map found.count found.next

-- the head of a scalar, where its content is whole
abbrev pub some_scalar : Kind → ℕ → List ℕ → Option Span → Option Head
some_scalar kind first bytes None = None
some_scalar kind first bytes (Some content) = Some (scalar_head kind first bytes content)

-- the head of a container, where its count is whole
abbrev pub some_container : Container → Option Count → Option Head
some_container container None = None
some_container container (Some found) = Some (container_head container found)

-- the head behind a first byte of this shape
abbrev pub head_by : Shape → ℕ → List ℕ → ℕ → List ℕ → Option Head
head_by (Fixed kind size) first bytes start rest =
    some_scalar kind first bytes (content_in (Fixed kind size) start rest)
head_by (Sized kind width extra) first bytes start rest =
    some_scalar kind first bytes (content_in (Sized kind width extra) start rest)
head_by (Holds container count) first bytes start rest =
    some_container container (count_in (Holds container count) start rest)
head_by (Counted container width) first bytes start rest =
    some_container container (count_in (Counted container width) start rest)
head_by Never first bytes start rest = None

-- the head of these bytes, which lie at this index
abbrev pub head_behind : List ℕ → ℕ → List ℕ → Option Head
head_behind bytes start [] = None
head_behind bytes start (first ∷ rest) = head_by (shape_of first) first bytes start rest

-- what `head` answers
unfoldable pub head_at : List ℕ → ℕ → Option Head
head_at bytes at = head_behind bytes (at + 1) (drop at bytes)
