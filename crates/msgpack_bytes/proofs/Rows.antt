-- The rows of the table, by what they say.
use Rattle.std.proofs.Common.{ℕ, ◌≡◌, ◌+◌, ◌<◌, ◌≤◌, arith}
use Rattle.std.proofs.lemmas.Grind.{common_steps}
use Rattle.msgpack_bytes.specs.declared.format.Kind.{Kind}
use Rattle.msgpack_bytes.specs.declared.format.Kind.TheVariants as kind
use Rattle.msgpack_bytes.specs.declared.format.Container.{Container}
use Rattle.msgpack_bytes.specs.declared.format.Container.TheVariants as container
use Rattle.msgpack_bytes.specs.declared.format.Shape.TheVariants.{Fixed, Sized, Holds, Counted}
use Rattle.msgpack_bytes.specs.Format.{shape_of}

pub fixed_str : (byte n : ℕ) → shape_of byte ≡ Fixed kind.Str n → n < 32
unfolding shape_of
fixed_str byte n e = grind (arith, common_steps)

pub fixed_bin : (byte n : ℕ) → shape_of byte ≡ Fixed kind.Bin n → n < 0
unfolding shape_of
fixed_bin byte n e = grind (arith, common_steps)

pub sized_width : (byte w extra : ℕ) (k : Kind) → shape_of byte ≡ Sized k w extra → (1 ≤ w)
unfolding shape_of
sized_width byte w extra k e = grind (arith, common_steps)

pub sized_most : (byte w extra : ℕ) (k : Kind) → shape_of byte ≡ Sized k w extra → w ≤ 4
unfolding shape_of
sized_most byte w extra k e = grind (arith, common_steps)

pub sized_not_three : (byte extra : ℕ) (k : Kind) → shape_of byte ≡ Sized k 3 extra → 1 ≤ 0
unfolding shape_of
sized_not_three byte extra k e = grind (arith, common_steps)

pub sized_str : (byte w extra : ℕ) → shape_of byte ≡ Sized kind.Str w extra → extra ≡ 0
unfolding shape_of
sized_str byte w extra e = grind (arith, common_steps)

pub sized_bin : (byte w extra : ℕ) → shape_of byte ≡ Sized kind.Bin w extra → extra ≡ 0
unfolding shape_of
sized_bin byte w extra e = grind (arith, common_steps)

pub holds_few : (byte n : ℕ) (c : Container) → shape_of byte ≡ Holds c n → n < 16
unfolding shape_of
holds_few byte n c e = grind (arith, common_steps)

pub counted_width : (byte w : ℕ) (c : Container) → shape_of byte ≡ Counted c w → 2 ≤ w
unfolding shape_of
counted_width byte w c e = grind (arith, common_steps)

pub counted_most : (byte w : ℕ) (c : Container) → shape_of byte ≡ Counted c w → w ≤ 4
unfolding shape_of
counted_most byte w c e = grind (arith, common_steps)

pub counted_not_three : (byte : ℕ) (c : Container) → shape_of byte ≡ Counted c 3 → 1 ≤ 0
unfolding shape_of
counted_not_three byte c e = grind (arith, common_steps)

pub fixed_unsigned : (byte n : ℕ) → shape_of byte ≡ Fixed kind.Unsigned n → (1 ≤ n) × (n ≤ 8)
unfolding shape_of
fixed_unsigned byte n e = (grind (arith, common_steps), grind (arith, common_steps))

pub fixed_unsigned_gap : (byte n : ℕ) → shape_of byte ≡ Fixed kind.Unsigned n → 2 < n → n < 8 → n ≡ 4
unfolding shape_of
fixed_unsigned_gap byte n e h k = grind (arith, common_steps)

pub sized_unsigned : (byte w extra : ℕ) → shape_of byte ≡ Sized kind.Unsigned w extra → 1 ≤ 0
unfolding shape_of
sized_unsigned byte w extra e = grind (arith, common_steps)

pub fixed_signed : (byte n : ℕ) → shape_of byte ≡ Fixed kind.Signed n → (1 ≤ n) × (n ≤ 8)
unfolding shape_of
fixed_signed byte n e = (grind (arith, common_steps), grind (arith, common_steps))

pub fixed_signed_gap : (byte n : ℕ) → shape_of byte ≡ Fixed kind.Signed n → 2 < n → n < 8 → n ≡ 4
unfolding shape_of
fixed_signed_gap byte n e h k = grind (arith, common_steps)

pub sized_signed : (byte w extra : ℕ) → shape_of byte ≡ Sized kind.Signed w extra → 1 ≤ 0
unfolding shape_of
sized_signed byte w extra e = grind (arith, common_steps)

pub fixstr : (n : ℕ) → n < 32 → shape_of (0xa0 + n) ≡ Fixed kind.Str n
unfolding shape_of
fixstr n h = grind (arith, common_steps)

pub fixarray : (n : ℕ) → n < 16 → shape_of (0x90 + n) ≡ Holds container.Array n
unfolding shape_of
fixarray n h = grind (arith, common_steps)

pub fixmap : (n : ℕ) → n < 16 → shape_of (0x80 + n) ≡ Holds container.Map n
unfolding shape_of
fixmap n h = grind (arith, common_steps)
