-- What is written says what was asked, and nothing shorter does.
use Rattle.std.proofs.Common.{ℕ, pos, ◌-ℤ◌, zero, suc, ◌≡◌, ◌+◌, ◌*◌, ◌^◌, ◌<◌, ◌≤◌, Bool, true, false, cond, nat_lt, List, [], ◌∷◌, ◌++◌, length, refl, ap, sym, ◌∙◌, arith, inl, inr, length-append}
use Rattle.std.proofs.lemmas.Grind.{common_steps}
use Rattle.std.proofs.lemmas.Int.{ints}
use Rattle.std.specs.Int.{bytes_high_first}
use Rattle.msgpack_bytes.specs.declared.format.Kind.{Kind}
use Rattle.msgpack_bytes.specs.declared.format.Kind.TheVariants as kind
use Rattle.msgpack_bytes.specs.declared.format.Container.{Container}
use Rattle.msgpack_bytes.specs.declared.format.Container.TheVariants.{Array, Map}
use Rattle.msgpack_bytes.specs.declared.format.Shape.{Shape}
use Rattle.msgpack_bytes.specs.declared.format.Shape.TheVariants.{Fixed, Sized, Holds, Counted, Never}
use Rattle.msgpack_bytes.specs.Format.{big_endian, shape_of}
use Rattle.msgpack_bytes.specs.Sizes.{Sizes, Counts}
use Rattle.msgpack_bytes.specs.Item.{IsScalarHeader, IsContainerHeader, Spells}
use Rattle.msgpack_bytes.proofs.Headers.{scalar_sizes, container_counts}
use Rattle.msgpack_bytes.specs.Kinds.{IsInteger}
use Rattle.msgpack_bytes.specs.Kinds.{Positive, Negative, Unsigned, Signed}
use Rattle.msgpack_bytes.specs.Spelling.{uint_of, str_header_of, bin_header_of, array_header_of, map_header_of, IsBytes, IsUintSpelled, IsStrSpelled, IsBinSpelled, IsArraySpelled, IsMapSpelled, IsBoolSpelled}
use Rattle.msgpack_bytes.proofs.Slices.{less}
use Rattle.msgpack_bytes.proofs.Rows.{fixed_str, fixed_bin, sized_width, sized_most, sized_not_three, sized_str, sized_bin, holds_few, counted_width, counted_most, counted_not_three, fixed_unsigned, fixed_unsigned_gap, sized_unsigned, fixed_signed, fixed_signed_gap, sized_signed, fixstr, fixarray, fixmap}
use Rattle.msgpack_bytes.proofs.Values.{value_one, value_two, value_four, value_eight, bytes_front, bytes_behind, value_small}

-- how long each header is, at the most
str_small : (n : ℕ) → n < 32 → length (str_header_of n) ≤ 1
str_small n h = grind (arith, common_steps)

str_enough : (w n : ℕ) → 1 ≤ w → w ≤ 4 → (w ≡ 3 → 1 ≤ 0) → n < 256 ^ w → length (str_header_of n) ≤ 1 + w
str_enough zero n a b c h = absurd (omega arith)
str_enough (suc zero) n a b c h = grind (arith, common_steps)
str_enough (suc (suc zero)) n a b c h = grind (arith, common_steps)
str_enough (suc (suc (suc zero))) n a b c h = absurd (let d = c refl in omega arith)
str_enough (suc (suc (suc (suc zero)))) n a b c h = grind (arith, common_steps)
str_enough (suc (suc (suc (suc (suc w))))) n a b c h = absurd (omega arith)

bin_enough : (w n : ℕ) → 1 ≤ w → w ≤ 4 → (w ≡ 3 → 1 ≤ 0) → n < 256 ^ w → length (bin_header_of n) ≤ 1 + w
bin_enough zero n a b c h = absurd (omega arith)
bin_enough (suc zero) n a b c h = grind (arith, common_steps)
bin_enough (suc (suc zero)) n a b c h = grind (arith, common_steps)
bin_enough (suc (suc (suc zero))) n a b c h = absurd (let d = c refl in omega arith)
bin_enough (suc (suc (suc (suc zero)))) n a b c h = grind (arith, common_steps)
bin_enough (suc (suc (suc (suc (suc w))))) n a b c h = absurd (omega arith)

header_of : Container → ℕ → List ℕ
header_of Array n = array_header_of n
header_of Map n = map_header_of n

container_small : (container : Container) (n : ℕ) → n < 16 → length (header_of container n) ≤ 1
unfolding header_of
container_small Array n h = grind (arith, common_steps)
container_small Map n h = grind (arith, common_steps)

container_enough : (container : Container) (w n : ℕ) → 2 ≤ w → w ≤ 4 → (w ≡ 3 → 1 ≤ 0) → n < 256 ^ w → length (header_of container n) ≤ 1 + w
unfolding header_of
container_enough Array zero n a b c h = absurd (omega arith)
container_enough Array (suc zero) n a b c h = absurd (omega arith)
container_enough Array (suc (suc zero)) n a b c h = grind (arith, common_steps)
container_enough Array (suc (suc (suc zero))) n a b c h = absurd (let d = c refl in omega arith)
container_enough Array (suc (suc (suc (suc zero)))) n a b c h = grind (arith, common_steps)
container_enough Array (suc (suc (suc (suc (suc w))))) n a b c h = absurd (omega arith)
container_enough Map zero n a b c h = absurd (omega arith)
container_enough Map (suc zero) n a b c h = absurd (omega arith)
container_enough Map (suc (suc zero)) n a b c h = grind (arith, common_steps)
container_enough Map (suc (suc (suc zero))) n a b c h = absurd (let d = c refl in omega arith)
container_enough Map (suc (suc (suc (suc zero)))) n a b c h = grind (arith, common_steps)
container_enough Map (suc (suc (suc (suc (suc w))))) n a b c h = absurd (omega arith)

-- no header of a str is shorter
str_by : (s : Shape) (first n : ℕ) (length_bytes : List ℕ) → shape_of first ≡ s → IsBytes length_bytes → Sizes s kind.Str n length_bytes → length (str_header_of n) ≤ suc (length length_bytes)
str_by (Fixed k c) first n length_bytes q h e =
    let small = fixed_str first c (q ∙ ap (λ (x : Kind). Fixed x c) e.0) in
    let same = e.2 in
    let l = str_small n (omega arith) in
    omega arith
str_by (Sized k w extra) first n length_bytes q h e =
    let none = sized_str first w extra (q ∙ ap (λ (x : Kind). Sized x w extra) e.0) in
    let size = e.1 in
    let same = e.2 in
    let value : big_endian length_bytes < 256 ^ w = rw (← e.1) (value_small length_bytes h) in
    let l = str_enough w n (sized_width first w extra k q) (sized_most first w extra k q) (λ three. sized_not_three first extra k (q ∙ ap (λ (x : ℕ). Sized k x extra) three)) (omega arith) in
    omega arith
str_by (Holds container c) first n length_bytes q h e = absurd e
str_by (Counted container w) first n length_bytes q h e = absurd e
str_by Never first n length_bytes q h e = absurd e

str_least : (header : List ℕ) (n : ℕ) → IsBytes header → IsScalarHeader kind.Str n header → length (str_header_of n) ≤ length header
str_least [] n h e = absurd e
str_least (first ∷ length_bytes) n h e = let l = str_by (shape_of first) first n length_bytes refl (bytes_behind first length_bytes h) (scalar_sizes kind.Str n first length_bytes e) in omega arith

bin_by : (s : Shape) (first n : ℕ) (length_bytes : List ℕ) → shape_of first ≡ s → IsBytes length_bytes → Sizes s kind.Bin n length_bytes → length (bin_header_of n) ≤ suc (length length_bytes)
bin_by (Fixed k c) first n length_bytes q h e = absurd (let none = fixed_bin first c (q ∙ ap (λ (x : Kind). Fixed x c) e.0) in omega arith)
bin_by (Sized k w extra) first n length_bytes q h e =
    let none = sized_bin first w extra (q ∙ ap (λ (x : Kind). Sized x w extra) e.0) in
    let size = e.1 in
    let same = e.2 in
    let value : big_endian length_bytes < 256 ^ w = rw (← e.1) (value_small length_bytes h) in
    let l = bin_enough w n (sized_width first w extra k q) (sized_most first w extra k q) (λ three. sized_not_three first extra k (q ∙ ap (λ (x : ℕ). Sized k x extra) three)) (omega arith) in
    omega arith
bin_by (Holds container c) first n length_bytes q h e = absurd e
bin_by (Counted container w) first n length_bytes q h e = absurd e
bin_by Never first n length_bytes q h e = absurd e

bin_least : (header : List ℕ) (n : ℕ) → IsBytes header → IsScalarHeader kind.Bin n header → length (bin_header_of n) ≤ length header
bin_least [] n h e = absurd e
bin_least (first ∷ length_bytes) n h e = let l = bin_by (shape_of first) first n length_bytes refl (bytes_behind first length_bytes h) (scalar_sizes kind.Bin n first length_bytes e) in omega arith

container_by : (s : Shape) (container : Container) (first n : ℕ) (count_bytes : List ℕ) → shape_of first ≡ s → IsBytes count_bytes → Counts s container n count_bytes → length (header_of container n) ≤ suc (length count_bytes)
container_by (Fixed k c) container first n count_bytes q h e = absurd e
container_by (Sized k w extra) container first n count_bytes q h e = absurd e
container_by (Holds c count) container first n count_bytes q h e =
    let few = holds_few first count c q in
    let same = e.2 in
    let l = container_small container n (omega arith) in
    omega arith
container_by (Counted c w) container first n count_bytes q h e =
    let size = e.1 in
    let same = e.2 in
    let value : big_endian count_bytes < 256 ^ w = rw (← e.1) (value_small count_bytes h) in
    let l = container_enough container w n (counted_width first w c q) (counted_most first w c q) (λ three. counted_not_three first c (q ∙ ap (λ (x : ℕ). Counted c x) three)) (omega arith) in
    omega arith
container_by Never container first n count_bytes q h e = absurd e

container_least : (container : Container) (header : List ℕ) (n : ℕ) → IsBytes header → IsContainerHeader container n header → length (header_of container n) ≤ length header
container_least container [] n h e = absurd e
container_least container (first ∷ count_bytes) n h e = let l = container_by (shape_of first) container first n count_bytes refl (bytes_behind first count_bytes h) (container_counts container n first count_bytes e) in omega arith

-- a scalar is as long as its header and its content
spelled_least : (k : Kind) (bytes content : List ℕ) (least : ℕ) → Spells k bytes content → IsBytes bytes → ((header : List ℕ) → IsBytes header → IsScalarHeader k (length content) header → least ≤ length header) → least + length content ≤ length bytes
spelled_least k bytes content least s h f =
    let l = length-append s.header content in
    let m = ap length s.whole in
    let own = f s.header (bytes_front s.header content (rw s.whole at h)) s.sized in
    omega arith

-- the headers that are written
either : (P : List ℕ → Type 0) (b : Bool) (x y : List ℕ) → (b ≡ true → P x) → (b ≡ false → P y) → P (cond b x y)
either P true x y f g = f refl
either P false x y f g = g refl

str_header : (n : ℕ) → n < 2 ^ 32 → IsScalarHeader kind.Str n (str_header_of n)
unfolding shape_of
str_header n h =
    let Is : List ℕ → Type 0 = IsScalarHeader kind.Str n in
    either Is (nat_lt n 32) _ _ (λ t. inl (fixstr n (less n 32 t), refl))
    (λ _. either Is (nat_lt n (2 ^ 8)) _ _ (λ t. inr (0, refl, (let v = value_one n (less n (2 ^ 8) t) in omega arith)))
    (λ _. either Is (nat_lt n (2 ^ 16)) _ _ (λ t. inr (0, refl, (let v = value_two n (less n (2 ^ 16) t) in omega arith)))
    (λ _. inr (0, refl, (let v = value_four n h in omega arith)))))

bin_header : (n : ℕ) → n < 2 ^ 32 → IsScalarHeader kind.Bin n (bin_header_of n)
unfolding shape_of
bin_header n h =
    let Is : List ℕ → Type 0 = IsScalarHeader kind.Bin n in
    either Is (nat_lt n (2 ^ 8)) _ _ (λ t. inr (0, refl, (let v = value_one n (less n (2 ^ 8) t) in omega arith)))
    (λ _. either Is (nat_lt n (2 ^ 16)) _ _ (λ t. inr (0, refl, (let v = value_two n (less n (2 ^ 16) t) in omega arith)))
    (λ _. inr (0, refl, (let v = value_four n h in omega arith))))

array_header : (n : ℕ) → n < 2 ^ 32 → IsContainerHeader Array n (array_header_of n)
unfolding shape_of
array_header n h =
    let Is : List ℕ → Type 0 = IsContainerHeader Array n in
    either Is (nat_lt n 16) _ _ (λ t. inl (fixarray n (less n 16 t), refl))
    (λ _. either Is (nat_lt n (2 ^ 16)) _ _ (λ t. inr (refl, sym (value_two n (less n (2 ^ 16) t))))
    (λ _. inr (refl, sym (value_four n h))))

map_header : (n : ℕ) → n < 2 ^ 32 → IsContainerHeader Map n (map_header_of n)
unfolding shape_of
map_header n h =
    let Is : List ℕ → Type 0 = IsContainerHeader Map n in
    either Is (nat_lt n 16) _ _ (λ t. inl (fixmap n (less n 16 t), refl))
    (λ _. either Is (nat_lt n (2 ^ 16)) _ _ (λ t. inr (refl, sym (value_two n (less n (2 ^ 16) t))))
    (λ _. inr (refl, sym (value_four n h))))

pub str_spelled : IsStrSpelled
str_spelled content h = (
  record { header = str_header_of (length content); sized = str_header (length content) h; whole = refl },
  λ other bytes s. (
      let l = length-append (str_header_of (length content)) content in
      let least = spelled_least kind.Str other content (length (str_header_of (length content))) s bytes (λ header b e. str_least header (length content) b e) in
      omega arith
      ),
)

pub bin_spelled : IsBinSpelled
bin_spelled content h = (
  record { header = bin_header_of (length content); sized = bin_header (length content) h; whole = refl },
  λ other bytes s. (
      let l = length-append (bin_header_of (length content)) content in
      let least = spelled_least kind.Bin other content (length (bin_header_of (length content))) s bytes (λ header b e. bin_least header (length content) b e) in
      omega arith
      ),
)

pub array_spelled : IsArraySpelled
unfolding header_of
array_spelled n h = (array_header n h, λ other bytes e. container_least Array other n bytes e)

pub map_spelled : IsMapSpelled
unfolding header_of
map_spelled n h = (map_header n h, λ other bytes e. container_least Map other n bytes e)

pub bool_spelled : IsBoolSpelled
bool_spelled value = (refl, λ other bytes e. (let l = ap length e in omega arith))

-- integers
uint_small : (n : ℕ) → n < 0x80 → length (uint_of n) ≤ 1
uint_small n h = grind (arith, common_steps)

uint_enough : (c n : ℕ) → 1 ≤ c → c ≤ 8 → (2 < c → c < 8 → c ≡ 4) → n < 256 ^ c → length (uint_of n) ≤ 1 + c
uint_enough zero n a b gap h = absurd (omega arith)
uint_enough (suc zero) n a b gap h = grind (arith, common_steps)
uint_enough (suc (suc zero)) n a b gap h = grind (arith, common_steps)
uint_enough (suc (suc (suc zero))) n a b gap h = absurd (let four : 3 ≡ 4 = gap (omega arith) (omega arith) in omega arith)
uint_enough (suc (suc (suc (suc zero)))) n a b gap h = grind (arith, common_steps)
uint_enough (suc (suc (suc (suc (suc zero))))) n a b gap h = absurd (let four : 5 ≡ 4 = gap (omega arith) (omega arith) in omega arith)
uint_enough (suc (suc (suc (suc (suc (suc zero)))))) n a b gap h = absurd (let four : 6 ≡ 4 = gap (omega arith) (omega arith) in omega arith)
uint_enough (suc (suc (suc (suc (suc (suc (suc zero))))))) n a b gap h = absurd (let four : 7 ≡ 4 = gap (omega arith) (omega arith) in omega arith)
uint_enough (suc (suc (suc (suc (suc (suc (suc (suc zero)))))))) n a b gap h = grind (arith, common_steps)
uint_enough (suc (suc (suc (suc (suc (suc (suc (suc (suc c))))))))) n a b gap h = absurd (omega arith)

header_some : (k : Kind) (n : ℕ) (header : List ℕ) → IsScalarHeader k n header → 1 ≤ length header
header_some k n [] e = absurd e
header_some k n (first ∷ length_bytes) e = omega arith

fixed_by : (k : Kind) (s : Shape) (first n : ℕ) (length_bytes : List ℕ) → shape_of first ≡ s → Sizes s k n length_bytes → ((first w extra : ℕ) → shape_of first ≡ Sized k w extra → 1 ≤ 0) → (byte : ℕ) × (shape_of byte ≡ Fixed k n)
fixed_by k (Fixed own c) first n length_bytes q e none = (first, rw (e.2, ← e.0) q)
fixed_by k (Sized own w extra) first n length_bytes q e none = absurd (let never = none first w extra (q ∙ ap (λ (x : Kind). Sized x w extra) e.0) in omega arith)
fixed_by k (Holds container c) first n length_bytes q e none = absurd e
fixed_by k (Counted container w) first n length_bytes q e none = absurd e
fixed_by k Never first n length_bytes q e none = absurd e

header_fixed : (k : Kind) (n : ℕ) (header : List ℕ) → IsScalarHeader k n header → ((first w extra : ℕ) → shape_of first ≡ Sized k w extra → 1 ≤ 0) → (byte : ℕ) × (shape_of byte ≡ Fixed k n)
header_fixed k n [] e none = absurd e
header_fixed k n (first ∷ length_bytes) e none = fixed_by k (shape_of first) first n length_bytes refl (scalar_sizes k n first length_bytes e) none

-- a number of so many bytes, of which n is one
sized_uint : (k : Kind) (bytes content : List ℕ) (n : ℕ) → Spells k bytes content → IsBytes content → n ≡ big_endian content
    → ((first c : ℕ) → shape_of first ≡ Fixed k c → (1 ≤ c) × (c ≤ 8)) → ((first c : ℕ) → shape_of first ≡ Fixed k c → 2 < c → c < 8 → c ≡ 4) → ((first w extra : ℕ) → shape_of first ≡ Sized k w extra → 1 ≤ 0)
    → length (uint_of n) ≤ length bytes
sized_uint k bytes content n s h e ends gap none =
    let l = length-append s.header content in
    let m = ap length s.whole in
    let all : 1 + length content ≤ length bytes = (let some = header_some k (length content) s.header s.sized in omega arith) in
    let c = header_fixed k (length content) s.header s.sized none in
    let range = ends c.0 (length content) c.1 in
    let value = value_small content h in
    let enough = uint_enough (length content) n range.0 range.1 (gap c.0 (length content) c.1) (omega arith) in
    omega arith

uint_said : (n : ℕ) → n < 2 ^ 64 → IsInteger (uint_of n) (pos n)
unfolding shape_of
uint_said n h =
    let Is : List ℕ → Type 0 = λ bytes. IsInteger bytes (pos n) in
    either Is (nat_lt n 0x80) _ _ (λ t. Positive n (less n 0x80 t) refl refl)
    (λ _. either Is (nat_lt n (2 ^ 8)) _ _ (λ t. Unsigned (bytes_high_first 1 n) (record { header = 0xcc ∷ []; sized = inl (refl, refl); whole = refl }) (ap pos (sym (value_one n (less n (2 ^ 8) t)))))
    (λ _. either Is (nat_lt n (2 ^ 16)) _ _ (λ t. Unsigned (bytes_high_first 2 n) (record { header = 0xcd ∷ []; sized = inl (refl, refl); whole = refl }) (ap pos (sym (value_two n (less n (2 ^ 16) t)))))
    (λ _. either Is (nat_lt n (2 ^ 32)) _ _ (λ t. Unsigned (bytes_high_first 4 n) (record { header = 0xce ∷ []; sized = inl (refl, refl); whole = refl }) (ap pos (sym (value_four n (less n (2 ^ 32) t)))))
    (λ _. Unsigned (bytes_high_first 8 n) (record { header = 0xcf ∷ []; sized = inl (refl, refl); whole = refl }) (ap pos (sym (value_eight n h)))))))

bytes_back : (front back : List ℕ) → IsBytes (front ++ back) → IsBytes back
bytes_back [] back h = h
bytes_back (x ∷ front) back h = bytes_back front back (λ i. h (suc i))

content_bytes : (k : Kind) (bytes content : List ℕ) → Spells k bytes content → IsBytes bytes → IsBytes content
content_bytes k bytes content s h = bytes_back s.header content (rw s.whole at h)

-- a natural number is no negative one
twos_natural : (n b span : ℕ) (test : Bool) → b < span → pos n ≡ cond test (pos b) (pos b -ℤ pos span) → n ≡ b
twos_natural n b span true h e = cc
twos_natural n b span false h e = absurd (omega (arith, ints))

pow_bytes : (k : ℕ) → k ≤ 8 → 2 ^ (8 * k) ≡ 256 ^ k
pow_bytes zero h = refl
pow_bytes (suc zero) h = refl
pow_bytes (suc (suc zero)) h = refl
pow_bytes (suc (suc (suc zero))) h = refl
pow_bytes (suc (suc (suc (suc zero)))) h = refl
pow_bytes (suc (suc (suc (suc (suc zero))))) h = refl
pow_bytes (suc (suc (suc (suc (suc (suc zero)))))) h = refl
pow_bytes (suc (suc (suc (suc (suc (suc (suc zero))))))) h = refl
pow_bytes (suc (suc (suc (suc (suc (suc (suc (suc zero)))))))) h = refl
pow_bytes (suc (suc (suc (suc (suc (suc (suc (suc (suc k))))))))) h = absurd (omega arith)

uint_least : (n : ℕ) (bytes : List ℕ) → IsBytes bytes → IsInteger bytes (pos n) → length (uint_of n) ≤ length bytes
uint_least n bytes h (Positive byte lt e v) =
    let same : n ≡ byte = cc in
    let l = ap length e in
    let small = uint_small n (omega arith) in
    omega arith
uint_least n bytes h (Negative byte le e v) =
    absurd (let first : IsBytes (byte ∷ []) = rw e at h in let small : byte < 256 = first 0 in omega (arith, ints))
uint_least n bytes h (Unsigned content s v) =
    sized_uint kind.Unsigned bytes content n s (content_bytes kind.Unsigned bytes content s h) (cc) fixed_unsigned fixed_unsigned_gap sized_unsigned
uint_least n bytes h (Signed content s v) =
    let own = content_bytes kind.Signed bytes content s h in
    let c = header_fixed kind.Signed (length content) s.header s.sized sized_signed in
    let range = fixed_signed c.0 (length content) c.1 in
    let span = pow_bytes (length content) range.1 in
    let value : big_endian content < 2 ^ (8 * length content) = rw span (value_small content own) in
    let same = twos_natural n (big_endian content) (2 ^ (8 * length content)) (nat_lt (2 * big_endian content) (2 ^ (8 * length content))) value v in
    sized_uint kind.Signed bytes content n s own same fixed_signed fixed_signed_gap sized_signed

pub uint_spelled : IsUintSpelled
uint_spelled n h = (uint_said n h, λ other bytes e. uint_least n other bytes e)
