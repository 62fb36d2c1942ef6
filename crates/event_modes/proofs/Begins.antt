-- What family of items one is of, from its first byte; and that a header is one.
use Rattle.std.proofs.Common.{ℕ, ◌≡◌, ◌*◌, ℤ, List, [], ◌∷◌, ◌++◌, length, refl, ap, sym, subst, ◌∙◌, arith, inl, inr}
use Rattle.std.specs.List.{concat}
use Rattle.std.proofs.lemmas.List.{append_cancel_left, append-nil}
use Rattle.msgpack_bytes.specs.declared.format.Shape.{Shape}
use Rattle.msgpack_bytes.specs.declared.format.Shape.TheVariants.{Fixed, Sized, Holds, Counted, Never}
use Rattle.msgpack_bytes.specs.declared.format.Kind.{Kind}
use Rattle.msgpack_bytes.specs.declared.format.Kind.TheVariants as kind
use Rattle.msgpack_bytes.specs.declared.format.Container.{Container}
use Rattle.msgpack_bytes.specs.declared.format.Container.TheVariants as container
use Rattle.msgpack_bytes.specs.Format.{big_endian, shape_of}
use Rattle.msgpack_bytes.specs.Sizes.{Sizes, Counts}
use Rattle.msgpack_bytes.specs.Item.{IsScalarHeader, IsContainerHeader, Spells}
use Rattle.msgpack_bytes.specs.Kinds.{IsNil, IsStr, IsBin, IsText, IsInteger, Positive, Negative, Unsigned, Signed}
use Rattle.msgpack_bytes.proofs.Headers.{scalar_sizes, container_counts}
use Rattle.msgpack_bytes.proofs.Sound.{positive_shape, negative_shape}
use Rattle.msgpack_bytes.specs.Containers.{Pair, pair_items, IsArray, IsMap}
use Rattle.event_modes.proofs.Parting.{same_items, parts_items}

-- ---- headers

-- two lists of one length that begin one list are one
pub same_lengths : (g h x y : List ℕ) → length g ≡ length h → g ++ x ≡ h ++ y → g ≡ h
same_lengths [] [] x y l e = refl
same_lengths [] (b ∷ h) x y l e = absurd (omega arith)
same_lengths (a ∷ g) [] x y l e = absurd (omega arith)
same_lengths (a ∷ g) (b ∷ h) x y l e =
    let t : g ++ x ≡ h ++ y = cc in
    let r = same_lengths g h x y (omega arith) t in
    let f : a ≡ b = cc in
    cc

-- two counts behind one first byte are one
counts_one : (s : Shape) (c : Container) (g h : List ℕ) (m n : ℕ) (x y : List ℕ) → Counts s c m g → Counts s c n h → g ++ x ≡ h ++ y → (g ≡ h) × (m ≡ n)
counts_one (Fixed k n') c g h m n x y p q e = absurd p
counts_one (Sized k w n') c g h m n x y p q e = absurd p
counts_one (Holds d n') c g h m n x y p q e = (p.1 ∙ sym q.1, p.2 ∙ sym q.2)
counts_one (Counted d w) c g h m n x y p q e =
    let f = same_lengths g h x y (p.1 ∙ sym q.1) e in
    (f, p.2 ∙ ap big_endian f ∙ sym q.2)
counts_one Never c g h m n x y p q e = absurd p

-- two contents behind one first byte are one
sizes_one : (s : Shape) (k : Kind) (g h c d : List ℕ) → Sizes s k (length c) g → Sizes s k (length d) h → g ++ c ≡ h ++ d → c ≡ d
sizes_one (Fixed j n) k g h c d p q e =
    let f = same_lengths g h c d (ap length (p.1 ∙ sym q.1)) e in
    append_cancel_left g c d (e ∙ ap (λ (z : List ℕ). z ++ d) (sym f))
sizes_one (Sized j w n) k g h c d p q e =
    let f = same_lengths g h c d (p.1 ∙ sym q.1) e in
    append_cancel_left g c d (e ∙ ap (λ (z : List ℕ). z ++ d) (sym f))
sizes_one (Holds j n) k g h c d p q e = absurd p
sizes_one (Counted j n) k g h c d p q e = absurd p
sizes_one Never k g h c d p q e = absurd p

pub record Same (m n : ℕ) (g h x y : List ℕ) : Type 0 where
  pub count : m ≡ n
  pub header : g ≡ h
  pub behind : x ≡ y

-- a container has one header
pub one_header : (c : Container) (m n : ℕ) (g h x y : List ℕ) → IsContainerHeader c m g → IsContainerHeader c n h → g ++ x ≡ h ++ y → Same m n g h x y
one_header c m n [] h x y p q e = absurd p
one_header c m n (a ∷ g) [] x y p q e = absurd q
one_header c m n (a ∷ g) (b ∷ h) x y p q e =
    let f : a ≡ b = cc in
    let t : g ++ x ≡ h ++ y = cc in
    let p' = subst (λ (z : ℕ). Counts (shape_of z) c m g) f (container_counts c m a g p) in
    let r = counts_one (shape_of b) c g h m n x y p' (container_counts c n b h q) t in
    record {
      count = r.1;
      header = (let l = r.0 in cc);
      behind = append_cancel_left g x y (t ∙ ap (λ (z : List ℕ). z ++ y) (sym r.0));
    }

-- ---- families

abbrev pub family_of : Kind → ℕ
family_of kind.Nil = 0
family_of kind.Bool = 1
family_of kind.PositiveFixint = 2
family_of kind.NegativeFixint = 2
family_of kind.Unsigned = 2
family_of kind.Signed = 2
family_of kind.Float = 3
family_of kind.Str = 4
family_of kind.Bin = 5
family_of kind.Ext = 6

abbrev pub family_in : Container → ℕ
family_in container.Array = 7
family_in container.Map = 8

abbrev pub family_at : Shape → ℕ
family_at (Fixed k n) = family_of k
family_at (Sized k w n) = family_of k
family_at (Holds c n) = family_in c
family_at (Counted c w) = family_in c
family_at Never = 9

-- the first byte is one of this family
abbrev pub BeginsAs : ℕ → List ℕ → Type 0
BeginsAs f [] = ⊥
BeginsAs f (first ∷ rest) = family_at (shape_of first) ≡ f

pub begins_one : (j k : ℕ) (bytes : List ℕ) → BeginsAs j bytes → BeginsAs k bytes → j ≡ k
begins_one j k [] p q = absurd p
begins_one j k (b ∷ bytes) p q = sym p ∙ q

pub begins_more : (k : ℕ) (a x : List ℕ) → BeginsAs k a → BeginsAs k (a ++ x)
begins_more k [] x p = absurd p
begins_more k (b ∷ a) x p = p

sizes_family : (s : Shape) (k : Kind) (n : ℕ) (g : List ℕ) → Sizes s k n g → family_at s ≡ family_of k
sizes_family (Fixed j m) k n g p = ap family_of p.0
sizes_family (Sized j w m) k n g p = ap family_of p.0
sizes_family (Holds j m) k n g p = absurd p
sizes_family (Counted j m) k n g p = absurd p
sizes_family Never k n g p = absurd p

counts_family : (s : Shape) (c : Container) (n : ℕ) (g : List ℕ) → Counts s c n g → family_at s ≡ family_in c
counts_family (Fixed j m) c n g p = absurd p
counts_family (Sized j w m) c n g p = absurd p
counts_family (Holds j m) c n g p = ap family_in p.0
counts_family (Counted j m) c n g p = ap family_in p.0
counts_family Never c n g p = absurd p

scalar_header_begins : (k : Kind) (n : ℕ) (g : List ℕ) → IsScalarHeader k n g → BeginsAs (family_of k) g
scalar_header_begins k n [] p = absurd p
scalar_header_begins k n (a ∷ g) p = sizes_family (shape_of a) k n g (scalar_sizes k n a g p)

pub header_begins : (c : Container) (n : ℕ) (g : List ℕ) → IsContainerHeader c n g → BeginsAs (family_in c) g
header_begins c n [] p = absurd p
header_begins c n (a ∷ g) p = counts_family (shape_of a) c n g (container_counts c n a g p)

pub begins_front : (f : ℕ) (bytes front back : List ℕ) → BeginsAs f front → bytes ≡ front ++ back → BeginsAs f bytes
begins_front f bytes front back b e = subst (BeginsAs f) (sym e) (begins_more f front back b)

pub spells_begins : (k : Kind) (bytes content : List ℕ) → Spells k bytes content → BeginsAs (family_of k) bytes
spells_begins k bytes content s = begins_front (family_of k) bytes s.header content (scalar_header_begins k (length content) s.header s.sized) s.whole

pub array_begins : (items : List (List ℕ)) (bytes : List ℕ) → IsArray items bytes → BeginsAs 7 bytes
array_begins items bytes a = begins_front 7 bytes a.header (concat items) (header_begins container.Array (length items) a.header a.counted) a.whole

pub map_begins : (pairs : List Pair) (bytes : List ℕ) → IsMap pairs bytes → BeginsAs 8 bytes
map_begins pairs bytes a = begins_front 8 bytes a.header (concat (pair_items pairs)) (header_begins container.Map (length pairs) a.header a.counted) a.whole

pub nil_begins : (bytes : List ℕ) → IsNil bytes → BeginsAs 0 bytes
unfolding shape_of
nil_begins bytes e = subst (BeginsAs 0) (sym e) refl

pub int_begins : (bytes : List ℕ) (v : ℤ) → IsInteger bytes v → BeginsAs 2 bytes
int_begins bytes v (Positive byte lt e m) = subst (BeginsAs 2) (sym e) (ap family_at (positive_shape byte lt))
int_begins bytes v (Negative byte le e m) = subst (BeginsAs 2) (sym e) (ap family_at (negative_shape byte le))
int_begins bytes v (Unsigned content s m) = spells_begins kind.Unsigned bytes content s
int_begins bytes v (Signed content s m) = spells_begins kind.Signed bytes content s

-- ---- one way to read each

spells_one : (k : Kind) (bytes c d : List ℕ) → Spells k bytes c → Spells k bytes d → c ≡ d
spells_one k bytes c d s t = headers_one s.header t.header s.sized t.sized (sym s.whole ∙ t.whole)
  where
    headers_one : (g h : List ℕ) → IsScalarHeader k (length c) g → IsScalarHeader k (length d) h → g ++ c ≡ h ++ d → c ≡ d
    headers_one [] h p q e = absurd p
    headers_one (a ∷ g) [] p q e = absurd q
    headers_one (a ∷ g) (b ∷ h) p q e =
        let f : a ≡ b = cc in
        let t : g ++ c ≡ h ++ d = cc in
        sizes_one (shape_of b) k g h c d (subst (λ (z : ℕ). Sizes (shape_of z) k (length c) g) f (scalar_sizes k (length c) a g p)) (scalar_sizes k (length d) b h q) t

str_no_bin : (bytes c d : List ℕ) → IsStr bytes c → IsBin bytes d → ⊥
str_no_bin bytes c d s t = let e = begins_one 4 5 bytes (spells_begins kind.Str bytes c s) (spells_begins kind.Bin bytes d t) in omega arith

-- a text has one content
pub text_one : (bytes c d : List ℕ) → IsText bytes c → IsText bytes d → c ≡ d
text_one bytes c d (inl s) (inl t) = spells_one kind.Str bytes c d s t
text_one bytes c d (inl s) (inr t) = absurd (str_no_bin bytes c d s t)
text_one bytes c d (inr s) (inl t) = absurd (str_no_bin bytes d c t s)
text_one bytes c d (inr s) (inr t) = spells_one kind.Bin bytes c d s t

-- an array has one list of items
pub array_one : (xs ys : List (List ℕ)) (bytes : List ℕ) → IsArray xs bytes → IsArray ys bytes → xs ≡ ys
array_one xs ys bytes a b =
    let h = one_header container.Array (length xs) (length ys) a.header b.header (concat xs) (concat ys) a.counted b.counted (sym a.whole ∙ b.whole) in
    (same_items xs ys [] [] (parts_items xs a.each) (parts_items ys b.each) h.count (append-nil (concat xs) ∙ h.behind ∙ sym (append-nil (concat ys)))).0

pub same_pair : (a b : Pair) → a.key ≡ b.key → a.value ≡ b.value → a ≡ b
same_pair a b k v = ap (λ (x : List ℕ). pair x a.value) k ∙ ap (λ (x : List ℕ). pair b.key x) v
  where
    pair : List ℕ → List ℕ → Pair
    pair k v = record { key = k; value = v }

-- keys and values by turns are those of one list of pairs
pub pairs_back : (ps qs : List Pair) → pair_items ps ≡ pair_items qs → ps ≡ qs
pairs_back [] [] e = refl
pairs_back [] (q ∷ qs) e = absurd cc
pairs_back (p ∷ ps) [] e = absurd cc
pairs_back (p ∷ ps) (q ∷ qs) e =
    let t : pair_items ps ≡ pair_items qs = cc in
    let r = pairs_back ps qs t in
    let k : p.key ≡ q.key = cc in
    let v : p.value ≡ q.value = cc in
    let s = same_pair p q k v in
    cc

-- a map has one list of pairs
pub map_one : (ps qs : List Pair) (bytes : List ℕ) → IsMap ps bytes → IsMap qs bytes → ps ≡ qs
map_one ps qs bytes a b =
    let h = one_header container.Map (length ps) (length qs) a.header b.header (concat (pair_items ps)) (concat (pair_items qs)) a.counted b.counted (sym a.whole ∙ b.whole) in
    let n : length (pair_items ps) ≡ length (pair_items qs) = a.all ∙ ap (λ (k : ℕ). 2 * k) h.count ∙ sym b.all in
    pairs_back ps qs (same_items (pair_items ps) (pair_items qs) [] [] (parts_items (pair_items ps) a.each) (parts_items (pair_items qs) b.each) n
    (append-nil (concat (pair_items ps)) ∙ h.behind ∙ sym (append-nil (concat (pair_items qs))))).0

-- ---- no item is of two families

pub no_array_text : (items : List (List ℕ)) (bytes c : List ℕ) → IsArray items bytes → IsText bytes c → ⊥
no_array_text items bytes c a (inl s) = let e = begins_one 7 4 bytes (array_begins items bytes a) (spells_begins kind.Str bytes c s) in omega arith
no_array_text items bytes c a (inr s) = let e = begins_one 7 5 bytes (array_begins items bytes a) (spells_begins kind.Bin bytes c s) in omega arith

pub no_array_nil : (items : List (List ℕ)) (bytes : List ℕ) → IsArray items bytes → IsNil bytes → ⊥
no_array_nil items bytes a n = let e = begins_one 7 0 bytes (array_begins items bytes a) (nil_begins bytes n) in omega arith

pub no_map_nil : (pairs : List Pair) (bytes : List ℕ) → IsMap pairs bytes → IsNil bytes → ⊥
no_map_nil pairs bytes a n = let e = begins_one 8 0 bytes (map_begins pairs bytes a) (nil_begins bytes n) in omega arith

pub no_text_nil : (bytes c : List ℕ) → IsText bytes c → IsNil bytes → ⊥
no_text_nil bytes c (inl s) n = let e = begins_one 4 0 bytes (spells_begins kind.Str bytes c s) (nil_begins bytes n) in omega arith
no_text_nil bytes c (inr s) n = let e = begins_one 5 0 bytes (spells_begins kind.Bin bytes c s) (nil_begins bytes n) in omega arith
