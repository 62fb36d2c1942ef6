-- Containers as lists of parts, and as parts in a row.
use Rattle.std.proofs.Common.{ℕ, zero, suc, ◌≡◌, ◌*◌, ◌⊎◌, List, [], ◌∷◌, ◌++◌, length, refl, ap, sym, subst, ◌∙◌, arith, inl, inr, append_assoc}
use Rattle.std.specs.List.{AllByRecursion, concat, flat_map}
use Rattle.msgpack_bytes.specs.declared.format.Container.{Container}
use Rattle.msgpack_bytes.specs.Format.{items_in}
use Rattle.msgpack_bytes.specs.Item.{IsScalar, IsContainer, Item}
use Rattle.msgpack_bytes.specs.Parts.{Row, HasRow}
use Rattle.msgpack_bytes.specs.Containers.{Pair, IsPairOf, IsPart, IsMapOf, IsMap, pair_bytes, pair_items}

-- parts in a row are a list of parts
pub row_items : (part : List ℕ → Type 0) (n : ℕ) (bytes : List ℕ) → Row part n bytes → (items : List (List ℕ)) × (n ≡ length items) × AllByRecursion part items × (bytes ≡ concat items)
row_items part zero bytes r = ([], refl, tt, r)
row_items part (suc n) bytes r =
    let t = row_items part n r.1 r.3 in
    (r.0 ∷ t.0, ap suc t.1, (r.2, t.2), r.4 ∙ ap (λ (z : List ℕ). r.0 ++ z) t.3)

pub items_row : (part : List ℕ → Type 0) (items : List (List ℕ)) → AllByRecursion part items → Row part (length items) (concat items)
items_row part [] p = refl
items_row part (x ∷ xs) p = (x, concat xs, p.0, items_row part xs p.1, refl)

abbrev Contains : (List ℕ → Type 0) → List ℕ → Type 0
Contains part bytes = (container : Container) × (n : ℕ) × (items : List (List ℕ)) × IsContainer part container n items bytes

pub has_row : (part : List ℕ → Type 0) (bytes : List ℕ) → Contains part bytes → HasRow part bytes
has_row part bytes (container, n, items, c) = record {
  container = container;
  n = n;
  header = c.header;
  inner = concat items;
  counted = c.counted;
  parts = subst (λ (k : ℕ). Row part k (concat items)) c.all (items_row part items c.each);
  whole = c.whole;
}

pub row_has : (part : List ℕ → Type 0) (bytes : List ℕ) → HasRow part bytes → Contains part bytes
row_has part bytes r =
    let t = row_items part (items_in r.container r.n) r.inner r.parts in
    (r.container, r.n, t.0, record { header = r.header; counted = r.counted; all = sym t.1; each = t.2; whole = r.whole ∙ ap (λ (z : List ℕ). r.header ++ z) t.3 })

-- an item is a scalar, or a container whose parts are a row
pub item_cases : (depth : ℕ) (bytes : List ℕ) → Item (suc depth) bytes → IsScalar bytes ⊎ HasRow (Item depth) bytes
unfolding Item
item_cases depth bytes (inl s) = inl s
item_cases depth bytes (inr c) = inr (has_row (Item depth) bytes c)

pub row_item : (depth : ℕ) (bytes : List ℕ) → HasRow (Item depth) bytes → Item (suc depth) bytes
unfolding Item
row_item depth bytes r = inr (row_has (Item depth) bytes r)

-- ---- pairs

pub pair_concat : (pairs : List Pair) → concat (pair_items pairs) ≡ flat_map pair_bytes pairs
pair_concat [] = refl
pair_concat (p ∷ pairs) = ap (λ (z : List ℕ). p.key ++ (p.value ++ z)) (pair_concat pairs) ∙ sym (append_assoc p.key p.value (flat_map pair_bytes pairs))

pub length-pair_items : (pairs : List Pair) → length (pair_items pairs) ≡ 2 * length pairs
length-pair_items [] = refl
length-pair_items (p ∷ pairs) = let h = length-pair_items pairs in omega arith

pair_parts : (pairs : List Pair) → AllByRecursion (IsPairOf IsPart) pairs → AllByRecursion IsPart (pair_items pairs)
pair_parts [] p = tt
pair_parts (q ∷ pairs) p = (p.0.key, (p.0.value, pair_parts pairs p.1))

-- a map as pairs one after another is a container of their keys and values
pub pairs_map : (pairs : List Pair) (bytes : List ℕ) → IsMapOf IsPart pairs bytes → IsMap pairs bytes
pairs_map pairs bytes m = record {
  header = m.header;
  counted = m.counted;
  all = length-pair_items pairs;
  each = pair_parts pairs m.each;
  whole = m.whole ∙ ap (λ (z : List ℕ). m.header ++ z) (sym (pair_concat pairs));
}
