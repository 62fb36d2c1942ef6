-- Items side by side: there is one way to part them.
use Rattle.std.proofs.Common.{ℕ, ◌≡◌, ◌≤◌, ◌⊎◌, List, [], ◌∷◌, ◌++◌, length, refl, ap, sym, subst, ◌∙◌, arith, append_assoc, inl, inr, Ok}
use Rattle.std.specs.List.{AllByRecursion, concat}
use Rattle.std.proofs.lemmas.List.{append_cancel_right, length-append}
use Rattle.msgpack_bytes.specs.declared.format.Kind.TheVariants as kind
use Rattle.msgpack_bytes.specs.Format.{shape_of}
use Rattle.msgpack_bytes.specs.Item.{IsScalarHeader, IsContainerHeader, IsScalar, Item, deepest, longest, IsItemWithin}
use Rattle.msgpack_bytes.specs.Parts.{HasRow}
use Rattle.msgpack_bytes.specs.Run.{run}
use Rattle.msgpack_bytes.proofs.Items.{item_read}
use Rattle.msgpack_bytes.proofs.Contained.{item_cases as cases_of, row_item}
use Rattle.msgpack_bytes.proofs.Mended.{deeper}
use Rattle.msgpack_bytes.specs.Containers.{IsPart}

-- an item of any length
pub record IsItem (bytes : List ℕ) : Type 0 where
  pub item : Item deepest bytes

pub run_item : (a x : List ℕ) → IsItem a → run deepest (a ++ x) ≡ Ok x
run_item a x p = item_read deepest a x p.item

-- two items that begin one list are one
pub same_behind : (a b x y : List ℕ) → IsItem a → IsItem b → a ++ x ≡ b ++ y → x ≡ y
same_behind a b x y p q e =
    let r = run_item a x p in
    let s = run_item b y q in
    let t = ap (run deepest) e in
    cc

pub same_front : (a b x y : List ℕ) → IsItem a → IsItem b → a ++ x ≡ b ++ y → a ≡ b
same_front a b x y p q e =
    append_cancel_right a b y (ap (λ (z : List ℕ). a ++ z) (sym (same_behind a b x y p q e)) ∙ e)

-- an item is a scalar, or a container of parts
pub item_cases : (bytes : List ℕ) → IsItem bytes → IsScalar bytes ⊎ HasRow (Item 63) bytes
item_cases bytes p = cases_of 63 bytes p.item

pub scalar_is_item : (bytes : List ℕ) → IsScalar bytes → Item deepest bytes
unfolding Item
scalar_is_item bytes s = inl s

pub scalar_is_part : (bytes : List ℕ) → IsScalar bytes → Item 63 bytes
unfolding Item
scalar_is_part bytes s = inl s

pub container_is_item : (bytes : List ℕ) → HasRow (Item 63) bytes → Item deepest bytes
container_is_item bytes c = row_item 63 bytes c

pub all_map : {X : Type 0} (P Q : X → Type 0) (xs : List X) → ((x : X) → P x → Q x) → AllByRecursion P xs → AllByRecursion Q xs
all_map P Q [] f p = tt
all_map P Q (x ∷ xs) f p = (f x p.0, all_map P Q xs f p.1)

pub part_item : (bytes : List ℕ) → IsPart bytes → IsItem bytes
part_item bytes p = record { item = deeper 63 bytes p }

pub text_item : (bytes : List ℕ) → IsItemWithin bytes → IsItem bytes
text_item bytes t = record { item = t.item }

pub parts_items : (xs : List (List ℕ)) → AllByRecursion IsPart xs → AllByRecursion IsItem xs
parts_items xs p = all_map IsPart IsItem xs part_item p

pub texts_items : (xs : List (List ℕ)) → AllByRecursion IsItemWithin xs → AllByRecursion IsItem xs
texts_items xs p = all_map IsItemWithin IsItem xs text_item p

-- parts of what is not too long
pub parts_texts : (xs : List (List ℕ)) → AllByRecursion IsPart xs → length (concat xs) ≤ longest → AllByRecursion IsItemWithin xs
parts_texts [] p l = tt
parts_texts (x ∷ xs) p l =
    (record { item = (part_item x p.0).item; short = omega (arith, length-append x (concat xs)) }, parts_texts xs p.1 (omega (arith, length-append x (concat xs))))

pub front_nil : (a b : List ℕ) → a ++ b ≡ [] → a ≡ []
front_nil [] b e = refl
front_nil (x ∷ a) b e = absurd cc

-- an item has a first byte
pub some_item : IsItem [] → ⊥
some_item p = elim (item_cases [] p) [
  | inl s ↦ subst (IsScalarHeader s.kind (length s.content)) (front_nil s.spelled.header s.content (sym s.spelled.whole)) s.spelled.sized
  | inr c ↦ subst (IsContainerHeader c.container c.n) (front_nil c.header c.inner (sym c.whole)) c.counted
]

-- nil is an item
pub nil_item : IsItemWithin (0xc0 ∷ [])
unfolding shape_of
nil_item = record {
  item = scalar_is_item (0xc0 ∷ []) (record { kind = kind.Nil; content = []; spelled = record { header = 0xc0 ∷ []; sized = inl (refl, refl); whole = refl } });
  short = omega arith;
}

-- so many items that begin one list are the same ones
pub same_items : (xs ys : List (List ℕ)) (r s : List ℕ) → AllByRecursion IsItem xs → AllByRecursion IsItem ys → length xs ≡ length ys → concat xs ++ r ≡ concat ys ++ s → (xs ≡ ys) × (r ≡ s)
same_items [] [] r s p q n e = (refl, e)
same_items [] (y ∷ ys) r s p q n e = absurd (omega arith)
same_items (x ∷ xs) [] r s p q n e = absurd (omega arith)
same_items (x ∷ xs) (y ∷ ys) r s p q n e =
    let e' : x ++ (concat xs ++ r) ≡ y ++ (concat ys ++ s) = sym (append_assoc x (concat xs) r) ∙ e ∙ append_assoc y (concat ys) s in
    let f = same_front x y _ _ p.0 q.0 e' in
    let b = same_items xs ys r s p.1 q.1 (omega arith) (same_behind x y _ _ p.0 q.0 e') in
    (let g = b.0 in cc, b.1)

-- items that are the whole of one list are the same ones
pub same_all_items : (xs ys : List (List ℕ)) → AllByRecursion IsItem xs → AllByRecursion IsItem ys → concat xs ≡ concat ys → xs ≡ ys
same_all_items [] [] p q e = refl
same_all_items [] (y ∷ ys) p q e = absurd (some_item (subst IsItem (front_nil y (concat ys) (sym e)) q.0))
same_all_items (x ∷ xs) [] p q e = absurd (some_item (subst IsItem (front_nil x (concat xs) e) p.0))
same_all_items (x ∷ xs) (y ∷ ys) p q e =
    let f = same_front x y _ _ p.0 q.0 e in
    let b = same_all_items xs ys p.1 q.1 (same_behind x y _ _ p.0 q.0 e) in
    cc
