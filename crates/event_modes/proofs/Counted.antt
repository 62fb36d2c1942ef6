-- Items in a row, counted.
use Rattle.std.proofs.Common.{ℕ, zero, suc, ◌≡◌, ◌-◌, ◌*◌, ◌<◌, List, [], ◌∷◌, ◌++◌, length, take, drop, refl, ap, sym, subst, ◌∙◌, arith, append_assoc, Result, Some}
use Rattle.std.specs.Result.{result_unwrap_or}
use Rattle.std.specs.List.{AllByRecursion, concat, flat_map}
use Rattle.std.proofs.lemmas.List.{append-nil, length-append, take_at}
use Rattle.msgpack_bytes.specs.Item.{IsItemWithin}
use Rattle.msgpack_bytes.specs.Answers.{Begins}
use Rattle.msgpack_bytes.specs.Answers.{IsHead}
use Rattle.msgpack_bytes.specs.declared.answers.Head.TheVariants as head
use Rattle.msgpack_bytes.proofs.Contained.{pair_concat, length-pair_items}
use Rattle.event_modes.proofs.Heads.{is_array, is_map}
use Rattle.event_modes.specs.Rows.{behind_item, items_of, AreItems}
use Rattle.msgpack_bytes.specs.Containers.{Pair, pair_items, pair_bytes, IsArray, IsMap}
use Rattle.event_modes.proofs.Parting.{IsItem, run_item, same_front}
use Rattle.event_modes.proofs.Parting.{same_behind, text_item, texts_items, parts_texts}

behind_is : (a x : List ℕ) → IsItem a → behind_item (a ++ x) ≡ x
behind_is a x p = ap (λ (r : Result (List ℕ) _). result_unwrap_or r []) (run_item a x p)

pub items_cons : (n : ℕ) (a x : List ℕ) → IsItem a → items_of (suc n) (a ++ x) ≡ a ∷ items_of n x
unfolding items_of
items_cons n a x p =
    let b = behind_is a x p in
    let k : length (a ++ x) - length (behind_item (a ++ x)) ≡ length a = omega (arith, length-append a x, ap length b) in
    let t : take (length (a ++ x) - length (behind_item (a ++ x))) (a ++ x) ≡ a = ap (λ (i : ℕ). take i (a ++ x)) k ∙ take_at a x (length a) refl in
    let r = ap (items_of n) b in
    cc

pub items_all : (xs : List (List ℕ)) (r : List ℕ) → AllByRecursion IsItem xs → items_of (length xs) (concat xs ++ r) ≡ xs
unfolding items_of
items_all [] r p = refl
items_all (x ∷ xs) r p =
    ap (items_of (suc (length xs))) (append_assoc x (concat xs) r) ∙ items_cons (length xs) x (concat xs ++ r) p.0 ∙ ap (λ (ys : List (List ℕ)). x ∷ ys) (items_all xs r p.1)

pub length-items : (n : ℕ) (bytes : List ℕ) → length (items_of n bytes) ≡ n
unfolding items_of
length-items zero bytes = refl
length-items (suc n) bytes = ap suc (length-items n (behind_item bytes))

pub items_whole : (xs : List (List ℕ)) → AllByRecursion IsItem xs → items_of (length xs) (concat xs) ≡ xs
items_whole xs p = ap (items_of (length xs)) (sym (append-nil (concat xs))) ∙ items_all xs [] p

-- so many items are so many items
pub are_items : (count : ℕ) (bytes : List ℕ) (xs : List (List ℕ)) → count ≡ length xs → bytes ≡ concat xs → AllByRecursion IsItemWithin xs → AreItems count bytes × (items_of count bytes ≡ xs)
are_items count bytes xs n e p =
    let i : items_of count bytes ≡ xs = ap (λ (k : ℕ). items_of k bytes) n ∙ ap (items_of (length xs)) e ∙ items_whole xs (texts_items xs p) in
    (record { each = subst (AllByRecursion IsItemWithin) (sym i) p; whole = e ∙ ap concat (sym i) }, i)

-- none
pub no_items : (bytes : List ℕ) → items_of 0 bytes ≡ []
unfolding items_of
no_items bytes = refl

-- the first of some
pub some_items : (count : ℕ) (bytes : List ℕ) → 0 < count → AreItems count bytes → Begins IsItemWithin bytes
some_items count bytes lt a = begins (items_of count bytes) (omega (arith, length-items count bytes)) a.each a.whole
  where
    begins : (xs : List (List ℕ)) → 0 < length xs → AllByRecursion IsItemWithin xs → bytes ≡ concat xs → Begins IsItemWithin bytes
    begins [] l p e = absurd (omega arith)
    begins (x ∷ xs) l p e = record { front = x; back = concat xs; is = p.0; whole = e }

-- one item is all that is there
pub only_item : (count : ℕ) (bytes : List ℕ) → count ≡ 1 → AreItems count bytes → IsItemWithin bytes
only_item count bytes one a = only (items_of count bytes) (length-items count bytes ∙ one) a.each a.whole
  where
    only : (xs : List (List ℕ)) → length xs ≡ 1 → AllByRecursion IsItemWithin xs → bytes ≡ concat xs → IsItemWithin bytes
    only [] n p e = absurd (omega arith)
    only (x ∷ []) n p e = subst IsItemWithin (sym (e ∙ append-nil x)) p.0
    only (x ∷ y ∷ xs) n p e = absurd (omega arith)

pub record Taken (count : ℕ) (bytes item others : List ℕ) : Type 0 where
  pub first : items_of count bytes ≡ item ∷ items_of (count - 1) others
  pub left : AreItems (count - 1) others

-- taking one leaves the others
pub take_one : (count : ℕ) (bytes item others : List ℕ) → 0 < count → AreItems count bytes → IsItemWithin item → bytes ≡ item ++ others → Taken count bytes item others
take_one count bytes item others lt a t e = taken (items_of count bytes) refl
  where
    taken : (xs : List (List ℕ)) → items_of count bytes ≡ xs → Taken count bytes item others
    taken [] q = absurd (omega (arith, ap length q, length-items count bytes))
    taken (x ∷ xs) q =
        let p : AllByRecursion IsItemWithin (x ∷ xs) = subst (AllByRecursion IsItemWithin) q a.each in
        let w : item ++ others ≡ x ++ concat xs = sym e ∙ a.whole ∙ ap concat q in
        let f = same_front item x others (concat xs) (text_item item t) (text_item x p.0) w in
        let b = same_behind item x others (concat xs) (text_item item t) (text_item x p.0) w in
        let n : count - 1 ≡ length xs = omega (arith, ap length q, length-items count bytes) in
        let r = are_items (count - 1) others xs n b p.1 in
        let s = r.1 in
        record { first = cc; left = r.0 }

-- the elements of an array that is an item
pub element_texts : (items : List (List ℕ)) (bytes : List ℕ) → IsItemWithin bytes → IsArray items bytes → AllByRecursion IsItemWithin items
element_texts items bytes t a = parts_texts items a.each (omega (arith, t.short, ap length a.whole, length-append a.header (concat items)))

pub pair_texts : (pairs : List Pair) (bytes : List ℕ) → IsItemWithin bytes → IsMap pairs bytes → AllByRecursion IsItemWithin (pair_items pairs)
pair_texts pairs bytes t a =
    parts_texts (pair_items pairs) a.each (omega (arith, t.short, ap length a.whole, length-append a.header (concat (pair_items pairs))))

-- the bytes behind the header of an array are its items
pub array_items : (items : List (List ℕ)) (bytes inner : List ℕ) (count : ℕ) → IsItemWithin bytes → IsArray items bytes → count ≡ length items → inner ≡ concat items → AreItems count inner × (items_of count inner ≡ items)
array_items items bytes inner count t a n e = are_items count inner items n e (element_texts items bytes t a)

pub map_items : (pairs : List Pair) (bytes inner : List ℕ) (count : ℕ) → IsItemWithin bytes → IsMap pairs bytes → count ≡ length pairs → inner ≡ flat_map pair_bytes pairs → AreItems (2 * count) inner × (items_of (2 * count) inner ≡ pair_items pairs)
map_items pairs bytes inner count t a n e =
    are_items (2 * count) inner (pair_items pairs) (omega (arith, length-pair_items pairs)) (e ∙ sym (pair_concat pairs)) (pair_texts pairs bytes t a)

-- what the head of an array says of the bytes behind it
pub array_found : (item inner : List ℕ) (count next : ℕ) → IsItemWithin item → IsHead item 0 (Some (head.Array count next)) → inner ≡ drop next item → AreItems count inner × IsArray (items_of count inner) item
array_found item inner count next t h e =
    let a = is_array item count next t h in
    let r = array_items a.0 item inner count t a.1 a.2 (e ∙ a.3) in
    (r.0, subst (λ (xs : List (List ℕ)). IsArray xs item) (sym r.1) a.1)

-- and that of a map
pub map_found : (item inner : List ℕ) (count next : ℕ) → IsItemWithin item → IsHead item 0 (Some (head.Map count next)) → inner ≡ drop next item
    → AreItems (2 * count) inner × ((pairs : List Pair) × IsMap pairs item × (items_of (2 * count) inner ≡ pair_items pairs))
map_found item inner count next t h e =
    let a = is_map item count next t h in
    let r = map_items a.0 item inner count t a.1 a.2 (e ∙ a.3) in
    (r.0, (a.0, a.1, r.1))
