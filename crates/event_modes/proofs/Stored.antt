-- Stored entries in a row.
use Rattle.std.proofs.Common.{ℕ, refl, ◌≡◌, ◌+◌, ◌≤◌, List, [], ◌∷◌, ◌++◌, length, ap, sym, subst, ◌∙◌, arith, append_assoc}
use Rattle.std.specs.List.{AllByRecursion, concat}
use Rattle.std.proofs.lemmas.List.{append-nil, length-append}
use Rattle.msgpack_bytes.specs.Item.{IsItemWithin}
use Rattle.event_modes.specs.Rows.{items_of, IsStored, AreStored}
use Rattle.msgpack_bytes.proofs.Walk.{all_with}
use Rattle.event_modes.proofs.Counted.{no_items, length-items, are_items}

pub none_stored : (bytes : List ℕ) → bytes ≡ [] → AreStored 0 bytes
none_stored bytes e =
    let n = no_items bytes in
    record {
      items = record { each = subst (AllByRecursion IsItemWithin) (sym n) tt; whole = e ∙ ap concat (sym n) };
      each = subst (AllByRecursion IsStored) (sym n) tt;
    }

pub concat-push : (xs : List (List ℕ)) (x : List ℕ) → concat (xs ++ x ∷ []) ≡ concat xs ++ x
concat-push [] x = append-nil x
concat-push (y ∷ xs) x = ap (λ (z : List ℕ). y ++ z) (concat-push xs x) ∙ sym (append_assoc y (concat xs) x)

pub record Pushed (count : ℕ) (bytes : List ℕ) (entry : List ℕ) : Type 0 where
  pub stored : AreStored (count + 1) (bytes ++ entry)
  pub last : items_of (count + 1) (bytes ++ entry) ≡ items_of count bytes ++ entry ∷ []

pub push_stored : (count : ℕ) (bytes entry : List ℕ) → AreStored count bytes → IsStored entry → Pushed count bytes entry
push_stored count bytes entry a s =
    let xs : List (List ℕ) = items_of count bytes in
    let n : count + 1 ≡ length (xs ++ entry ∷ []) = omega (arith, length-append xs (entry ∷ []), length-items count bytes) in
    let e : bytes ++ entry ≡ concat (xs ++ entry ∷ []) = ap (λ (z : List ℕ). z ++ entry) a.items.whole ∙ sym (concat-push xs entry) in
    let r = are_items (count + 1) (bytes ++ entry) (xs ++ entry ∷ []) n e (all_with IsItemWithin xs entry a.items.each s.item) in
    record {
      stored = record { items = r.0; each = subst (AllByRecursion IsStored) (sym r.1) (all_with IsStored xs entry a.each s) };
      last = r.1;
    }

-- one entry alone
pub one_stored : (bytes entry : List ℕ) → bytes ≡ entry → IsStored entry → AreStored 1 bytes × (items_of 1 bytes ≡ entry ∷ [])
one_stored bytes entry e s =
    let p = push_stored 0 [] entry (none_stored [] refl) s in
    (subst (AreStored 1) (sym e) p.stored, ap (items_of 1) e ∙ p.last ∙ ap (λ (xs : List (List ℕ)). xs ++ entry ∷ []) (no_items []))

pub no_longer : (xs : List (List ℕ)) → AllByRecursion IsStored xs → length xs ≤ length (concat xs)
no_longer [] p = omega arith
no_longer (x ∷ xs) p =
    let h = no_longer xs p.1 in
    let l = ap length p.0.kept.is_stored in
    omega (arith, length-append x (concat xs))

-- there are no more entries than bytes
pub count_fits : (count : ℕ) (bytes : List ℕ) → AreStored count bytes → count ≤ length bytes
count_fits count bytes a = omega (arith, no_longer (items_of count bytes) a.each, length-items count bytes, ap length a.items.whole)

-- ---- two lists of entries

concat-append : (xs ys : List (List ℕ)) → concat (xs ++ ys) ≡ concat xs ++ concat ys
concat-append [] ys = refl
concat-append (x ∷ xs) ys = ap (λ (z : List ℕ). x ++ z) (concat-append xs ys) ∙ sym (append_assoc x (concat xs) (concat ys))

all_append : {X : Type 0} (P : X → Type 0) (xs ys : List X) → AllByRecursion P xs → AllByRecursion P ys → AllByRecursion P (xs ++ ys)
all_append P [] ys p q = q
all_append P (x ∷ xs) ys p q = (p.0, all_append P xs ys p.1 q)

pub record Joined (m n : ℕ) (a b : List ℕ) : Type 0 where
  pub stored : AreStored (m + n) (a ++ b)
  pub list : items_of (m + n) (a ++ b) ≡ items_of m a ++ items_of n b

pub join_stored : (m n : ℕ) (a b : List ℕ) → AreStored m a → AreStored n b → Joined m n a b
join_stored m n a b p q =
    let xs : List (List ℕ) = items_of m a in
    let ys : List (List ℕ) = items_of n b in
    let k : m + n ≡ length (xs ++ ys) = omega (arith, length-append xs ys, length-items m a, length-items n b) in
    let e : a ++ b ≡ concat (xs ++ ys) = ap (λ (z : List ℕ). z ++ b) p.items.whole ∙ ap (λ (z : List ℕ). concat xs ++ z) q.items.whole ∙ sym (concat-append xs ys) in
    let r = are_items (m + n) (a ++ b) (xs ++ ys) k e (all_append IsItemWithin xs ys p.items.each q.items.each) in
    record {
      stored = record { items = r.0; each = subst (AllByRecursion IsStored) (sym r.1) (all_append IsStored xs ys p.each q.each) };
      list = r.1;
    }
