-- The receipts that an open delivery holds are no more than the buffers that it goes to.
use Rattle.std.proofs.Common.{ℕ, ◌≡◌, ◌≢◌, ◌≤◌, ◌<◌, Bool, ◌&&◌, eqb, List, [], ◌∷◌, ◌++◌, length, get_or, Decides, refl, sym, subst, ap, ◌∙◌, arith, Contains}
use Rattle.std.specs.Prelude.{All, AllPairs}
use Rattle.std.specs.Cmp.{IsEquivalence}
use Rattle.std.proofs.Math.Bridge.{le_prop}
use Rattle.std.proofs.Math.Logic.{∥∥₁_elim}
use Rattle.std.proofs.lemmas.Bool.Decides.{Decides-and, Decides-eqb, same_from_decides}
use Rattle.std.proofs.lemmas.List.{length-map, map-append, get_or-map, get_or_default, length_push}
use Rattle.std.proofs.lemmas.List.Elements.{All-contains, All-get_or, All-nil, All-push}
use Rattle.std.proofs.lemmas.List.Quantifiers.{all_pairs_push}
use Rattle.std.proofs.lemmas.Map.Made.{IsDistinct-from_AllPairs, is_member-Decides, length-le_from_is_member}
use Rattle.book_audit.specs.declared.line.Leaf.{Leaf}
use Rattle.ack_receipt.specs.Deliveries.{Appended, IsReceived}
use Rattle.ack_receipt.specs.Holding.{IsHeld, leaves_of}

abbrev same_leaf : Leaf → Leaf → Bool
same_leaf a b = eqb a.relay b.relay && eqb a.buffer b.buffer

abbrev leaf_at : ℕ → ℕ → Leaf
leaf_at relay buffer = record { relay = relay; buffer = buffer }

tells : (a b : Leaf) → Decides (same_leaf a b) (a ≡ b)
tells a b =
    let d = Decides-and (eqb a.relay b.relay) (eqb a.buffer b.buffer) (Decides-eqb a.relay b.relay) (Decides-eqb a.buffer b.buffer) in (
      λ e. let both = d.0 e in ap (λ (r : ℕ). leaf_at r a.buffer) both.0 ∙ ap (λ (s : ℕ). leaf_at b.relay s) both.1,
      λ e. d.1 (ap (λ (l : Leaf). l.relay) e, ap (λ (l : Leaf). l.buffer) e),
    )

laws : IsEquivalence same_leaf
laws = record {
  refl = λ x. (tells x x).1 refl;
  symm = λ x y. same_from_decides (same_leaf x y) (same_leaf y x) (tells x y) (λ e. sym ((tells y x).0 e), λ e. (tells y x).1 (sym e));
  congr = λ x y z e. ap (λ (w : Leaf). same_leaf w z) ((tells x y).0 e);
}

-- buffers, no two the same, all of them among others, are no more than those
few : (leaves xs : List Leaf) → AllPairs (λ first second. first ≢ second) xs → All (Contains leaves) xs → length xs ≤ length leaves
few leaves xs apart there =
    length-le_from_is_member laws xs leaves (IsDistinct-from_AllPairs tells xs apart)
    (λ q e. (is_member-Decides tells leaves q).1 (All-contains (Contains leaves) xs q there ((is_member-Decides tells xs q).0 e)))

pub held-few : (number : ℕ) (leaves : List Leaf) (receipts : List Appended) → IsHeld number leaves receipts → length receipts ≤ length leaves
held-few number leaves receipts h = subst (λ n. n ≤ length leaves) (length-map receipts (λ (r : Appended). r.leaf)) (few leaves (leaves_of receipts) h.apart h.there)

pub none-held : (number : ℕ) (leaves : List Leaf) → IsHeld number leaves []
none-held number leaves = record {
  own = All-nil (λ (r : Appended). r.delivery ≡ number);
  there = All-nil (Contains leaves);
  apart = λ i j d less inside. absurd (omega arith);
}

leaf_of : (receipts : List Appended) (k : ℕ) (d : Leaf) (e : Appended) → k < length receipts → get_or (leaves_of receipts) k d ≡ (get_or receipts k e).leaf
leaf_of receipts k d e less = get_or-map (λ (r : Appended). r.leaf) receipts k e d less

-- one more, of another buffer
pub one-more : (number : ℕ) (leaves : List Leaf) (receipts : List Appended) (receipt : Appended) → IsHeld number leaves receipts → receipt.delivery ≡ number → Contains leaves receipt.leaf → ¬ IsReceived number receipts receipt.leaf → IsHeld number leaves (receipts ++ receipt ∷ [])
one-more number leaves receipts receipt h own there fresh = record {
  own = All-push (λ (r : Appended). r.delivery ≡ number) receipts receipt h.own own;
  there = subst (All (Contains leaves)) more (All-push (Contains leaves) (leaves_of receipts) receipt.leaf h.there there);
  apart = subst (AllPairs (λ (first : Leaf) (second : Leaf). first ≢ second)) more (all_pairs_push (λ (first : Leaf) (second : Leaf). first ≢ second) (leaves_of receipts) receipt.leaf h.apart other);
}
  where
    more : leaves_of receipts ++ receipt.leaf ∷ [] ≡ leaves_of (receipts ++ receipt ∷ [])
    more = sym (map-append (λ (r : Appended). r.leaf) receipts (receipt ∷ []))

    other : (k : ℕ) (d : Leaf) → k < length (leaves_of receipts) → get_or (leaves_of receipts) k d ≢ receipt.leaf
    other k d inside same =
        let less : k < length receipts = subst (λ n. k < n) (length-map receipts (λ (r : Appended). r.leaf)) inside in
        let found : Appended = get_or receipts k receipt in
        fresh (record { one = (k, found, less, get_or_default receipts k found receipt less, (All-get_or (λ (r : Appended). r.delivery ≡ number) receipts k receipt less h.own, sym (leaf_of receipts k d receipt less) ∙ same)) })

-- a receipt of another buffer that the delivery goes to has room
pub has-room : (number : ℕ) (leaves : List Leaf) (receipts : List Appended) (receipt : Appended) → ∥ IsHeld number leaves receipts ∥₁ → receipt.delivery ≡ number → Contains leaves receipt.leaf → ¬ IsReceived number receipts receipt.leaf → length receipts < length leaves
has-room number leaves receipts receipt held own there fresh =
    let bound : length (receipts ++ receipt ∷ []) ≤ length leaves = ∥∥₁_elim held le_prop (λ h. held-few number leaves (receipts ++ receipt ∷ []) (one-more number leaves receipts receipt h own there fresh)) in
    omega (arith, length_push receipts receipt)

-- the same of what is equal
pub received-same : {n m : ℕ} {xs ys : List Appended} {k l : Leaf} → n ≡ m → xs ≡ ys → k ≡ l → IsReceived n xs k → IsReceived m ys l
received-same {n} {m} {xs} {ys} {k} {l} e f g r = subst (λ (z : Leaf). IsReceived m ys z) g (subst (λ (zs : List Appended). IsReceived m zs k) f (subst (λ (i : ℕ). IsReceived i xs k) e r))
