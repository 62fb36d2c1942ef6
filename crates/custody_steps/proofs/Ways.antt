-- Leaves of a message, as its way shows them.
use Rattle.std.proofs.Common.{◌≡◌, ◌≢◌, ℕ, zero, suc, ◌<◌, ◌==◌, Bool, true, false, List, [], ◌∷◌, length, get_or, refl, arith, sym, Contains, IsTrue, ◌↔◌, MatchBool}
use Rattle.std.specs.List.{IsAnyAnswer, AllWithin, HoldsAt}
use Rattle.std.proofs.lemmas.Bool.{eqb-true, eq-eqb}
use Rattle.std.specs.declared.vec.Vec.{Vec}
use Rattle.custody_store.proofs.Members.{contains_shown, shown_contains}
use Rattle.relay_conf.specs.declared.output.BufferNo.{BufferNo}
use Rattle.relay_net.specs.Network.{Network}
use Rattle.relay_net.specs.Ways.{HasLeaf, HasLoop, table_at}
use Rattle.relay_net.specs.declared.address.Entrance.{Entrance}
use Rattle.route_graph.specs.Listing.{numbers_of}
use Rattle.route_graph.specs.Ways.{IsLeaf, IsLoop}
use Rattle.step_lines.specs.Texts.{texts_of}
use Rattle.custody_steps.proofs.Keeping.{never}

-- a message with texts has entries, and one without has none
pub some_texts : {A : Type 0} (texts : List (Vec ℕ A)) (entries : List (List ℕ)) → texts_of texts ≡ entries → (length texts == 0) ≡ false → entries ≢ []
some_texts [] entries e h none = absurd (cc)
some_texts (t ∷ texts) entries e h none = cc

no_texts : {A : Type 0} (texts : List (Vec ℕ A)) (entries : List (List ℕ)) → texts_of texts ≡ entries → (length texts == 0) ≡ true → entries ≡ []
no_texts [] entries e h = sym e
no_texts (t ∷ texts) entries e h = let none : length (t ∷ texts) ≡ 0 = eqb-true (length (t ∷ texts)) 0 h in absurd (omega arith)

-- Of a message with these texts.
module _ {A B : Type 0} (net : Network B) (at : Entrance) (tag : List ℕ) (texts : List (Vec ℕ A)) (entries : List (List ℕ)) (are : texts_of texts ≡ entries) where
  -- where there are none
  module _ (none : (length texts == 0) ≡ true) where
    pub empty_is_no_loop : IsTrue false ↔ HasLoop net at tag entries
    empty_is_no_loop = never _ (λ h. h.0 (no_texts texts entries are none))

    pub empty_has_no_leaf : (buffer : ℕ) → IsTrue false ↔ HasLeaf net at tag entries buffer
    empty_has_no_leaf buffer = never _ (λ h. h.0 (no_texts texts entries are none))

    pub empty_is_whole : (appended : List ℕ) → IsTrue true ↔ ((buffer : ℕ) → HasLeaf net at tag entries buffer → Contains appended buffer)
    empty_is_whole appended = (λ _ buffer leaf. absurd (leaf.0 (no_texts texts entries are none)), λ _. refl)

  -- where there are some
  pub loop_is : (length texts == 0) ≡ false → IsLoop (table_at net at.relay) tag at.scope → HasLoop net at tag entries
  loop_is some loop = (some_texts texts entries are some, loop)

  pub loop_too : (length texts == 0) ≡ false → IsLoop (table_at net at.relay) tag at.scope → IsTrue true ↔ HasLoop net at tag entries
  loop_too some loop = (λ _. loop_is some loop, λ _. refl)

  pub no_loop_too : ¬ IsLoop (table_at net at.relay) tag at.scope → IsTrue false ↔ HasLoop net at tag entries
  no_loop_too not = never _ (λ h. not h.1)

same_default : (xs : List BufferNo) (k : ℕ) (d : BufferNo) → k < length xs → get_or xs k d ≡ get_or xs k (get_or xs k d)
same_default [] k d less = absurd (omega arith)
same_default (x ∷ xs) zero d less = refl
same_default (x ∷ xs) (suc k) d less = same_default xs k d (omega arith)

-- a search for the number of a buffer
pub found_number : (leaves : List BufferNo) (buffer : ℕ) (r : Bool) → IsAnyAnswer (λ y b. (y.0 == buffer) ≡ b) leaves r → IsTrue r ↔ Contains (numbers_of leaves) buffer
found_number leaves buffer true h = (
  λ _. contains_shown (λ (n : BufferNo). n.0) leaves h.0 (get_or leaves h.0 (record { 0 = buffer })) buffer h.1 (same_default leaves h.0 (record { 0 = buffer }) h.1) (eqb-true _ buffer (h.2 (record { 0 = buffer }))),
  λ _. refl,
)
found_number leaves buffer false h = (
  λ e. absurd (cc),
  λ c. let s = shown_contains (λ (n : BufferNo). n.0) leaves buffer c in
      let no_match = h s.0 s.1 (omega arith) s.2 in
      let is_match = eq-eqb s.1.0 buffer s.4 in absurd (cc),
)

-- whether each of the buffers was appended to
pub found_all : (leaves : List BufferNo) (appended : List ℕ) (r : Bool) → MatchBool r (AllWithin (λ leaf. Contains appended leaf.0) leaves 0 (length leaves)) ((k : ℕ) × (k < length leaves) × HoldsAt (λ leaf. ¬ Contains appended leaf.0) leaves k)
    → IsTrue r ↔ ((buffer : ℕ) → Contains (numbers_of leaves) buffer → Contains appended buffer)
found_all leaves appended true h = (
  λ _ buffer c. let s = shown_contains (λ (n : BufferNo). n.0) leaves buffer c in
      let there = h s.0 s.1 (omega arith) s.2 in rw (s.3, s.4) at there,
  λ _. refl,
)
found_all leaves appended false h = (
  λ e. absurd (cc),
  λ all. let d : BufferNo = record { 0 = 0 } in
      absurd (h.2 d (all (get_or leaves h.0 d).0 (contains_shown (λ (n : BufferNo). n.0) leaves h.0 (get_or leaves h.0 d) (get_or leaves h.0 d).0 h.1 (same_default leaves h.0 d h.1) refl))),
)

-- Of a message that has entries.
module _ {A : Type 0} (net : Network A) (at : Entrance) (tag : List ℕ) (entries : List (List ℕ)) (some : entries ≢ []) (leaves : List BufferNo)
    (are : (buffer : ℕ) → Contains (numbers_of leaves) buffer ↔ IsLeaf (table_at net at.relay) tag at.scope buffer) where
  pub leaf_is : (buffer : ℕ) (r : Bool) → IsTrue r ↔ Contains (numbers_of leaves) buffer → IsTrue r ↔ HasLeaf net at tag entries buffer
  leaf_is buffer r h = (λ e. (some, (are buffer).0 (h.0 e)), λ leaf. h.1 ((are buffer).1 leaf.1))

  pub whole_is : (appended : List ℕ) (r : Bool) → IsTrue r ↔ ((buffer : ℕ) → Contains (numbers_of leaves) buffer → Contains appended buffer)
      → IsTrue r ↔ ((buffer : ℕ) → HasLeaf net at tag entries buffer → Contains appended buffer)
  whole_is appended r h = (λ e buffer leaf. h.0 e buffer ((are buffer).1 leaf.1), λ all. h.1 (λ buffer c. all buffer (some, (are buffer).0 c)))
