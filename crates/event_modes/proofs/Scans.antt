-- What a scan says of bytes that begin with an item.
use Rattle.std.proofs.Common.{ℕ, ◌≡◌, ◌⊎◌, List, [], ◌∷◌, ◌++◌, length, refl, ap, sym, subst, ◌∙◌, arith, append_assoc, inl, inr}
use Rattle.std.proofs.lemmas.List.{append-nil, length-append}
use Rattle.msgpack_bytes.specs.declared.answers.MsgFault.{MsgFault}
use Rattle.msgpack_bytes.specs.declared.answers.Scan.{Scan}
use Rattle.msgpack_bytes.specs.declared.answers.Scan.TheVariants as scan
use Rattle.msgpack_bytes.specs.Item.{IsItemWithin, IsOpen}
use Rattle.msgpack_bytes.specs.Fault.{IsFaulty}
use Rattle.msgpack_bytes.specs.Answers.{Begins, IsScanned}
use Rattle.event_modes.proofs.Parting.{same_behind, text_item}

-- of two fronts of one list one begins the other
parts : (a b x y : List ℕ) → a ++ x ≡ b ++ y → ((byte : ℕ) × (more : List ℕ) × (b ≡ a ++ byte ∷ more)) ⊎ ((more : List ℕ) × (a ≡ b ++ more))
parts [] [] x y e = inr ([], refl)
parts [] (d ∷ b) x y e = inl (d, b, refl)
parts (c ∷ a) [] x y e = inr (c ∷ a, refl)
parts (c ∷ a) (d ∷ b) x y e =
    let f : c ≡ d = cc in
    let t : a ++ x ≡ b ++ y = cc in
    elim (parts a b x y t) [ inl p ↦ inl (p.0, p.1, (let q = p.2 in cc)) | inr p ↦ inr (p.0, (let q = p.1 in cc)) ]

-- bytes that begin with an item are not open
pub not_open : (bytes : List ℕ) → Begins IsItemWithin bytes → IsOpen bytes → ⊥
not_open bytes b o =
    let m : b.front ++ (b.back ++ o.more) ≡ (bytes ++ o.more) ++ [] = sym (append_assoc b.front b.back o.more) ∙ ap (λ (z : List ℕ). z ++ o.more) (sym b.whole) ∙ sym (append-nil (bytes ++ o.more)) in
    let l = ap length (same_behind b.front (bytes ++ o.more) (b.back ++ o.more) [] (text_item b.front b.is) (text_item (bytes ++ o.more) o.ends) m) in
    absurd (omega (arith, o.some, length-append b.back o.more))

-- and there is no fault in them
pub not_faulty : (fault : MsgFault) (bytes : List ℕ) → Begins IsItemWithin bytes → IsFaulty fault bytes → ⊥
not_faulty fault bytes b f =
    elim (parts b.front f.shortest b.back f.rest (sym b.whole ∙ f.whole)) [
      | inl p ↦ (f.before b.front p.1 p.0 p.2).unended b.is
      | inr p ↦ f.closed p.0 (subst IsItemWithin p.1 b.is)
    ]

pub always_ends : (bytes : List ℕ) (r : Scan) → Begins IsItemWithin bytes → IsScanned bytes 0 r → ((end : ℕ) → r ≡ scan.End end → ⊥) → ⊥
always_ends bytes (scan.End end) b s none = none end refl
always_ends bytes scan.Need b s none = not_open bytes b s
always_ends bytes (scan.Bad fault) b s none = not_faulty fault bytes b s
