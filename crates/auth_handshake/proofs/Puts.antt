-- Parts of a message appended one after another.
use Rattle.std.proofs.Common.{ℕ, zero, suc, ◌≡◌, ◌+◌, ◌<◌, ◌≤◌, List, [], ◌∷◌, ◌++◌, length, take, get_or, refl, ap, sym, ◌∙◌, arith, Result, Ok, Err, OnOk, OnErr, is_err, false}
use Rattle.std.specs.List.{flat_map}
use Rattle.std.proofs.lemmas.List.{append-nil, length-append, take_at, take_more, flat_map_more}
use Rattle.auth_handshake.specs.declared.write.Field.{Field}
use Rattle.auth_handshake.specs.Fields.{field_bytes}

-- behind the old bytes stand the first n parts
pub record Puts (old now : List ℕ) (capacity room : ℕ) (fields : List Field) (n : ℕ) : Type 0 where
  pub items : now ≡ old ++ flat_map field_bytes (take n fields)
  pub kept : capacity ≤ room

pub puts_starts : (old now : List ℕ) (capacity room : ℕ) (fields : List Field) → now ≡ old → capacity ≤ room → Puts old now capacity room fields 0
puts_starts old now capacity room fields e h = record { items = e ∙ sym (append-nil old); kept = h }

pub puts_on : (old now next : List ℕ) (capacity room wide : ℕ) (fields : List Field) (n : ℕ) (d : Field) → Puts old now capacity room fields n
    → n < length fields → next ≡ now ++ field_bytes (get_or fields n d) → room ≤ wide → Puts old next capacity wide fields (n + 1)
puts_on old now next capacity room wide fields n d p h e r = record {
  items = e ∙ ap (λ (xs : List ℕ). xs ++ field_bytes (get_or fields n d)) p.items
      ∙ flat_map_more field_bytes old (take n fields) (get_or fields n d) ∙ ap (λ (fs : List Field). old ++ flat_map field_bytes fs) (sym (take_more fields n d h));
  kept = (let k = p.kept in omega arith);
}

pub puts_back : (old now next : List ℕ) (capacity room : ℕ) (fields : List Field) (n start : ℕ) → Puts old now capacity room fields n → next ≡ now → start ≡ length old → take start next ≡ old
puts_back old now next capacity room fields n start p e l = ap (λ (xs : List ℕ). take start xs) (e ∙ p.items) ∙ take_at old _ start (sym l)

-- the parts put and the next are no more than all
parts_within : (fields : List Field) (n : ℕ) (d : Field) → n < length fields → length (flat_map field_bytes (take n fields)) + length (field_bytes (get_or fields n d)) ≤ length (flat_map field_bytes fields)
parts_within [] n d h = absurd (omega arith)
parts_within (f ∷ fields) zero d h = omega (arith, length-append (field_bytes f) (flat_map field_bytes fields))
parts_within (f ∷ fields) (suc n) d h =
    let k = parts_within fields n d (omega arith) in
    omega (arith, length-append (field_bytes f) (flat_map field_bytes fields), length-append (field_bytes f) (flat_map field_bytes (take n fields)))

pub puts_full : (old now : List ℕ) (capacity room before len : ℕ) (fields : List Field) (n : ℕ) (d : Field) → Puts old now capacity room fields n → n < length fields
    → before ≡ length old → len ≡ length now → room < len + length (field_bytes (get_or fields n d)) → capacity < before + length (flat_map field_bytes fields)
puts_full old now capacity room before len fields n d p h e f full =
    let k = p.kept in
    let l = ap length p.items in
    omega (arith, length-append old (flat_map field_bytes (take n fields)), parts_within fields n d h)

pub on_err : {P Q : Type 0} {X E : Type 0} (r : Result X E) → (P → Q) → OnErr r P → OnErr r Q
on_err (Ok x) f p = tt
on_err (Err e) f p = f p

pub if_ok : {P X E : Type 0} (r : Result X E) → is_err r ≡ false → OnOk r P → P
if_ok (Ok x) e p = p
if_ok (Err x) e p = absurd cc
