-- The places of a message, from its elements.
use Rattle.std.proofs.Common.{ℕ, ◌≡◌, ◌+◌, ◌<◌, List, [], ◌∷◌, ◌++◌, length, ap, sym, subst, ◌⊎◌, inl, inr, Option, Some, None, arith}
use Rattle.std.specs.Option.{option_to_list}
use Rattle.msgpack_bytes.specs.Item.{longest, IsItemWithin}
use Rattle.msgpack_bytes.specs.Kinds.{IsText}
use Rattle.msgpack_bytes.specs.declared.format.Container.TheVariants as container
use Rattle.std.specs.List.{AllByRecursion, concat}
use Rattle.std.proofs.lemmas.List.{length-append}
use Rattle.event_modes.proofs.Collected.{some_header}
use Rattle.msgpack_bytes.specs.Containers.{IsArray}
use Rattle.event_modes.specs.Message.{Carrier, Single, Forward, Packed, Frame, IsLaidOut, IsFrame}
use Rattle.event_modes.specs.Places.{IsBulk, IsNoBulk, CanCarry}
use Rattle.event_modes.proofs.Begins.{array_one}
use Rattle.event_modes.proofs.Counted.{element_texts}

pub second_text : (a b : List ℕ) (rest : List (List ℕ)) (item : List ℕ) → IsItemWithin item → IsArray (a ∷ b ∷ rest) item → IsItemWithin b
second_text a b rest item t p = (element_texts (a ∷ b ∷ rest) item t p).1.0

-- where the second element carries no entries, two are no message
two_laid_out : (tag a b : List ℕ) (c : Carrier) (o : Option (List ℕ)) → IsNoBulk b → IsLaidOut tag c o (a ∷ b ∷ []) → ⊥
two_laid_out tag a b (Single time fields) o n l = let e = ap length l.0 in absurd (omega arith)
two_laid_out tag a b (Forward array) o n l = let e = l.0 in let f : b ≡ array = cc in n.0 l.1.0 (subst (IsArray l.1.0) (sym f) l.1.1)
two_laid_out tag a b (Packed content) o n l = let e = l.1 in let f : b ≡ l.0 = cc in n.1 content (subst (λ (z : List ℕ). IsText z content) (sym f) l.2)

pub no_two : (a b item : List ℕ) → IsNoBulk b → IsArray (a ∷ b ∷ []) item → (frame : Frame) → IsFrame item frame → ⊥
no_two a b item n p frame f =
    two_laid_out frame.tag a b frame.carrier frame.option n
    (subst (IsLaidOut frame.tag frame.carrier frame.option) (array_one f.elements (a ∷ b ∷ []) item f.array p) f.laid_out)

-- where it does, four are none
four_laid_out : (tag a b x y : List ℕ) (k c : Carrier) (o : Option (List ℕ)) → IsBulk b k → IsLaidOut tag c o (a ∷ b ∷ x ∷ y ∷ []) → ⊥
four_laid_out tag a b x y (Single time fields) (Single t f) o n l = absurd n
four_laid_out tag a b x y (Forward array) (Single t f) o n l = let e = l.0 in let g : b ≡ t = cc in l.1 n.1.0 (subst (IsArray n.1.0) g n.1.1)
four_laid_out tag a b x y (Packed content) (Single t f) o n l = let e = l.0 in let g : b ≡ t = cc in l.2 content (subst (λ (z : List ℕ). IsText z content) g n)
four_laid_out tag a b x y k (Forward array) o n l = let e = ap length l.0 in absurd (too_many o (omega arith))
  where
    too_many : (o : Option (List ℕ)) → length (option_to_list o) ≡ 2 → ⊥
    too_many None e = absurd (omega arith)
    too_many (Some z) e = absurd (omega arith)
four_laid_out tag a b x y k (Packed content) o n l = let e = ap length l.1 in absurd (too_many o (omega arith))
  where
    too_many : (o : Option (List ℕ)) → length (option_to_list o) ≡ 2 → ⊥
    too_many None e = absurd (omega arith)
    too_many (Some z) e = absurd (omega arith)

pub no_four : (a b x y item : List ℕ) (k : Carrier) → IsBulk b k → IsArray (a ∷ b ∷ x ∷ y ∷ []) item → (frame : Frame) → IsFrame item frame → ⊥
no_four a b x y item k n p frame f =
    four_laid_out frame.tag a b x y k frame.carrier frame.option n
    (subst (IsLaidOut frame.tag frame.carrier frame.option) (array_one f.elements (a ∷ b ∷ x ∷ y ∷ []) item f.array p) f.laid_out)

-- and so are fewer than two and more than four
none_laid_out : (tag : List ℕ) (c : Carrier) (o : Option (List ℕ)) (es : List (List ℕ)) → (length es < 2) ⊎ (4 < length es) → IsLaidOut tag c o es → ⊥
none_laid_out tag (Single time fields) None es n l = let e = ap length l.0 in elim n [ inl h ↦ absurd (omega arith) | inr h ↦ absurd (omega arith) ]
none_laid_out tag (Single time fields) (Some z) es n l = let e = ap length l.0 in elim n [ inl h ↦ absurd (omega arith) | inr h ↦ absurd (omega arith) ]
none_laid_out tag (Forward array) None es n l = let e = ap length l.0 in elim n [ inl h ↦ absurd (omega arith) | inr h ↦ absurd (omega arith) ]
none_laid_out tag (Forward array) (Some z) es n l = let e = ap length l.0 in elim n [ inl h ↦ absurd (omega arith) | inr h ↦ absurd (omega arith) ]
none_laid_out tag (Packed content) None es n l = let e = ap length l.1 in elim n [ inl h ↦ absurd (omega arith) | inr h ↦ absurd (omega arith) ]
none_laid_out tag (Packed content) (Some z) es n l = let e = ap length l.1 in elim n [ inl h ↦ absurd (omega arith) | inr h ↦ absurd (omega arith) ]

pub no_count : (item : List ℕ) → ((items : List (List ℕ)) → IsArray items item → (length items < 2) ⊎ (4 < length items)) → (frame : Frame) → IsFrame item frame → ⊥
no_count item n frame f = none_laid_out frame.tag frame.carrier frame.option f.elements (n f.elements f.array) f.laid_out

-- ---- what stands in the places of an item

pub record Whole (frame : Frame) : Type 0 where
  pub tag : IsItemWithin frame.tag
  pub carried : CanCarry frame.carrier
  pub option : AllByRecursion IsItemWithin (option_to_list frame.option)

whole_laid_out : (bytes tag : List ℕ) (c : Carrier) (o : Option (List ℕ)) (es : List (List ℕ)) → IsItemWithin bytes → IsArray es bytes → IsLaidOut tag c o es → IsItemWithin tag × CanCarry c × AllByRecursion IsItemWithin (option_to_list o)
whole_laid_out bytes tag (Single time fields) o es t a l =
    let b = subst (λ (xs : List (List ℕ)). IsArray xs bytes) l.0 a in
    let p = element_texts (tag ∷ time ∷ fields ∷ option_to_list o) bytes t b in
    let h = some_header container.Array (length (tag ∷ time ∷ fields ∷ option_to_list o)) b.header b.counted in
    let w = ap length b.whole in
    let rest : List ℕ = concat (option_to_list o) in
    let n : length time + length fields < longest = omega (arith, t.short, length-append b.header (tag ++ (time ++ (fields ++ rest))), length-append tag (time ++ (fields ++ rest)), length-append time (fields ++ rest), length-append fields rest) in
    (p.0, (b.each.1.0, b.each.1.1.0, n), p.1.1.1)
whole_laid_out bytes tag (Forward array) o es t a l =
    let p = element_texts (tag ∷ array ∷ option_to_list o) bytes t (subst (λ (xs : List (List ℕ)). IsArray xs bytes) l.0 a) in
    (p.0, (p.1.0, l.1), p.1.1)
whole_laid_out bytes tag (Packed content) o es t a l =
    let p = element_texts (tag ∷ l.0 ∷ option_to_list o) bytes t (subst (λ (xs : List (List ℕ)). IsArray xs bytes) l.1 a) in
    (p.0, tt, p.1.1)

pub whole_frame : (bytes : List ℕ) (frame : Frame) → IsItemWithin bytes → IsFrame bytes frame → Whole frame
whole_frame bytes frame t f =
    let w = whole_laid_out bytes frame.tag frame.carrier frame.option f.elements t f.array f.laid_out in
    record { tag = w.0; carried = w.1; option = w.2 }
