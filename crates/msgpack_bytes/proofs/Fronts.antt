-- How the front of the bytes goes on as more bytes come.
use Rattle.std.proofs.Common.{ℕ, zero, suc, ◌≡◌, ◌+◌, ◌-◌, ◌*◌, ◌^◌, ◌<◌, ◌≤◌, true, false, List, [], ◌∷◌, ◌++◌, length, drop, replicate, nat_lt, cond, refl, ap, ◌∙◌, arith, length-append, length-drop, inl, inr}
use Rattle.std.proofs.lemmas.List.{length-replicate, drop-append-le, drop-replicate, drop_all}
use Rattle.std.proofs.Math.Seq.{drop-append-add}
use Rattle.msgpack_bytes.specs.declared.format.Container.{Container}
use Rattle.msgpack_bytes.specs.declared.format.Container.TheVariants.{Array, Map}
use Rattle.msgpack_bytes.specs.declared.format.Shape.{Shape}
use Rattle.msgpack_bytes.specs.declared.format.Shape.TheVariants.{Fixed, Sized, Holds, Counted, Never}
use Rattle.msgpack_bytes.specs.Format.{items_in}
use Rattle.msgpack_bytes.specs.Run.{Front, Whole, Opens, Lacks, Wrong, behind_first, content, counted, number}
use Rattle.msgpack_bytes.proofs.Slices.{less, not_less, less_false, cond_case}

-- a number doesn't fall as more of its bytes come, and stands once all are there
pub number_rises : (w : ℕ) (bytes more : List ℕ) → number w bytes ≤ number w (bytes ++ more)
number_rises zero bytes more = omega arith
number_rises (suc w) [] more = omega arith
number_rises (suc w) (byte ∷ bytes) more = let h = number_rises w bytes more in omega arith

pub number_stands : (w : ℕ) (bytes more : List ℕ) → w ≤ length bytes → number w (bytes ++ more) ≡ number w bytes
number_stands zero bytes more h = refl
number_stands (suc w) [] more h = absurd (omega arith)
number_stands (suc w) (byte ∷ bytes) more h = ap (λ (n : ℕ). byte * 256 ^ w + n) (number_stands w bytes more (omega arith))

number_none : (w n : ℕ) → number w (replicate n 0) ≡ 0
number_none zero n = refl
number_none (suc w) zero = refl
number_none (suc w) (suc n) = rw (number_none w n) (omega arith)

pub number_zeros : (w n : ℕ) (bytes : List ℕ) → number w (bytes ++ replicate n 0) ≡ number w bytes
number_zeros zero n bytes = refl
number_zeros (suc w) n [] = number_none (suc w) n
number_zeros (suc w) n (byte ∷ bytes) = ap (λ (m : ℕ). byte * 256 ^ w + m) (number_zeros w n bytes)

items_rise : (container : Container) (m n : ℕ) → m ≤ n → items_in container m ≤ items_in container n
items_rise Array m n h = h
items_rise Map m n h = omega arith

-- what a content and a count are, by what they give
pub content_whole : (n : ℕ) (bytes rest : List ℕ) → content n bytes ≡ Whole rest → (n ≤ length bytes) × (rest ≡ drop n bytes)
content_whole n bytes rest e =
    elim (cond_case (nat_lt (length bytes) n) _ _ _ e) [ inl h ↦ absurd (let q = h.1 in (cc)) | inr h ↦ (not_less _ _ h.0, let q = h.1 in (cc)) ]

pub content_lacks : (n k : ℕ) (bytes : List ℕ) → content n bytes ≡ Lacks k → length bytes + k ≡ n
content_lacks n k bytes e =
    elim (cond_case (nat_lt (length bytes) n) _ _ _ e) [
      | inl h ↦ (let l = less _ _ h.0 in let q : n - length bytes ≡ k = (let z = h.1 in cc) in omega arith)
      | inr h ↦ absurd (let q = h.1 in (cc))
    ]

pub content_never_opens : (n k : ℕ) (bytes rest : List ℕ) → content n bytes ≡ Opens k rest → ⊥
content_never_opens n k bytes rest e =
    elim (cond_case (nat_lt (length bytes) n) _ _ _ e) [ inl h ↦ (let q = h.1 in (cc)) | inr h ↦ (let q = h.1 in (cc)) ]

content_never_wrong : (n : ℕ) (bytes : List ℕ) → content n bytes ≡ Wrong → ⊥
content_never_wrong n bytes e =
    elim (cond_case (nat_lt (length bytes) n) _ _ _ e) [ inl h ↦ (let q = h.1 in (cc)) | inr h ↦ (let q = h.1 in (cc)) ]

pub content_there : (n : ℕ) (bytes : List ℕ) → n ≤ length bytes → content n bytes ≡ Whole (drop n bytes)
content_there n bytes h = rw (less_false (length bytes) n h) refl

pub counted_opens : (w m n : ℕ) (bytes rest : List ℕ) → counted w m bytes ≡ Opens n rest → (w ≤ length bytes) × (n ≡ m) × (rest ≡ drop w bytes)
counted_opens w m n bytes rest e =
    elim (cond_case (nat_lt (length bytes) w) _ _ _ e) [ inl h ↦ absurd (let q = h.1 in (cc)) | inr h ↦ (not_less _ _ h.0, let q = h.1 in (cc), let q = h.1 in (cc)) ]

counted_lacks : (w m k : ℕ) (bytes : List ℕ) → counted w m bytes ≡ Lacks k → (length bytes < w) × (k ≡ w - length bytes + m)
counted_lacks w m k bytes e =
    elim (cond_case (nat_lt (length bytes) w) _ _ _ e) [ inl h ↦ (less _ _ h.0, let q = h.1 in (cc)) | inr h ↦ absurd (let q = h.1 in (cc)) ]

pub counted_never_whole : (w m : ℕ) (bytes rest : List ℕ) → counted w m bytes ≡ Whole rest → ⊥
counted_never_whole w m bytes rest e =
    elim (cond_case (nat_lt (length bytes) w) _ _ _ e) [ inl h ↦ (let q = h.1 in (cc)) | inr h ↦ (let q = h.1 in (cc)) ]

counted_never_wrong : (w m : ℕ) (bytes : List ℕ) → counted w m bytes ≡ Wrong → ⊥
counted_never_wrong w m bytes e =
    elim (cond_case (nat_lt (length bytes) w) _ _ _ e) [ inl h ↦ (let q = h.1 in (cc)) | inr h ↦ (let q = h.1 in (cc)) ]

pub counted_there : (w m : ℕ) (bytes : List ℕ) → w ≤ length bytes → counted w m bytes ≡ Opens m (drop w bytes)
counted_there w m bytes h = rw (less_false (length bytes) w h) refl

-- what is whole or wrong stays so
pub whole_stays : (s : Shape) (bytes more rest : List ℕ) → behind_first s bytes ≡ Whole rest → behind_first s (bytes ++ more) ≡ Whole (rest ++ more)
whole_stays (Fixed kind n) bytes more rest e =
    let h = content_whole n bytes rest e in
    let l = length-append bytes more in
    content_there n (bytes ++ more) (omega arith) ∙ ap Whole (rw h.1 (drop-append-le n bytes more h.0))
whole_stays (Sized kind w extra) bytes more rest e =
    let n : ℕ = w + number w bytes + extra in
    let h = content_whole n bytes rest e in
    let l = length-append bytes more in
    rw (number_stands w bytes more (omega arith)) (content_there n (bytes ++ more) (omega arith) ∙ ap Whole (rw h.1 (drop-append-le n bytes more h.0)))
whole_stays (Holds container n) bytes more rest e = cc
whole_stays (Counted container w) bytes more rest e = absurd (counted_never_whole w (items_in container (number w bytes)) bytes rest e)
whole_stays Never bytes more rest e = cc

pub opens_stays : (s : Shape) (n : ℕ) (bytes more rest : List ℕ) → behind_first s bytes ≡ Opens n rest → behind_first s (bytes ++ more) ≡ Opens n (rest ++ more)
opens_stays (Fixed kind m) n bytes more rest e = absurd (content_never_opens m n bytes rest e)
opens_stays (Sized kind w extra) n bytes more rest e = absurd (content_never_opens (w + number w bytes + extra) n bytes rest e)
opens_stays (Holds container m) n bytes more rest e = cc
opens_stays (Counted container w) n bytes more rest e =
    let m : ℕ = items_in container (number w bytes) in
    let h = counted_opens w m n bytes rest e in
    let l = length-append bytes more in
    rw (number_stands w bytes more h.0) (counted_there w m (bytes ++ more) (omega arith) ∙ rw (h.1, h.2, drop-append-le w bytes more h.0) refl)
opens_stays Never n bytes more rest e = cc

pub wrong_stays : (s : Shape) (bytes more : List ℕ) → behind_first s bytes ≡ Wrong → behind_first s (bytes ++ more) ≡ Wrong
wrong_stays (Fixed kind n) bytes more e = absurd (content_never_wrong n bytes e)
wrong_stays (Sized kind w extra) bytes more e = absurd (content_never_wrong (w + number w bytes + extra) bytes e)
wrong_stays (Holds container n) bytes more e = cc
wrong_stays (Counted container w) bytes more e = absurd (counted_never_wrong w (items_in container (number w bytes)) bytes e)
wrong_stays Never bytes more e = refl

pub wrong_never : (s : Shape) (bytes : List ℕ) → behind_first s bytes ≡ Wrong → s ≡ Never
wrong_never (Fixed kind n) bytes e = absurd (content_never_wrong n bytes e)
wrong_never (Sized kind w extra) bytes e = absurd (content_never_wrong (w + number w bytes + extra) bytes e)
wrong_never (Holds container n) bytes e = cc
wrong_never (Counted container w) bytes e = absurd (counted_never_wrong w (items_in container (number w bytes)) bytes e)
wrong_never Never bytes e = refl

-- what can follow a front that lacked k bytes, once `came` more came
abbrev pub Follows : ℕ → ℕ → Front → Type 0
Follows k came (Whole rest) = k + length rest ≤ came
Follows k came (Opens n rest) = k + length rest ≤ came + n
Follows k came (Lacks n) = Unit {0}
Follows k came Wrong = ⊥

-- what follows it, once so many zeros came
abbrev pub Fills : Front → Type 0
Fills (Whole rest) = rest ≡ []
Fills (Opens n rest) = rest ≡ replicate n 0
Fills (Lacks n) = ⊥
Fills Wrong = ⊥

content_follows : (n m k : ℕ) (bytes more : List ℕ) → length bytes + k ≤ m → Follows k (length more) (content m (bytes ++ more))
content_follows n m k bytes more h =
    let l = length-append bytes more in
    let d = length-drop m (bytes ++ more) in
    elim (nat_lt (length (bytes ++ more)) m) as (λ b. nat_lt (length (bytes ++ more)) m ≡ b → Follows k (length more) (cond b (Lacks (m - length (bytes ++ more))) (Whole (drop m (bytes ++ more)))))
    [ true ↦ λ e. tt | false ↦ λ e. (let o = not_less _ _ e in omega arith) ] refl

counted_follows : (w a b k : ℕ) (bytes more : List ℕ) → a ≤ b → length bytes + k ≤ w + a → Follows k (length more) (counted w b (bytes ++ more))
counted_follows w a b k bytes more le h =
    let l = length-append bytes more in
    let d = length-drop w (bytes ++ more) in
    elim (nat_lt (length (bytes ++ more)) w) as (λ t. nat_lt (length (bytes ++ more)) w ≡ t → Follows k (length more) (cond t (Lacks (w - length (bytes ++ more) + b)) (Opens b (drop w (bytes ++ more)))))
    [ true ↦ λ e. tt | false ↦ λ e. (let o = not_less _ _ e in omega arith) ] refl

pub lacks_follows : (s : Shape) (k : ℕ) (bytes more : List ℕ) → behind_first s bytes ≡ Lacks k → Follows k (length more) (behind_first s (bytes ++ more))
lacks_follows (Fixed kind n) k bytes more e = let h = content_lacks n k bytes e in content_follows n n k bytes more (omega arith)
lacks_follows (Sized kind w extra) k bytes more e =
    let h = content_lacks (w + number w bytes + extra) k bytes e in
    let g = number_rises w bytes more in
    content_follows extra (w + number w (bytes ++ more) + extra) k bytes more (omega arith)
lacks_follows (Holds container n) k bytes more e = absurd (cc)
lacks_follows (Counted container w) k bytes more e =
    let h = counted_lacks w (items_in container (number w bytes)) k bytes e in
    counted_follows w (items_in container (number w bytes)) (items_in container (number w (bytes ++ more))) k bytes more
    (items_rise container (number w bytes) (number w (bytes ++ more)) (number_rises w bytes more)) (omega arith)
lacks_follows Never k bytes more e = absurd (cc)

drop_past : (w a : ℕ) (xs ys : List ℕ) → w ≡ length xs + a → drop w (xs ++ ys) ≡ drop a ys
drop_past w a xs ys e = rw e (drop-append-add xs ys a)

pub lacks_fills : (s : Shape) (k : ℕ) (bytes : List ℕ) → behind_first s bytes ≡ Lacks k → Fills (behind_first s (bytes ++ replicate k 0))
lacks_fills (Fixed kind n) k bytes e =
    let h = content_lacks n k bytes e in
    let l = length-append bytes (replicate k 0) in
    let z = length-replicate {A = ℕ} k 0 in
    rw (content_there n (bytes ++ replicate k 0) (omega arith)) (drop_all n (bytes ++ replicate k 0) (omega arith))
lacks_fills (Sized kind w extra) k bytes e =
    let n : ℕ = w + number w bytes + extra in
    let h = content_lacks n k bytes e in
    let l = length-append bytes (replicate k 0) in
    let z = length-replicate {A = ℕ} k 0 in
    rw (number_zeros w k bytes, content_there n (bytes ++ replicate k 0) (omega arith)) (drop_all n (bytes ++ replicate k 0) (omega arith))
lacks_fills (Holds container n) k bytes e = absurd (cc)
lacks_fills (Counted container w) k bytes e =
    let m : ℕ = items_in container (number w bytes) in
    let h = counted_lacks w m k bytes e in
    let a : ℕ = w - length bytes in
    let l = length-append bytes (replicate k 0) in
    let z = length-replicate {A = ℕ} k 0 in
    rw (number_zeros w k bytes, counted_there w m (bytes ++ replicate k 0) (omega arith), drop_past w a bytes (replicate k 0) (omega arith), drop-replicate {X = ℕ} a k 0)
    (ap (λ (x : ℕ). replicate x 0) (omega arith))
lacks_fills Never k bytes e = absurd (cc)

-- nothing is left that wasn't there
pub whole_left : (s : Shape) (bytes rest : List ℕ) → behind_first s bytes ≡ Whole rest → length rest ≤ length bytes
whole_left (Fixed kind n) bytes rest e = let h = content_whole n bytes rest e in let d = length-drop n bytes in let q = ap length h.1 in omega arith
whole_left (Sized kind w extra) bytes rest e =
    let n : ℕ = w + number w bytes + extra in
    let h = content_whole n bytes rest e in let d = length-drop n bytes in let q = ap length h.1 in omega arith
whole_left (Holds container n) bytes rest e = absurd (cc)
whole_left (Counted container w) bytes rest e = absurd (counted_never_whole w (items_in container (number w bytes)) bytes rest e)
whole_left Never bytes rest e = absurd (cc)

pub opens_left : (s : Shape) (n : ℕ) (bytes rest : List ℕ) → behind_first s bytes ≡ Opens n rest → length rest ≤ length bytes
opens_left (Fixed kind m) n bytes rest e = absurd (content_never_opens m n bytes rest e)
opens_left (Sized kind w extra) n bytes rest e = absurd (content_never_opens (w + number w bytes + extra) n bytes rest e)
opens_left (Holds container m) n bytes rest e = let q : bytes ≡ rest = cc in let l = ap length q in omega arith
opens_left (Counted container w) n bytes rest e =
    let h = counted_opens w (items_in container (number w bytes)) n bytes rest e in let d = length-drop w bytes in let q = ap length h.2 in omega arith
opens_left Never n bytes rest e = absurd (cc)
