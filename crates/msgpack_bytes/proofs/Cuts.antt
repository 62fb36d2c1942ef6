-- What a reader answers where the bytes begin with a header or an item.
use Rattle.std.proofs.Common.{ℕ, suc, ◌≡◌, ◌-◌, ◌<◌, ◌≤◌, List, [], ◌∷◌, ◌++◌, length, take, drop, refl, ap, sym, subst, ◌∙◌, arith, append_assoc, Option, Some, None, Bool, true, false, eqb, eq-eqb}
use Rattle.std.proofs.lemmas.Bool.{eqb-true}
use Rattle.std.specs.Prelude.{slice_range}
use Rattle.std.proofs.lemmas.List.{length-append, take_at, drop_at}
use Rattle.msgpack_bytes.specs.declared.answers.Head.{Head}
use Rattle.msgpack_bytes.specs.declared.answers.Head.TheVariants as head
use Rattle.msgpack_bytes.specs.declared.answers.Scan.TheVariants as scan
use Rattle.msgpack_bytes.specs.declared.format.Kind.{Kind}
use Rattle.msgpack_bytes.specs.declared.format.Container.{Container}
use Rattle.msgpack_bytes.specs.Item.{IsScalarHeader, IsContainerHeader, Spells, IsItemWithin}
use Rattle.msgpack_bytes.specs.Kinds.{IsBool, IsArrayHeader, IsMapHeader}
use Rattle.msgpack_bytes.specs.Answers.{IsScanned, IsHead}

-- ---- cuts

pub front_cut : (p q : List ℕ) → slice_range (p ++ q) 0 (length p) ≡ p
front_cut p q = take_at p q (length p - 0) (omega arith)

pub middle_cut : (h c q : List ℕ) → slice_range ((h ++ c) ++ q) (length h) (length (h ++ c)) ≡ c
middle_cut h c q =
    ap (λ (xs : List ℕ). take (length (h ++ c) - length h) xs) (ap (λ (xs : List ℕ). drop (length h) xs) (append_assoc h c q) ∙ drop_at h (c ++ q) (length h) refl)
    ∙ take_at c q (length (h ++ c) - length h) (omega (arith, length-append h c))

-- an empty rest is seen to be empty
pub no_rest : (rest : List ℕ) → false ≡ eqb (length rest) 0 → rest ≡ [] → ⊥
no_rest rest h e = let k = eq-eqb (length rest) 0 (ap length e) in absurd cc

-- and only an empty one is
pub is_rest : (rest : List ℕ) → true ≡ eqb (length rest) 0 → rest ≡ []
is_rest [] h = refl
is_rest (x ∷ rest) h = let e = eqb-true (suc (length rest)) 0 (sym h) in absurd (omega arith)

-- ---- headers

container_some : (container : Container) (n : ℕ) (h : List ℕ) → IsContainerHeader container n h → 0 < length h
container_some container n [] p = absurd p
container_some container n (a ∷ h) p = omega arith

scalar_some : (kind : Kind) (n : ℕ) (h : List ℕ) → IsScalarHeader kind n h → 0 < length h
scalar_some kind n [] p = absurd p
scalar_some kind n (a ∷ h) p = omega arith

pub array_heads : (n : ℕ) (bytes h x : List ℕ) → IsArrayHeader n h → bytes ≡ h ++ x → IsHead bytes 0 (Some (head.Array n (length h)))
array_heads n bytes h x p e = subst (λ (b : List ℕ). IsHead b 0 (Some (head.Array n (length h)))) (sym e)
    (container_some _ n h p, omega (arith, length-append h x), subst (IsArrayHeader n) (sym (front_cut h x)) p)

pub map_heads : (n : ℕ) (bytes h x : List ℕ) → IsMapHeader n h → bytes ≡ h ++ x → IsHead bytes 0 (Some (head.Map n (length h)))
map_heads n bytes h x p e = subst (λ (b : List ℕ). IsHead b 0 (Some (head.Map n (length h)))) (sym e)
    (container_some _ n h p, omega (arith, length-append h x), subst (IsMapHeader n) (sym (front_cut h x)) p)

pub bool_heads : (value : Bool) (bytes front back : List ℕ) → IsBool value front → bytes ≡ front ++ back → IsHead bytes 0 (Some (head.Bool value))
bool_heads value bytes front back p e = record { front = front; back = back; is = p; whole = e }

-- where a scalar at the front has its content
pub record Cut (kind : Kind) (bytes front content : List ℕ) : Type 0 where
  pub start : ℕ
  pub after : 0 < start
  pub within : start ≤ length front
  pub short : length front ≤ length bytes
  pub spelled : Spells kind (slice_range bytes 0 (length front)) (slice_range bytes start (length front))
  pub content_is : slice_range bytes start (length front) ≡ content
  pub behind : (back : List ℕ) → bytes ≡ front ++ back → drop (length front) bytes ≡ back

pub cut_at : (kind : Kind) (bytes front content back : List ℕ) → Spells kind front content → bytes ≡ front ++ back → Cut kind bytes front content
cut_at kind bytes front content back p e =
    let w : bytes ≡ (p.header ++ content) ++ back = e ∙ ap (λ (f : List ℕ). f ++ back) p.whole in
    let l : length front ≡ length (p.header ++ content) = ap length p.whole in
    let cut : slice_range bytes (length p.header) (length front) ≡ content =
    ap (λ (b : List ℕ). slice_range b (length p.header) (length front)) w
    ∙ ap (λ (n : ℕ). slice_range ((p.header ++ content) ++ back) (length p.header) n) l ∙ middle_cut p.header content back in
    let whole : slice_range bytes 0 (length front) ≡ front = ap (λ (b : List ℕ). slice_range b 0 (length front)) e ∙ front_cut front back in
    record {
      start = length p.header;
      after = scalar_some kind (length content) p.header p.sized;
      within = omega (arith, length-append p.header content);
      short = (let le = ap length e in omega (arith, length-append front back));
      spelled = subst (Spells kind (slice_range bytes 0 (length front))) (sym cut) (subst (λ (f : List ℕ). Spells kind f content) (sym whole) p);
      content_is = cut;
      behind = λ rest h. ap (λ (b : List ℕ). drop (length front) b) h ∙ drop_at front rest (length front) refl;
    }

-- ---- answers

pub one_head : (a b : Head) (answer : Option Head) → Some a ≡ answer → answer ≡ Some b → a ≡ b
one_head a b answer h k = let e = h ∙ k in cc

pub some_head : (a : Head) (answer : Option Head) → Some a ≡ answer → answer ≡ None → ⊥
some_head a answer h k = let e = h ∙ k in absurd cc

pub one_str : (s e t f : ℕ) → head.Str s e ≡ head.Str t f → (s ≡ t) × (e ≡ f)
one_str s e t f h = (cc, cc)

pub one_bin : (s e t f : ℕ) → head.Bin s e ≡ head.Bin t f → (s ≡ t) × (e ≡ f)
one_bin s e t f h = (cc, cc)

pub str_or_bin : (s e t f : ℕ) → head.Str s e ≡ head.Bin t f → ⊥
str_or_bin s e t f h = absurd cc

pub one_array : (m s n t : ℕ) → head.Array m s ≡ head.Array n t → (m ≡ n) × (s ≡ t)
one_array m s n t h = (cc, cc)

-- ---- whole items

pub item_ends : (bytes front back : List ℕ) → IsItemWithin front → bytes ≡ front ++ back → IsScanned bytes 0 (scan.End (length front))
item_ends bytes front back p e =
    let le = ap length e in
    (omega arith, omega (arith, length-append front back), subst IsItemWithin (sym (ap (λ (b : List ℕ). slice_range b 0 (length front)) e ∙ front_cut front back)) p)

pub one_end : (m n : ℕ) → scan.End m ≡ scan.End n → m ≡ n
one_end m n h = cc
