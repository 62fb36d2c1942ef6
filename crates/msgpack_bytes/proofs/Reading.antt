-- What `head` computes is what the relations say, and nothing else is.
use Rattle.std.proofs.Common.{ℕ, zero, suc, ◌≡◌, ◌+◌, ◌*◌, ◌^◌, ◌<◌, ◌≤◌, List, [], ◌∷◌, ◌++◌, length, take, drop, slice_range, Option, Some, refl, ap, ◌∙◌, arith, append_assoc, length-append}
use Rattle.std.proofs.lemmas.List.{length-take-le}
use Rattle.msgpack_bytes.specs.declared.answers.Head.{Head}
use Rattle.msgpack_bytes.specs.declared.format.Kind.{Kind}
use Rattle.msgpack_bytes.specs.declared.format.Container.{Container}
use Rattle.msgpack_bytes.specs.declared.format.Shape.{Shape}
use Rattle.msgpack_bytes.specs.declared.format.Shape.TheVariants.{Fixed, Sized, Holds, Counted, Never}
use Rattle.msgpack_bytes.specs.Format.{big_endian, shape_of}
use Rattle.msgpack_bytes.specs.Sizes.{Sizes, Counts}
use Rattle.msgpack_bytes.specs.Item.{IsScalarHeader, IsContainerHeader, Spells}
use Rattle.msgpack_bytes.specs.Run.{number}
use Rattle.msgpack_bytes.specs.Reads.{scalar_head, container_head, head_by, head_at}
use Rattle.msgpack_bytes.proofs.Headers.{scalar_sizes, container_counts}
use Rattle.msgpack_bytes.proofs.Slices.{less_false, slice_middle}

-- a number whose bytes are all there
pub number_front : (size back : List ℕ) → number (length size) (size ++ back) ≡ big_endian size
number_front [] back = refl
number_front (byte ∷ size) back = ap (λ (n : ℕ). byte * 256 ^ length size + n) (number_front size back)

abbrev One : Kind → ℕ → List ℕ → ℕ → ℕ → Option Head
One kind first bytes start end = Some (scalar_head kind first bytes (record { start = start; end = end }))

same_span : (kind : Kind) (first : ℕ) (bytes : List ℕ) (a b c d : ℕ) → a ≡ c → b ≡ d → One kind first bytes a b ≡ One kind first bytes c d
same_span kind first bytes a b c d p q = rw (p, q) refl

scalar_by : (s : Shape) (kind : Kind) (first start : ℕ) (bytes size content back : List ℕ) → Sizes s kind (length content) size
    → head_by s first bytes start (size ++ (content ++ back)) ≡ One kind first bytes (start + length size) (start + length size + length content)
scalar_by (Fixed k c) kind first start bytes size content back e =
    let l = length-append size (content ++ back) in
    let m = length-append content back in
    let none : length size ≡ 0 = ap length e.1 in
    rw (less_false (length (size ++ (content ++ back))) c (omega arith), e.0) (same_span kind first bytes start (start + c) (start + length size) (start + length size + length content) (omega arith) (omega arith))
scalar_by (Sized k width extra) kind first start bytes size content back e =
    let l = length-append size (content ++ back) in
    let m = length-append content back in
    let n : number width (size ++ (content ++ back)) ≡ big_endian size = rw (← e.1) (number_front size (content ++ back)) in
    rw (n, less_false (length (size ++ (content ++ back))) (width + (big_endian size + extra)) (omega arith), e.0)
    (same_span kind first bytes (start + width) (start + width + (big_endian size + extra)) (start + length size) (start + length size + length content) (omega arith) (omega arith))
scalar_by (Holds container count) kind first start bytes size content back e = absurd e
scalar_by (Counted container width) kind first start bytes size content back e = absurd e
scalar_by Never kind first start bytes size content back e = absurd e

-- where the content of a scalar at `at` is found
pub record Found (kind : Kind) (bytes : List ℕ) (at : ℕ) (front content back : List ℕ) : Type 0 where
  pub first : ℕ
  pub rest : List ℕ
  pub start : ℕ
  pub end : ℕ
  pub head : head_at bytes at ≡ One kind first bytes start end
  pub begins : front ≡ first ∷ rest
  pub above : at < start
  pub inside : end ≡ start + length content
  pub outside : end ≡ at + length front
  pub same : slice_range bytes start end ≡ content

found_by : (kind : Kind) (bytes header content back : List ℕ) (at : ℕ) → IsScalarHeader kind (length content) header → drop at bytes ≡ header ++ (content ++ back) → Found kind bytes at (header ++ content) content back
unfolding head_at
found_by kind bytes [] content back at h e = absurd h
found_by kind bytes (first ∷ size) content back at h e =
    let l = length-append size content in
    let start : ℕ = at + 1 + length size in
    record {
      first = first;
      rest = size ++ content;
      start = start;
      end = start + length content;
      head = rw e (scalar_by (shape_of first) kind first (at + 1) bytes size content back (scalar_sizes kind (length content) first size h));
      begins = refl;
      above = omega arith;
      inside = refl;
      outside = omega arith;
      same = slice_middle bytes (first ∷ size) content back at start (start + length content) e (omega arith) refl;
    }

pub found : (kind : Kind) (bytes front content back : List ℕ) (at : ℕ) → Spells kind front content → drop at bytes ≡ front ++ back → Found kind bytes at front content back
found kind bytes front content back at s e =
    rw s.whole (found_by kind bytes s.header content back at s.sized (e ∙ rw s.whole (append_assoc s.header content back)))

container_by : (s : Shape) (container : Container) (first start n : ℕ) (bytes size back : List ℕ) → Counts s container n size
    → head_by s first bytes start (size ++ back) ≡ Some (container_head container (record { count = n; next = start + length size }))
container_by (Fixed k c) container first start n bytes size back e = absurd e
container_by (Sized k width extra) container first start n bytes size back e = absurd e
container_by (Holds c count) container first start n bytes size back e =
    let none : length size ≡ 0 = ap length e.1 in
    let next : start ≡ start + length size = omega arith in
    rw (e.0, e.2, ← next) refl
container_by (Counted c width) container first start n bytes size back e =
    let l = length-append size back in
    let m : number width (size ++ back) ≡ big_endian size = rw (← e.1) (number_front size back) in
    rw (less_false (length (size ++ back)) width (omega arith), m, e.0, e.2, e.1) refl
container_by Never container first start n bytes size back e = absurd e

-- the head of a container at `at`
pub found_container : (container : Container) (n at next : ℕ) (bytes header back : List ℕ) → IsContainerHeader container n header → drop at bytes ≡ header ++ back → next ≡ at + length header
    → head_at bytes at ≡ Some (container_head container (record { count = n; next = next }))
unfolding head_at
found_container container n at next bytes [] back h e f = absurd h
found_container container n at next bytes (first ∷ size) back h e f =
    let same : next ≡ at + 1 + length size = omega arith in
    rw (e, same) (container_by (shape_of first) container first (at + 1) n bytes size back (container_counts container n first size h))

pub number_take : (width : ℕ) (bytes : List ℕ) → width ≤ length bytes → big_endian (take width bytes) ≡ number width bytes
number_take zero bytes h = refl
number_take (suc width) [] h = absurd (omega arith)
number_take (suc width) (byte ∷ bytes) h =
    let n : length (take width bytes) ≡ width = length-take-le width bytes (omega arith) in
    rw (n, number_take width bytes (omega arith)) refl
