-- What a scan answers is right, and no other answer is.
use Rattle.std.proofs.Common.{ℕ, ◌≡◌, ◌-◌, List, [], ◌∷◌, ◌++◌, length, drop, replicate, slice_range, refl, ap, sym, ◌∙◌, Ok, Err, arith, ◌⊎◌, inl, inr, append_assoc, append-nil, length-drop}
use Rattle.msgpack_bytes.specs.declared.answers.Scan.{Scan}
use Rattle.msgpack_bytes.specs.declared.answers.Scan.TheVariants.{End, Need, Bad}
use Rattle.msgpack_bytes.specs.declared.answers.MsgFault.{MsgFault}
use Rattle.msgpack_bytes.specs.declared.answers.MsgFault.TheVariants as fault
use Rattle.msgpack_bytes.specs.Item.{Item, deepest, IsItemWithin, IsOpen}
use Rattle.msgpack_bytes.specs.Fault.{EndsIn, IsFaulty}
use Rattle.msgpack_bytes.specs.Stops.{Awaits, EndsReserved, EndsTooDeep}
use Rattle.msgpack_bytes.specs.Answers.{IsScanned}
use Rattle.msgpack_bytes.specs.Run.{Reserved, Deep, run}
use Rattle.msgpack_bytes.proofs.Slices.{slice_then}
use Rattle.msgpack_bytes.proofs.Runs.{run_steady}
use Rattle.msgpack_bytes.proofs.Items.{item_read, item_all, all_item}
use Rattle.msgpack_bytes.proofs.Opened.{Within, Shortest, missing_open, open_missing, before_within, one_shorter, open_before, beyond_closed, beyond_unended, unlimited}
use Rattle.msgpack_bytes.proofs.Faults.{reserved_stops, deep_stops, reserved_fault, deep_fault}
use Rattle.msgpack_bytes.proofs.Mended.{reserved_never, deep_deeper}

-- a fault that the last byte brings is at the last byte
at_last : (front begun rest : List ℕ) (last byte : ℕ) → front ++ last ∷ [] ≡ begun ++ byte ∷ rest → ((back : List ℕ) × (front ≡ begun ++ byte ∷ back)) ⊎ (front ++ last ∷ [] ≡ begun ++ byte ∷ [])
at_last front begun [] last byte e = inr e
at_last front begun (x ∷ rest) last byte e =
    let f : front ++ last ∷ [] ≡ (begun ++ byte ∷ []) ++ x ∷ rest = e ∙ sym (append_assoc begun (byte ∷ []) (x ∷ rest)) in
    let t = one_shorter front (begun ++ byte ∷ []) rest last x f in
    inl (t.0, t.1 ∙ append_assoc begun (byte ∷ []) t.0)

pub reserved_last : (front : List ℕ) (last : ℕ) → Within front → run deepest (front ++ last ∷ []) ≡ Err Reserved → EndsReserved (front ++ last ∷ [])
reserved_last front last w e =
    let t = reserved_fault deepest (front ++ last ∷ []) e in
    elim (at_last front t.front t.rest last t.byte t.whole) [
      | inl b ↦ absurd (let f : run deepest front ≡ Err Reserved = rw (b.1, t.is) (reserved_stops t.left deepest t.front b.0 t.begins) in let g = sym w.missing ∙ f in cc)
      | inr s ↦ record { left = t.left; front = t.front; begins = t.begins; whole = rw t.is at s }
    ]

pub deep_last : (front : List ℕ) (last : ℕ) → Within front → run deepest (front ++ last ∷ []) ≡ Err Deep → EndsTooDeep (front ++ last ∷ [])
deep_last front last w e =
    let t = deep_fault deepest (front ++ last ∷ []) e in
    let begins : Awaits 0 deepest t.front = rw t.is.0 at t.begins in
    elim (at_last front t.front t.rest last t.byte t.whole) [
      | inl b ↦ absurd (let f : run deepest front ≡ Err Deep = rw b.1 (deep_stops deepest t.byte t.front b.0 begins t.is.1) in let g = sym w.missing ∙ f in cc)
      | inr s ↦ record { front = t.front; byte = t.byte; begins = begins; container = t.is.1; whole = s }
    ]

reserved_unmended : (bytes more : List ℕ) → run deepest bytes ≡ Err Reserved → Item deepest (bytes ++ more) → ⊥
reserved_unmended bytes more e i = let f = sym ((run_steady deepest).reserved bytes more e) ∙ item_all deepest (bytes ++ more) i in cc

deep_unmended : (bytes more : List ℕ) → run deepest bytes ≡ Err Deep → Item deepest (bytes ++ more) → ⊥
deep_unmended bytes more e i = let f = sym ((run_steady deepest).deep bytes more e) ∙ item_all deepest (bytes ++ more) i in cc

-- the faults, where a list that is open goes on by one byte
pub reserved_right : (bytes front rest : List ℕ) (last : ℕ) → Within front → bytes ≡ front ++ last ∷ rest → run deepest (front ++ last ∷ []) ≡ Err Reserved → IsFaulty fault.Reserved bytes
reserved_right bytes front rest last w e f = record {
  shortest = front ++ last ∷ [];
  rest = rest;
  whole = e ∙ sym (append_assoc front (last ∷ []) rest);
  closed = λ more t. reserved_unmended (front ++ last ∷ []) more f t.item;
  before = open_before front last w;
  ends = reserved_never (front ++ last ∷ []) (reserved_last front last w f);
}

pub deep_right : (bytes front rest : List ℕ) (last : ℕ) → Within front → bytes ≡ front ++ last ∷ rest → run deepest (front ++ last ∷ []) ≡ Err Deep → IsFaulty fault.TooDeep bytes
deep_right bytes front rest last w e f = record {
  shortest = front ++ last ∷ [];
  rest = rest;
  whole = e ∙ sym (append_assoc front (last ∷ []) rest);
  closed = λ more t. deep_unmended (front ++ last ∷ []) more f t.item;
  before = open_before front last w;
  ends = (λ more. deep_unmended (front ++ last ∷ []) more f, deep_deeper (front ++ last ∷ []) (deep_last front last w f));
}

pub long_right : (bytes : List ℕ) → Shortest bytes → IsFaulty fault.TooLong bytes
long_right bytes s = record {
  shortest = s.long;
  rest = s.rest;
  whole = s.whole;
  closed = λ more. unlimited s.long more (beyond_unended s.long s.beyond) (beyond_closed s.long s.beyond);
  before = s.before;
  ends = (replicate s.beyond.n 0, all_item deepest (s.long ++ replicate s.beyond.n 0) ((run_steady deepest).zeros s.long s.beyond.n s.beyond.missing));
}

-- of two fronts of one list, one goes on from the other
pub compare_fronts : (a b x y : List ℕ) → a ++ x ≡ b ++ y → ((c : List ℕ) × (b ≡ a ++ c)) ⊎ ((byte : ℕ) × (c : List ℕ) × (a ≡ b ++ byte ∷ c))
compare_fronts [] b x y e = inl (b, refl)
compare_fronts (p ∷ a) [] x y e = inr (p, a, refl)
compare_fronts (p ∷ a) (q ∷ b) x y e =
    let same : p ≡ q = cc in
    let rest : a ++ x ≡ b ++ y = cc in
    elim (compare_fronts a b x y rest) [
      | inl t ↦ inl (t.0, rw (same, t.1) refl)
      | inr t ↦ inr (t.0, t.1, rw (same, t.2) refl)
    ]

-- two items in front of one list are the same
pub one_end : (a b x y : List ℕ) → IsItemWithin a → IsItemWithin b → a ++ x ≡ b ++ y → x ≡ y
one_end a b x y i j e =
    let f = item_read deepest a x i.item in
    let g = item_read deepest b y j.item in
    let h : run deepest (b ++ y) ≡ Ok x = rw e at f in
    let k = sym h ∙ g in
    cc

-- the shortest beginning that has no continuation is not open
not_open : {fault : MsgFault} {bytes : List ℕ} (f : IsFaulty fault bytes) → IsOpen f.shortest → ⊥
not_open f o = f.closed o.more o.ends

-- what begins with an item within the limits has no fault
item_faultless : (fault : MsgFault) (item rest bytes : List ℕ) → IsItemWithin item → bytes ≡ item ++ rest → IsFaulty fault bytes → ⊥
item_faultless fault item rest bytes i e f =
    elim (compare_fronts f.shortest item f.rest rest (sym f.whole ∙ e)) [
      | inl t ↦ f.closed t.0 (rw t.1 at i)
      | inr t ↦ (let o = f.before item t.1 t.0 t.2 in o.unended i)
    ]

open_faultless : (fault : MsgFault) (bytes : List ℕ) → IsOpen bytes → IsFaulty fault bytes → ⊥
open_faultless fault bytes o f =
    let w = open_missing bytes o in
    let there : Within (f.shortest ++ f.rest) = rw f.whole at w in
    not_open f (missing_open f.shortest (before_within f.shortest f.rest there))

-- one list has one fault
same_ends : (f g : MsgFault) (bytes : List ℕ) → EndsIn f bytes → EndsIn g bytes → f ≡ g
same_ends fault.Reserved fault.Reserved bytes a b = refl
same_ends fault.Reserved fault.TooDeep bytes a b = absurd (a b.1.0 b.1.1 b.1.2)
same_ends fault.Reserved fault.TooLong bytes a b = absurd (a deepest b.0 b.1)
same_ends fault.TooDeep fault.Reserved bytes a b = absurd (b a.1.0 a.1.1 a.1.2)
same_ends fault.TooDeep fault.TooDeep bytes a b = refl
same_ends fault.TooDeep fault.TooLong bytes a b = absurd (a.0 b.0 b.1)
same_ends fault.TooLong fault.Reserved bytes a b = absurd (b deepest a.0 a.1)
same_ends fault.TooLong fault.TooDeep bytes a b = absurd (b.0 a.0 a.1)
same_ends fault.TooLong fault.TooLong bytes a b = refl

longer_none : (f g : MsgFault) (bytes : List ℕ) (a : IsFaulty f bytes) (b : IsFaulty g bytes) (back : List ℕ) → b.shortest ≡ a.shortest ++ back → f ≡ g
longer_none f g bytes a b [] e = let same : b.shortest ≡ a.shortest = e ∙ append-nil a.shortest in same_ends f g a.shortest a.ends (rw same at b.ends)
longer_none f g bytes a b (byte ∷ back) e = absurd (not_open a (b.before a.shortest back byte e))

pub one_fault : (f g : MsgFault) (bytes : List ℕ) → IsFaulty f bytes → IsFaulty g bytes → f ≡ g
one_fault f g bytes a b =
    elim (compare_fronts a.shortest b.shortest a.rest b.rest (sym a.whole ∙ b.whole)) [
      | inl t ↦ longer_none f g bytes a b t.0 t.1
      | inr t ↦ absurd (not_open b (a.before b.shortest t.1 t.0 t.2))
    ]

item_closed : (item rest bytes : List ℕ) → IsItemWithin item → bytes ≡ item ++ rest → IsOpen bytes → ⊥
item_closed item rest bytes i e o =
    let here : IsOpen (item ++ rest) = rw e at o in
    let w = open_missing (item ++ rest) here in
    let f = item_read deepest item rest i.item in
    let g = sym f ∙ w.missing in
    cc

-- there is one right answer
pub one_answer : (bytes : List ℕ) (at : ℕ) (s t : Scan) → IsScanned bytes at s → IsScanned bytes at t → s ≡ t
one_answer bytes at (End e) (End f) a b =
    let same = one_end (slice_range bytes at e) (slice_range bytes at f) (drop (e - at) (drop at bytes)) (drop (f - at) (drop at bytes)) a.2 b.2 (sym (slice_then bytes at e) ∙ slice_then bytes at f) in
    let l = length-drop (e - at) (drop at bytes) in
    let m = length-drop (f - at) (drop at bytes) in
    let d = length-drop at bytes in
    let n = ap length same in
    let above = a.0 in
    let within = a.1 in
    let above_too = b.0 in
    let within_too = b.1 in
    ap End (omega arith)
one_answer bytes at (End e) Need a b = absurd (item_closed (slice_range bytes at e) (drop (e - at) (drop at bytes)) (drop at bytes) a.2 (slice_then bytes at e) b)
one_answer bytes at (End e) (Bad f) a b = absurd (item_faultless f (slice_range bytes at e) (drop (e - at) (drop at bytes)) (drop at bytes) a.2 (slice_then bytes at e) b)
one_answer bytes at Need (End e) a b = absurd (item_closed (slice_range bytes at e) (drop (e - at) (drop at bytes)) (drop at bytes) b.2 (slice_then bytes at e) a)
one_answer bytes at Need Need a b = refl
one_answer bytes at Need (Bad f) a b = absurd (open_faultless f (drop at bytes) a b)
one_answer bytes at (Bad f) (End e) a b = absurd (item_faultless f (slice_range bytes at e) (drop (e - at) (drop at bytes)) (drop at bytes) b.2 (slice_then bytes at e) a)
one_answer bytes at (Bad f) Need a b = absurd (open_faultless f (drop at bytes) b a)
one_answer bytes at (Bad f) (Bad g) a b = ap Bad (one_fault f g (drop at bytes) a b)
