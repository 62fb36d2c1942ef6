-- Open lists are those in which bytes are missing, within the limit.
use Rattle.std.proofs.Common.{ℕ, zero, suc, ◌≡◌, ◌+◌, ◌<◌, ◌≤◌, List, [], ◌∷◌, ◌++◌, length, replicate, true, false, nat_lt, refl, ap, sym, ◌∙◌, Ok, Err, arith, length-append, append_assoc, append-nil}
use Rattle.std.proofs.lemmas.List.{length-replicate}
use Rattle.msgpack_bytes.specs.Item.{Item, longest, deepest, IsItemWithin, IsOpen}
use Rattle.msgpack_bytes.specs.Run.{Missing, Reserved, Deep, run}
use Rattle.msgpack_bytes.proofs.Slices.{less, not_less}
use Rattle.msgpack_bytes.proofs.Runs.{run_steady}
use Rattle.msgpack_bytes.proofs.Items.{item_all, all_item}

back_none : (xs ys : List ℕ) → xs ++ ys ≡ [] → length ys ≡ 0
back_none [] ys e = ap length e
back_none (x ∷ xs) ys e = absurd (cc)

-- at least one byte is missing
pub missing_some : (depth n : ℕ) (bytes : List ℕ) → run depth bytes ≡ Err (Missing n) → 0 < n
missing_some depth zero bytes e =
    absurd (let z = (run_steady depth).zeros bytes 0 e in let f : run depth bytes ≡ Ok [] = (rw append-nil at z) in let g = sym e ∙ f in cc)
missing_some depth (suc n) bytes e = omega arith

-- in a proper beginning of an item bytes are missing
pub begun_missing : (depth : ℕ) (bytes more : List ℕ) → Item depth (bytes ++ more) → 0 < length more → (n : ℕ) × (run depth bytes ≡ Err (Missing n)) × (n ≤ length more) × (0 < n)
begun_missing depth bytes more i some =
    let all = item_all depth (bytes ++ more) i in
    elim (run depth bytes) as (λ r. run depth bytes ≡ r → (n : ℕ) × (r ≡ Err (Missing n)) × (n ≤ length more) × (0 < n)) [
      | Ok rest ↦ λ e. absurd (let f = sym ((run_steady depth).stays bytes rest more e) ∙ all in let q : rest ++ more ≡ [] = cc in let l = back_none rest more q in omega arith)
      | Err (Missing n) ↦ λ e. (n, refl, (let l = (run_steady depth).least bytes more [] n e all in omega arith), missing_some depth n bytes e)
      | Err Reserved ↦ λ e. absurd (let f = sym ((run_steady depth).reserved bytes more e) ∙ all in cc)
      | Err Deep ↦ λ e. absurd (let f = sym ((run_steady depth).deep bytes more e) ∙ all in cc)
    ] refl

-- each beginning of a list in which bytes are missing is one, and the least end doesn't fall
pub before_missing : (depth n : ℕ) (front back : List ℕ) → run depth (front ++ back) ≡ Err (Missing n) → (m : ℕ) × (run depth front ≡ Err (Missing m)) × (length front + m ≤ length (front ++ back) + n)
before_missing depth n front back e =
    let z = (run_steady depth).zeros (front ++ back) n e in
    let y = rw append_assoc at z in
    let l = length-append front back in
    let k = length-append back (replicate n 0) in
    let r = length-replicate {A = ℕ} n 0 in
    elim (run depth front) as (λ t. run depth front ≡ t → (m : ℕ) × (t ≡ Err (Missing m)) × (length front + m ≤ length (front ++ back) + n)) [
      | Ok rest ↦ λ h. absurd (let f = sym ((run_steady depth).stays front rest back h) ∙ e in cc)
      | Err (Missing m) ↦ λ h. (let a = (run_steady depth).least front (back ++ replicate n 0) [] m h y in (m, refl, omega arith))
      | Err Reserved ↦ λ h. absurd (let f = sym ((run_steady depth).reserved front back h) ∙ e in cc)
      | Err Deep ↦ λ h. absurd (let f = sym ((run_steady depth).deep front back h) ∙ e in cc)
    ] refl

-- bytes are missing, and an item can end within the limit
pub record Within (bytes : List ℕ) : Type 0 where
  pub n : ℕ
  pub missing : run deepest bytes ≡ Err (Missing n)
  pub least : length bytes + n ≤ longest

-- bytes are missing, and no item can end within the limit
pub record Beyond (bytes : List ℕ) : Type 0 where
  pub n : ℕ
  pub missing : run deepest bytes ≡ Err (Missing n)
  pub least : longest < length bytes + n

pub missing_open : (bytes : List ℕ) → Within bytes → IsOpen bytes
missing_open bytes w =
    let z = (run_steady deepest).zeros bytes w.n w.missing in
    let l = length-replicate {A = ℕ} w.n 0 in
    let k = length-append bytes (replicate w.n 0) in
    let within = w.least in
    let some = missing_some deepest w.n bytes w.missing in
    record {
      more = replicate w.n 0;
      some = omega arith;
      ends = record { item = all_item deepest (bytes ++ replicate w.n 0) z; short = omega arith };
      unended = λ t. (let f = sym w.missing ∙ item_all deepest bytes t.item in cc);
    }

pub open_missing : (bytes : List ℕ) → IsOpen bytes → Within bytes
open_missing bytes o =
    let m = begun_missing deepest bytes o.more o.ends.item o.some in
    let l = length-append bytes o.more in
    let few = m.2 in
    let short = o.ends.short in
    record { n = m.0; missing = m.1; least = omega arith }

-- a beginning of what is open is open
pub before_within : (front back : List ℕ) → Within (front ++ back) → Within front
before_within front back w =
    let t = before_missing deepest w.n front back w.missing in
    let least = w.least in
    let no_later = t.2 in
    record { n = t.0; missing = t.1; least = omega arith }

-- a proper beginning of a list with one more byte is a beginning of the list
pub one_shorter : (list front more : List ℕ) (last byte : ℕ) → list ++ last ∷ [] ≡ front ++ byte ∷ more → (back : List ℕ) × (list ≡ front ++ back)
one_shorter list [] more last byte e = (list, refl)
one_shorter [] (y ∷ front) more last byte e = absurd (let q : [] ≡ front ++ byte ∷ more = cc in let l = ap length q in let k = length-append front (byte ∷ more) in omega arith)
one_shorter (x ∷ list) (y ∷ front) more last byte e =
    let q : list ++ last ∷ [] ≡ front ++ byte ∷ more = cc in
    let h : x ≡ y = cc in
    let t = one_shorter list front more last byte q in
    (t.0, rw (h, ← t.1) refl)

-- each proper beginning is open
abbrev pub IsOpenBefore : List ℕ → Type 0
IsOpenBefore bytes = (front more : List ℕ) (byte : ℕ) → bytes ≡ front ++ byte ∷ more → IsOpen front

pub open_before : (front : List ℕ) (byte : ℕ) → Within front → IsOpenBefore (front ++ byte ∷ [])
open_before front byte w = λ shorter more b e. (let t = one_shorter front shorter more byte b e in missing_open shorter (before_within shorter t.0 (rw t.1 at w)))

-- the shortest beginning from which no item can end within the limit
pub record Shortest (bytes : List ℕ) : Type 0 where
  pub long : List ℕ
  pub rest : List ℕ
  pub whole : bytes ≡ long ++ rest
  pub beyond : Beyond long
  pub before : IsOpenBefore long

pub shortest_beyond : (front back : List ℕ) → Within front → Beyond (front ++ back) → Shortest (front ++ back)
shortest_beyond front [] w b =
    absurd (let e : run deepest front ≡ Err (Missing b.n) = (rw append-nil at b.missing) in let f : w.n ≡ b.n = (let g = sym w.missing ∙ e in cc) in let l = length-append front [] in let x = w.least in let y = b.least in omega arith)
shortest_beyond front (byte ∷ back) w b =
    let one : List ℕ = front ++ byte ∷ [] in
    let same : one ++ back ≡ front ++ byte ∷ back = append_assoc front (byte ∷ []) back in
    let beyond : Beyond (one ++ back) = rw same b in
    let m = before_missing deepest beyond.n one back beyond.missing in
    elim (nat_lt longest (length one + m.0)) as (λ v. nat_lt longest (length one + m.0) ≡ v → Shortest (front ++ byte ∷ back)) [
      | true ↦ λ e. record { long = one; rest = back; whole = sym same; beyond = record { n = m.0; missing = m.1; least = less longest (length one + m.0) e }; before = open_before front byte w }
      | false ↦ λ e. (let r = shortest_beyond one back (record { n = m.0; missing = m.1; least = not_less longest (length one + m.0) e }) beyond in rw (← same) r)
    ] refl

-- a list but for its last byte
pub last_of : (bytes : List ℕ) → 0 < length bytes → (front : List ℕ) × (byte : ℕ) × (bytes ≡ front ++ byte ∷ [])
last_of [] h = absurd (omega arith)
last_of (x ∷ []) h = ([], x, refl)
last_of (x ∷ y ∷ ys) h = let t = last_of (y ∷ ys) (omega arith) in (x ∷ t.0, t.1, ap (λ (zs : List ℕ). x ∷ zs) t.2)

longer : (bytes init long rest : List ℕ) (byte : ℕ) → bytes ≡ init ++ byte ∷ [] → init ≡ long ++ rest → bytes ≡ long ++ (rest ++ byte ∷ [])
longer bytes init long rest byte e f = rw (e, f) (append_assoc long rest (byte ∷ []))

-- the same where the bytes are a whole item that is too long
pub shortest_item : (front back : List ℕ) → Within front → run deepest (front ++ back) ≡ Ok [] → longest < length (front ++ back) → 0 < length back → Shortest (front ++ back)
shortest_item front back w e h some =
    let t = last_of back some in
    let all : front ++ back ≡ (front ++ t.0) ++ t.1 ∷ [] = ap (λ (xs : List ℕ). front ++ xs) t.2 ∙ sym (append_assoc front t.0 (t.1 ∷ [])) in
    let i = all_item deepest ((front ++ t.0) ++ t.1 ∷ []) (rw all at e) in
    let m = begun_missing deepest (front ++ t.0) (t.1 ∷ []) i (omega arith) in
    let l = length-append (front ++ t.0) (t.1 ∷ []) in
    let size = ap length all in
    let positive = m.3 in
    let s = shortest_beyond front t.0 w (record { n = m.0; missing = m.1; least = omega arith }) in
    record { long = s.long; rest = s.rest ++ t.1 ∷ []; whole = longer (front ++ back) (front ++ t.0) s.long s.rest t.1 all s.whole; beyond = s.beyond; before = s.before }

-- beyond the limit there is no item and nothing open
pub beyond_closed : (bytes : List ℕ) → Beyond bytes → IsOpen bytes → ⊥
beyond_closed bytes b o =
    let w = open_missing bytes o in
    let same : w.n ≡ b.n = (let g = sym w.missing ∙ b.missing in cc) in
    let x = w.least in
    let y = b.least in
    omega arith

pub beyond_unended : (bytes : List ℕ) → Beyond bytes → IsItemWithin bytes → ⊥
beyond_unended bytes b t = let f = sym b.missing ∙ item_all deepest bytes t.item in cc

-- what is neither an item nor open goes on to none
pub unlimited : (bytes more : List ℕ) → (IsItemWithin bytes → ⊥) → (IsOpen bytes → ⊥) → IsItemWithin (bytes ++ more) → ⊥
unlimited bytes [] unended closed i = unended (let same = append-nil bytes in rw same at i)
unlimited bytes (byte ∷ more) unended closed i = closed (record { more = byte ∷ more; some = omega arith; ends = i; unended = unended })
