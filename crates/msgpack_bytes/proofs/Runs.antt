-- What holds of each reading of items: of one, of many in a row, and of a container.
use Rattle.std.proofs.Common.{ℕ, zero, suc, ◌≡◌, ◌+◌, ◌≤◌, List, [], ◌∷◌, ◌++◌, length, replicate, refl, ap, sym, ◌∙◌, Result, Ok, Err, arith, append_assoc, zero-add, suc-add, ◌⊎◌, inl, inr}
use Rattle.msgpack_bytes.specs.declared.format.Shape.{Shape}
use Rattle.msgpack_bytes.specs.declared.format.Shape.TheVariants.{Fixed, Sized, Holds, Counted, Never}
use Rattle.msgpack_bytes.specs.Format.{shape_of}
use Rattle.msgpack_bytes.specs.Run.{Front, Whole, Opens, Lacks, Wrong, Stop, Missing, Reserved, Deep, front_of, behind_first, number, then_, many, none, behind, flat, run}
use Rattle.msgpack_bytes.proofs.Fronts.{whole_stays, opens_stays, wrong_stays, lacks_follows, lacks_fills, whole_left, opens_left, content_there, content_never_opens, Follows, Fills}

abbrev pub Answer : Type 0
Answer = Result (List ℕ) Stop

-- a reading that takes at least n bytes: bytes that follow change nothing that was decided,
-- and where bytes are missing, so many zeros complete it, and nothing shorter does
pub record Steady (n : ℕ) (read : List ℕ → Answer) : Type 0 where
  pub stays : (bytes rest more : List ℕ) → read bytes ≡ Ok rest → read (bytes ++ more) ≡ Ok (rest ++ more)
  pub takes : (bytes rest : List ℕ) → read bytes ≡ Ok rest → n + length rest ≤ length bytes
  pub reserved : (bytes more : List ℕ) → read bytes ≡ Err Reserved → read (bytes ++ more) ≡ Err Reserved
  pub deep : (bytes more : List ℕ) → read bytes ≡ Err Deep → read (bytes ++ more) ≡ Err Deep
  pub zeros : (bytes : List ℕ) (k : ℕ) → read bytes ≡ Err (Missing k) → read (bytes ++ replicate k 0) ≡ Ok []
  pub least : (bytes more rest : List ℕ) (k : ℕ) → read bytes ≡ Err (Missing k) → read (bytes ++ more) ≡ Ok rest → k + length rest ≤ length more

pub after_ok : (r : Answer) (m : ℕ) (next : List ℕ → Answer) (y : List ℕ) → then_ r m next ≡ Ok y → (x : List ℕ) × (r ≡ Ok x) × (next x ≡ Ok y)
after_ok (Ok x) m next y e = (x, refl, e)
after_ok (Err (Missing k)) m next y e = absurd (cc)
after_ok (Err Reserved) m next y e = absurd (cc)
after_ok (Err Deep) m next y e = absurd (cc)

pub after_missing : (r : Answer) (m k : ℕ) (next : List ℕ → Answer) → then_ r m next ≡ Err (Missing k) → ((x : List ℕ) × (r ≡ Ok x) × (next x ≡ Err (Missing k))) ⊎ ((j : ℕ) × (r ≡ Err (Missing j)) × (k ≡ j + m))
after_missing (Ok x) m k next e = inl (x, refl, e)
after_missing (Err (Missing j)) m k next e = inr (j, refl, cc)
after_missing (Err Reserved) m k next e = absurd (cc)
after_missing (Err Deep) m k next e = absurd (cc)

pub after_reserved : (r : Answer) (m : ℕ) (next : List ℕ → Answer) → then_ r m next ≡ Err Reserved → ((x : List ℕ) × (r ≡ Ok x) × (next x ≡ Err Reserved)) ⊎ (r ≡ Err Reserved)
after_reserved (Ok x) m next e = inl (x, refl, e)
after_reserved (Err (Missing k)) m next e = absurd (cc)
after_reserved (Err Reserved) m next e = inr refl
after_reserved (Err Deep) m next e = absurd (cc)

pub after_deep : (r : Answer) (m : ℕ) (next : List ℕ → Answer) → then_ r m next ≡ Err Deep → ((x : List ℕ) × (r ≡ Ok x) × (next x ≡ Err Deep)) ⊎ (r ≡ Err Deep)
after_deep (Ok x) m next e = inl (x, refl, e)
after_deep (Err (Missing k)) m next e = absurd (cc)
after_deep (Err Reserved) m next e = absurd (cc)
after_deep (Err Deep) m next e = inr refl

zeros_add : (a b : ℕ) → replicate {A = ℕ} (a + b) 0 ≡ replicate a 0 ++ replicate b 0
zeros_add zero b = rw (zero-add b) refl
zeros_add (suc a) b = rw (suc-add a b) (ap (λ (xs : List ℕ). 0 ∷ xs) (zeros_add a b))

-- many in a row
module _ (part : List ℕ → Answer) (one : Steady 1 part) (nought : (bytes : List ℕ) → part (0 ∷ bytes) ≡ Ok bytes) where
  pub many_noughts : (n : ℕ) → many part n (replicate n 0) ≡ Ok []
  many_noughts zero = refl
  many_noughts (suc n) = rw (nought (replicate n 0)) (many_noughts n)

  no_parts : Steady 0 (many part 0)
  no_parts = record {
    stays = λ bytes rest more e. cc;
    takes = λ bytes rest e. (let q : bytes ≡ rest = cc in let l = ap length q in omega arith);
    reserved = λ bytes more e. absurd (cc);
    deep = λ bytes more e. absurd (cc);
    zeros = λ bytes k e. absurd (cc);
    least = λ bytes more rest k e f. absurd (cc);
  }

  module _ (n : ℕ) (others : Steady n (many part n)) where
    on : (bytes x : List ℕ) → part bytes ≡ Ok x → many part (suc n) bytes ≡ many part n x
    on bytes x e = rw e refl

    one_stays : (bytes rest more : List ℕ) → many part (suc n) bytes ≡ Ok rest → many part (suc n) (bytes ++ more) ≡ Ok (rest ++ more)
    one_stays bytes rest more e =
        let t = after_ok (part bytes) n (many part n) rest e in
        on (bytes ++ more) (t.0 ++ more) (one.stays bytes t.0 more t.1) ∙ others.stays t.0 rest more t.2

    one_takes : (bytes rest : List ℕ) → many part (suc n) bytes ≡ Ok rest → suc n + length rest ≤ length bytes
    one_takes bytes rest e =
        let t = after_ok (part bytes) n (many part n) rest e in
        let a = one.takes bytes t.0 t.1 in
        let b = others.takes t.0 rest t.2 in
        omega arith

    one_reserved : (bytes more : List ℕ) → many part (suc n) bytes ≡ Err Reserved → many part (suc n) (bytes ++ more) ≡ Err Reserved
    one_reserved bytes more e =
        elim (after_reserved (part bytes) n (many part n) e) [
          | inl t ↦ on (bytes ++ more) (t.0 ++ more) (one.stays bytes t.0 more t.1) ∙ others.reserved t.0 more t.2
          | inr h ↦ rw (one.reserved bytes more h) refl
        ]

    one_deep : (bytes more : List ℕ) → many part (suc n) bytes ≡ Err Deep → many part (suc n) (bytes ++ more) ≡ Err Deep
    one_deep bytes more e =
        elim (after_deep (part bytes) n (many part n) e) [
          | inl t ↦ on (bytes ++ more) (t.0 ++ more) (one.stays bytes t.0 more t.1) ∙ others.deep t.0 more t.2
          | inr h ↦ rw (one.deep bytes more h) refl
        ]

    one_zeros : (bytes : List ℕ) (k : ℕ) → many part (suc n) bytes ≡ Err (Missing k) → many part (suc n) (bytes ++ replicate k 0) ≡ Ok []
    one_zeros bytes k e =
        elim (after_missing (part bytes) n k (many part n) e) [
          | inl t ↦ on (bytes ++ replicate k 0) (t.0 ++ replicate k 0) (one.stays bytes t.0 (replicate k 0) t.1) ∙ others.zeros t.0 k t.2
          | inr t ↦ rw (t.2, zeros_add t.0 n, ← append_assoc bytes (replicate t.0 0) (replicate n 0))
              (on ((bytes ++ replicate t.0 0) ++ replicate n 0) (replicate n 0) (one.stays (bytes ++ replicate t.0 0) [] (replicate n 0) (one.zeros bytes t.0 t.1)) ∙ many_noughts n)
        ]

    one_least : (bytes more rest : List ℕ) (k : ℕ) → many part (suc n) bytes ≡ Err (Missing k) → many part (suc n) (bytes ++ more) ≡ Ok rest → k + length rest ≤ length more
    one_least bytes more rest k e f =
        let u = after_ok (part (bytes ++ more)) n (many part n) rest f in
        elim (after_missing (part bytes) n k (many part n) e) [
          | inl t ↦ others.least t.0 more rest k t.2 (sym (on (bytes ++ more) (t.0 ++ more) (one.stays bytes t.0 more t.1)) ∙ f)
          | inr t ↦ (let a = one.least bytes more u.0 t.0 t.1 u.1 in let b = others.takes u.0 rest u.2 in omega arith)
        ]

    one_more : Steady (suc n) (many part (suc n))
    one_more = record { stays = one_stays; takes = one_takes; reserved = one_reserved; deep = one_deep; zeros = one_zeros; least = one_least }

  pub many_steady : (n : ℕ) → Steady n (many part n)
  many_steady zero = no_parts
  many_steady (suc n) = one_more n (many_steady n)

pub behind_ok : (inner : ℕ → List ℕ → Answer) (front : Front) (y : List ℕ) → behind inner front ≡ Ok y → (front ≡ Whole y) ⊎ ((n : ℕ) × (r : List ℕ) × (front ≡ Opens n r) × (inner n r ≡ Ok y))
behind_ok inner (Whole rest) y e = inl (cc)
behind_ok inner (Opens n r) y e = inr (n, r, refl, e)
behind_ok inner (Lacks n) y e = absurd (cc)
behind_ok inner Wrong y e = absurd (cc)

behind_missing : (inner : ℕ → List ℕ → Answer) (front : Front) (k : ℕ) → behind inner front ≡ Err (Missing k) → (front ≡ Lacks k) ⊎ ((n : ℕ) × (r : List ℕ) × (front ≡ Opens n r) × (inner n r ≡ Err (Missing k)))
behind_missing inner (Whole rest) k e = absurd (cc)
behind_missing inner (Opens n r) k e = inr (n, r, refl, e)
behind_missing inner (Lacks n) k e = inl (cc)
behind_missing inner Wrong k e = absurd (cc)

pub behind_reserved : (inner : ℕ → List ℕ → Answer) (front : Front) → behind inner front ≡ Err Reserved → (front ≡ Wrong) ⊎ ((n : ℕ) × (r : List ℕ) × (front ≡ Opens n r) × (inner n r ≡ Err Reserved))
behind_reserved inner (Whole rest) e = absurd (cc)
behind_reserved inner (Opens n r) e = inr (n, r, refl, e)
behind_reserved inner (Lacks n) e = absurd (cc)
behind_reserved inner Wrong e = inl refl

pub behind_deep : (inner : ℕ → List ℕ → Answer) (front : Front) → behind inner front ≡ Err Deep → (n : ℕ) × (r : List ℕ) × (front ≡ Opens n r) × (inner n r ≡ Err Deep)
behind_deep inner (Whole rest) e = absurd (cc)
behind_deep inner (Opens n r) e = (n, r, refl, e)
behind_deep inner (Lacks n) e = absurd (cc)
behind_deep inner Wrong e = absurd (cc)

-- what stands behind a first byte of this shape
module _ (s : Shape) (inner : ℕ → List ℕ → Answer) (rows : (n : ℕ) → Steady n (inner n)) (noughts : (n : ℕ) (bytes rest : List ℕ) → behind_first s bytes ≡ Opens n rest → inner n (replicate n 0) ≡ Ok []) where
  abbrev front : List ℕ → Answer
  front bytes = behind inner (behind_first s bytes)

  front_stays : (bytes rest more : List ℕ) → front bytes ≡ Ok rest → front (bytes ++ more) ≡ Ok (rest ++ more)
  front_stays bytes rest more e = elim (behind_ok inner (behind_first s bytes) rest e) [
    | inl h ↦ rw (whole_stays s bytes more rest h) refl
    | inr t ↦ rw (opens_stays s t.0 bytes more t.1 t.2) ((rows t.0).stays t.1 rest more t.3)
  ]

  front_takes : (bytes rest : List ℕ) → front bytes ≡ Ok rest → 0 + length rest ≤ length bytes
  front_takes bytes rest e = elim (behind_ok inner (behind_first s bytes) rest e) [
    | inl h ↦ (let a = whole_left s bytes rest h in omega arith)
    | inr t ↦ (let a = opens_left s t.0 bytes t.1 t.2 in let c = (rows t.0).takes t.1 rest t.3 in omega arith)
  ]

  front_reserved : (bytes more : List ℕ) → front bytes ≡ Err Reserved → front (bytes ++ more) ≡ Err Reserved
  front_reserved bytes more e = elim (behind_reserved inner (behind_first s bytes) e) [
    | inl h ↦ rw (wrong_stays s bytes more h) refl
    | inr t ↦ rw (opens_stays s t.0 bytes more t.1 t.2) ((rows t.0).reserved t.1 more t.3)
  ]

  front_deep : (bytes more : List ℕ) → front bytes ≡ Err Deep → front (bytes ++ more) ≡ Err Deep
  front_deep bytes more e = let t = behind_deep inner (behind_first s bytes) e in rw (opens_stays s t.0 bytes more t.1 t.2) ((rows t.0).deep t.1 more t.3)

  filled : (f : Front) → Fills f → ((n : ℕ) (rest : List ℕ) → f ≡ Opens n rest → inner n (replicate n 0) ≡ Ok []) → behind inner f ≡ Ok []
  filled (Whole rest) z o = ap Ok z
  filled (Opens n rest) z o = rw z (o n rest refl)
  filled (Lacks n) z o = absurd z
  filled Wrong z o = absurd z

  front_zeros : (bytes : List ℕ) (k : ℕ) → front bytes ≡ Err (Missing k) → front (bytes ++ replicate k 0) ≡ Ok []
  front_zeros bytes k e = elim (behind_missing inner (behind_first s bytes) k e) [
    | inl h ↦ filled (behind_first s (bytes ++ replicate k 0)) (lacks_fills s k bytes h) (λ n rest. noughts n (bytes ++ replicate k 0) rest)
    | inr t ↦ rw (opens_stays s t.0 bytes (replicate k 0) t.1 t.2) ((rows t.0).zeros t.1 k t.3)
  ]

  followed : (f : Front) (k came : ℕ) (rest : List ℕ) → Follows k came f → behind inner f ≡ Ok rest → k + length rest ≤ came
  followed (Whole r) k came rest f e = let q : r ≡ rest = cc in let l = ap length q in omega arith
  followed (Opens n r) k came rest f e = let a = (rows n).takes r rest e in omega arith
  followed (Lacks n) k came rest f e = absurd (cc)
  followed Wrong k came rest f e = absurd f

  front_least : (bytes more rest : List ℕ) (k : ℕ) → front bytes ≡ Err (Missing k) → front (bytes ++ more) ≡ Ok rest → k + length rest ≤ length more
  front_least bytes more rest k e f = elim (behind_missing inner (behind_first s bytes) k e) [
    | inl h ↦ followed (behind_first s (bytes ++ more)) k (length more) rest (lacks_follows s k bytes more h) f
    | inr t ↦ (rows t.0).least t.1 more rest k t.3 (sym (rw (opens_stays s t.0 bytes more t.1 t.2) refl) ∙ f)
  ]

  pub front_steady : Steady 0 (λ bytes. behind inner (behind_first s bytes))
  front_steady = record { stays = front_stays; takes = front_takes; reserved = front_reserved; deep = front_deep; zeros = front_zeros; least = front_least }

none_steady : (n : ℕ) → Steady n (none n)
none_steady n = record {
  stays = λ bytes rest more e. absurd (cc);
  takes = λ bytes rest e. absurd (cc);
  reserved = λ bytes more e. absurd (cc);
  deep = λ bytes more e. refl;
  zeros = λ bytes k e. absurd (cc);
  least = λ bytes more rest k e f. absurd (cc);
}

flat_steady : (s : Shape) → Steady 0 (flat s)
flat_steady (Fixed kind n) = front_steady (Fixed kind n) none none_steady (λ m bytes rest e. absurd (content_never_opens n m bytes rest e))
flat_steady (Sized kind w extra) = front_steady (Sized kind w extra) none none_steady (λ m bytes rest e. absurd (content_never_opens (w + number w bytes + extra) m bytes rest e))
flat_steady (Holds container n) = none_steady 0
flat_steady (Counted container w) = none_steady 0
flat_steady Never = record {
  stays = λ bytes rest more e. absurd (cc);
  takes = λ bytes rest e. absurd (cc);
  reserved = λ bytes more e. refl;
  deep = λ bytes more e. absurd (cc);
  zeros = λ bytes k e. absurd (cc);
  least = λ bytes more rest k e f. absurd (cc);
}

-- an item: its first byte, and what stands behind it
module _ (read : List ℕ → Answer) (tail : ℕ → List ℕ → Answer) (none_yet : read [] ≡ Err (Missing 1)) (by_first : (byte : ℕ) (bytes : List ℕ) → read (byte ∷ bytes) ≡ tail byte bytes)
    (steady : (byte : ℕ) → Steady 0 (tail byte)) (nought : (bytes : List ℕ) → read (0 ∷ bytes) ≡ Ok bytes) where
  item_stays : (bytes rest more : List ℕ) → read bytes ≡ Ok rest → read (bytes ++ more) ≡ Ok (rest ++ more)
  item_stays [] rest more e = absurd (let q = sym none_yet ∙ e in cc)
  item_stays (byte ∷ bytes) rest more e = by_first byte (bytes ++ more) ∙ (steady byte).stays bytes rest more (sym (by_first byte bytes) ∙ e)

  item_takes : (bytes rest : List ℕ) → read bytes ≡ Ok rest → 1 + length rest ≤ length bytes
  item_takes [] rest e = absurd (let q = sym none_yet ∙ e in cc)
  item_takes (byte ∷ bytes) rest e = let a = (steady byte).takes bytes rest (sym (by_first byte bytes) ∙ e) in omega arith

  item_reserved : (bytes more : List ℕ) → read bytes ≡ Err Reserved → read (bytes ++ more) ≡ Err Reserved
  item_reserved [] more e = absurd (let q = sym none_yet ∙ e in cc)
  item_reserved (byte ∷ bytes) more e = by_first byte (bytes ++ more) ∙ (steady byte).reserved bytes more (sym (by_first byte bytes) ∙ e)

  item_deep : (bytes more : List ℕ) → read bytes ≡ Err Deep → read (bytes ++ more) ≡ Err Deep
  item_deep [] more e = absurd (let q = sym none_yet ∙ e in cc)
  item_deep (byte ∷ bytes) more e = by_first byte (bytes ++ more) ∙ (steady byte).deep bytes more (sym (by_first byte bytes) ∙ e)

  item_zeros : (bytes : List ℕ) (k : ℕ) → read bytes ≡ Err (Missing k) → read (bytes ++ replicate k 0) ≡ Ok []
  item_zeros [] k e = let f = sym none_yet ∙ e in let q : 1 ≡ k = cc in rw (← q) (nought [])
  item_zeros (byte ∷ bytes) k e = by_first byte (bytes ++ replicate k 0) ∙ (steady byte).zeros bytes k (sym (by_first byte bytes) ∙ e)

  item_least : (bytes more rest : List ℕ) (k : ℕ) → read bytes ≡ Err (Missing k) → read (bytes ++ more) ≡ Ok rest → k + length rest ≤ length more
  item_least [] more rest k e f = let g = sym none_yet ∙ e in let q : 1 ≡ k = cc in let a = item_takes more rest f in omega arith
  item_least (byte ∷ bytes) more rest k e f = (steady byte).least bytes more rest k (sym (by_first byte bytes) ∙ e) (sym (by_first byte (bytes ++ more)) ∙ f)

  pub item_steady : Steady 1 read
  item_steady = record { stays = item_stays; takes = item_takes; reserved = item_reserved; deep = item_deep; zeros = item_zeros; least = item_least }

-- a zero is an item
pub run_nought : (depth : ℕ) (bytes : List ℕ) → run depth (0 ∷ bytes) ≡ Ok bytes
unfolding run front_of shape_of
run_nought zero bytes = rw (content_there 0 bytes (omega arith)) refl
run_nought (suc depth) bytes = rw (content_there 0 bytes (omega arith)) refl

pub run_steady : (depth : ℕ) → Steady 1 (run depth)
unfolding run front_of
run_steady zero = item_steady (run 0) (λ byte. flat (shape_of byte)) refl (λ byte bytes. refl) (λ byte. flat_steady (shape_of byte)) (run_nought 0)
run_steady (suc depth) =
    let part = run depth in
    let rows = many_steady part (run_steady depth) (run_nought depth) in
    let noughts = many_noughts part (run_steady depth) (run_nought depth) in
    item_steady (run (suc depth)) (λ byte bytes. behind (many (run depth)) (behind_first (shape_of byte) bytes)) refl (λ byte bytes. refl)
    (λ byte. front_steady (shape_of byte) (many (run depth)) rows (λ n bytes rest e. noughts n)) (run_nought (suc depth))
