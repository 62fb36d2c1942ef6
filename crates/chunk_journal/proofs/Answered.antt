-- A journal has one answer, and a beginning of it means a beginning of its records.
use Rattle.std.proofs.Common.{◌≡◌, ℕ, suc, zero, ◌+◌, ◌≤◌, List, [], ◌∷◌, ◌++◌, length, take, refl, sym, ap, subst, ◌∙◌, append_assoc, arith, inl, inr, ◌⊎◌}
use Rattle.std.specs.List.{AllByRecursion}
use Rattle.std.proofs.lemmas.List.{take-append-le}
use Rattle.msgpack_bytes.specs.Laws.{HasOneFront}
use Rattle.buffer_state.specs.State.{State, empty}
use Rattle.buffer_state.specs.Steps.{settled}
use Rattle.chunk_journal.specs.Records.{Record, Seal, record_bytes, IsRecord}
use Rattle.chunk_journal.specs.Journal.{IsTorn, IsBad, IsJournal, journal_bytes}
use Rattle.chunk_journal.specs.Meaning.{Tells, Allows, after, after_all, Each, IsUnsealed, Leads, IsMisplaced, Answer, Means, NotSealed, BadRecord, IsReplayed, EndsUnsealed, IsDamaged, IsAnswer}
use Rattle.chunk_journal.proofs.Standing.{no_seal, one_seal, started}
use Rattle.chunk_journal.proofs.Unique.{same_start, same_journal, not_torn}

-- ---- a beginning of the records

each_take : (Fits : State → Record → Type 0) (s : State) (items : List Record) (k : ℕ) → Each Fits s items → Each Fits s (take k items)
each_take Fits s items zero a = tt
each_take Fits s [] (suc k) a = tt
each_take Fits s (x ∷ items) (suc k) a = (a.0, each_take Fits (after s x) items k a.1)

take_behind : (told : List Record) (x : Record) (steps : List Record) (j : ℕ) → take (length told + 1 + j) (told ++ x ∷ steps) ≡ told ++ x ∷ take j steps
take_behind [] x steps j = by (1 + j) (omega arith)
  where
    by : (k : ℕ) → k ≡ suc j → take k (x ∷ steps) ≡ x ∷ take j steps
    by k e = ap (λ (z : ℕ). take z (x ∷ steps)) e
take_behind (y ∷ told) x steps j =
    ap (λ (z : ℕ). take z (y ∷ (told ++ x ∷ steps))) (longer (length told) j) ∙ ap (λ (z : List Record). y ∷ z) (take_behind told x steps j)
  where
    longer : (n j : ℕ) → suc n + 1 + j ≡ suc (n + 1 + j)
    longer n j = omega arith

pub cuts_before : (records : List Record) (state : State) (l : Leads records state) (k : ℕ) → k ≤ length l.told → IsUnsealed (take k records)
cuts_before records state l k le =
    subst IsUnsealed (sym (ap (take k) l.whole ∙ take-append-le k l.told (Seal l.next ∷ l.steps) le)) (each_take Tells empty l.told k l.tells)

pub cuts_behind : (records : List Record) (state : State) (l : Leads records state) (j : ℕ) → Leads (take (length l.told + 1 + j) records) (after_all (started l.told l.next) (take j l.steps))
cuts_behind records state l j = record {
  told = l.told;
  next = l.next;
  steps = take j l.steps;
  tells = l.tells;
  greater = l.greater;
  allowed = each_take Allows (started l.told l.next) l.steps j l.allowed;
  whole = ap (take (length l.told + 1 + j)) l.whole ∙ take_behind l.told (Seal l.next) l.steps j;
  here = refl;
}

pub each_front : (Fits : State → Record → Type 0) (s : State) (items more : List Record) → Each Fits s (items ++ more) → Each Fits s items
each_front Fits s [] more a = tt
each_front Fits s (x ∷ items) more a = (a.0, each_front Fits (after s x) items more a.1)

-- a front of a generation is before its Seal, or a generation
front_stands : (records more told : List Record) (n : ℕ) (steps : List Record) (s : State) → Each Tells s told → Each Allows (after (after_all s told) (Seal n)) steps
    → records ++ more ≡ told ++ Seal n ∷ steps → Each Tells s records ⊎ ((rest : List Record) × (records ≡ told ++ Seal n ∷ rest) × Each Allows (after (after_all s told) (Seal n)) rest)
front_stands [] more told n steps s a b e = inl tt
front_stands (x ∷ records) more [] n steps s a b e =
    let f = heads x (Seal n) (records ++ more) steps e in
    inr (records, ap (λ (z : Record). z ∷ records) f.0, each_front Allows (after s (Seal n)) records more (subst (Each Allows (after s (Seal n))) (sym f.1) b))
  where
    heads : (x y : Record) (xs ys : List Record) → x ∷ xs ≡ y ∷ ys → (x ≡ y) × (xs ≡ ys)
    heads x y xs ys e = (cc, cc)
front_stands (x ∷ records) more (y ∷ told) n steps s a b e =
    let f = heads x y (records ++ more) (told ++ Seal n ∷ steps) e in
    let r = front_stands records more told n steps (after s y) a.1 b f.1 in
    elim r [
      | inl t ↦ inl (subst (λ (z : Record). Tells s z × Each Tells (after s z) records) (sym f.0) (a.0, t))
      | inr t ↦ inr (t.0, both x y records (told ++ Seal n ∷ t.0) f.0 t.1, t.2)
    ]
  where
    heads : (x y : Record) (xs ys : List Record) → x ∷ xs ≡ y ∷ ys → (x ≡ y) × (xs ≡ ys)
    heads x y xs ys e = (cc, cc)

    both : (x y : Record) (xs ys : List Record) → x ≡ y → xs ≡ ys → x ∷ xs ≡ y ∷ ys
    both x y xs ys e f = cc

-- so it isn't misplaced
front_placed : (records more : List Record) (state : State) → Leads (records ++ more) state → IsMisplaced records → ⊥
front_placed records more state l wrong =
    elim (front_stands records more l.told l.next l.steps empty l.tells l.allowed l.whole) [
      | inl t ↦ wrong.not_unsealed t
      | inr t ↦ wrong.not_sealed (after_all (started l.told l.next) t.0)
          (record { told = l.told; next = l.next; steps = t.0; tells = l.tells; greater = l.greater; allowed = t.2; whole = t.1; here = refl })
    ]

-- ---- one answer

-- what is read of a journal is a front of it
front_of : HasOneFront → (some records : List Record) (end rest : List ℕ) → AllByRecursion IsRecord some → AllByRecursion IsRecord records → IsTorn rest
    → journal_bytes some ++ end ≡ journal_bytes records ++ rest → (more : List Record) × (records ≡ some ++ more) × AllByRecursion IsRecord more × (end ≡ journal_bytes more ++ rest)
front_of law [] records end rest a b torn e = (records, refl, b, e)
front_of law (x ∷ some) [] end rest a b torn e =
    absurd (not_torn x (journal_bytes some ++ end) rest a.0 (sym e ∙ append_assoc (record_bytes x) (journal_bytes some) end) torn)
front_of law (x ∷ some) (y ∷ records) end rest a b torn e =
    let f = same_start law x y (journal_bytes some ++ end) (journal_bytes records ++ rest) a.0 b.0
    (sym (append_assoc (record_bytes x) (journal_bytes some) end) ∙ e ∙ append_assoc (record_bytes y) (journal_bytes records) rest) in
    let r = front_of law some records end rest a.1 b.1 torn f.1 in
    (r.0, both y x records (some ++ r.0) (sym f.0) r.1, r.2, r.3)
  where
    both : (x y : Record) (xs ys : List Record) → x ≡ y → xs ≡ ys → x ∷ xs ≡ y ∷ ys
    both x y xs ys e f = cc

bad_rest : (end rest : List ℕ) (more : List Record) → AllByRecursion IsRecord more → IsTorn rest → end ≡ journal_bytes more ++ rest → IsBad end → ⊥
bad_rest end rest [] each torn e bad = bad.whole (subst IsTorn (sym e) torn)
bad_rest end rest (x ∷ more) each torn e bad = bad.none x (journal_bytes more ++ rest) each.0 (e ∙ append_assoc (record_bytes x) (journal_bytes more) rest)

not_damaged : HasOneFront → (bytes : List ℕ) (records : List Record) (rest : List ℕ) → IsJournal bytes records rest
    → ((some more : List Record) → records ≡ some ++ more → IsMisplaced some → ⊥) → IsDamaged bytes → ⊥
not_damaged law bytes records rest j placed d =
    let f = front_of law d.records records d.rest rest d.begins.each j.each j.torn (sym d.begins.whole ∙ j.whole) in
    elim d.wrong [
      | inl wrong ↦ placed d.records f.0 f.1 wrong
      | inr bad ↦ bad_rest d.rest rest f.0 f.2 j.torn f.3 bad
    ]

replayed_undamaged : HasOneFront → (bytes : List ℕ) (state : State) (used : ℕ) → IsReplayed bytes state used → IsDamaged bytes → ⊥
replayed_undamaged law bytes state used r d =
    not_damaged law bytes r.records r.rest r.journal (λ some more e wrong. front_placed some more r.generation.last (subst (λ (z : List Record). Leads z r.generation.last) e r.generation.leads) wrong) d

unsealed_undamaged : HasOneFront → (bytes : List ℕ) → EndsUnsealed bytes → IsDamaged bytes → ⊥
unsealed_undamaged law bytes r d =
    not_damaged law bytes r.records r.rest r.journal (λ some more e wrong. wrong.not_unsealed (each_front Tells empty some more (subst IsUnsealed e r.unsealed))) d

replayed_sealed : HasOneFront → (bytes : List ℕ) (state : State) (used : ℕ) → IsReplayed bytes state used → EndsUnsealed bytes → ⊥
replayed_sealed law bytes state used r u =
    let s = same_journal law bytes r.records u.records r.rest u.rest r.journal u.journal in
    let l = r.generation.leads in
    no_seal empty l.told l.steps l.next (subst (Each Tells empty) (sym s.0 ∙ l.whole) u.unsealed)

same_last : (records : List Record) (a b : State) → Leads records a → Leads records b → a ≡ b
same_last records a b l m =
    let o = one_seal empty l.told m.told l.next m.next l.steps m.steps l.tells m.tells (sym l.whole ∙ m.whole) in
    l.here ∙ same l.told m.told l.next m.next l.steps m.steps o.0 o.1 o.2 ∙ sym m.here
  where
    same : (t u : List Record) (n k : ℕ) (x y : List Record) → t ≡ u → Seal n ≡ Seal k → x ≡ y → after_all (started t n) x ≡ after_all (started u k) y
    same t u n k x y e f g = ap (λ (z : List Record). after_all (after (after_all empty z) (Seal n)) x) e ∙ ap (λ (z : Record). after_all (after (after_all empty u) z) x) f ∙ ap (after_all (started u k)) g

same_replay : HasOneFront → (bytes : List ℕ) (a b : State) (n m : ℕ) → IsReplayed bytes a n → IsReplayed bytes b m → (a ≡ b) × (n ≡ m)
same_replay law bytes a b n m r q =
    let s = same_journal law bytes r.records q.records r.rest q.rest r.journal q.journal in
    let l = same_last r.records r.generation.last q.generation.last r.generation.leads (subst (λ (z : List Record). Leads z q.generation.last) (sym s.0) q.generation.leads) in
    (r.generation.means ∙ ap settled l ∙ sym q.generation.means, r.ends ∙ ap (λ (z : List Record). length (journal_bytes z)) s.0 ∙ sym q.ends)

pub one_answer : HasOneFront → (bytes : List ℕ) (one other : Answer) → IsAnswer bytes one → IsAnswer bytes other → one ≡ other
one_answer law bytes (Means a n) (Means b m) p q = let s = same_replay law bytes a b n m p q in let x = s.0 in let y = s.1 in cc
one_answer law bytes (Means a n) NotSealed p q = absurd (replayed_sealed law bytes a n p q)
one_answer law bytes (Means a n) BadRecord p q = absurd (replayed_undamaged law bytes a n p q)
one_answer law bytes NotSealed (Means b m) p q = absurd (replayed_sealed law bytes b m q p)
one_answer law bytes NotSealed NotSealed p q = refl
one_answer law bytes NotSealed BadRecord p q = absurd (unsealed_undamaged law bytes p q)
one_answer law bytes BadRecord (Means b m) p q = absurd (replayed_undamaged law bytes b m q p)
one_answer law bytes BadRecord NotSealed p q = absurd (unsealed_undamaged law bytes q p)
one_answer law bytes BadRecord BadRecord p q = refl
