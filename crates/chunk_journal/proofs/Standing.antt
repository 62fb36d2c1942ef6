-- Records of a generation, one more and one Seal.
use Rattle.std.proofs.Common.{◌≡◌, ℕ, ◌≤◌, Bool, true, false, List, [], ◌∷◌, ◌++◌, length, refl, sym, ap, subst, ◌∙◌, append_assoc, arith}
use Rattle.std.proofs.lemmas.List.{length-append}
use Rattle.buffer_state.specs.State.{State, empty}
use Rattle.chunk_journal.specs.Records.{Record, Seal, Append, Queue, Purge}
use Rattle.chunk_journal.specs.Meaning.{Tells, Allows, after, after_all, Each, Leads, IsMisplaced}
use Rattle.chunk_journal.specs.Replaying.{CanFollow, sealed_after, Stands}

-- ---- one record more

pub after_more : (s : State) (items more : List Record) → after_all s (items ++ more) ≡ after_all (after_all s items) more
after_more s [] more = refl
after_more s (x ∷ items) more = after_more (after s x) items more

pub each_more : (Fits : State → Record → Type 0) (s : State) (items more : List Record) → Each Fits s items → Each Fits (after_all s items) more → Each Fits s (items ++ more)
each_more Fits s [] more a b = b
each_more Fits s (x ∷ items) more a b = (a.0, each_more Fits (after s x) items more a.1 b)

pub each_rest : (Fits : State → Record → Type 0) (s : State) (items more : List Record) → Each Fits s (items ++ more) → Each Fits (after_all s items) more
each_rest Fits s [] more a = a
each_rest Fits s (x ∷ items) more a = each_rest Fits (after s x) items more a.1

pub each_last : (Fits : State → Record → Type 0) (s : State) (items : List Record) (item : Record) → Each Fits s (items ++ item ∷ []) → Fits (after_all s items) item
each_last Fits s items item a = (each_rest Fits s items (item ∷ []) a).0

-- ---- one Seal

first_is : (x y : Record) (xs ys : List Record) → x ∷ xs ≡ y ∷ ys → (x ≡ y) × (xs ≡ ys)
first_is x y xs ys e = (cc, cc)

-- among the records before a Seal there is none
pub no_seal : (s : State) (told more : List Record) (n : ℕ) → Each Tells s (told ++ Seal n ∷ more) → ⊥
no_seal s told more n a = (each_rest Tells s told (Seal n ∷ more) a).0

-- so a generation has one place for its Seal
pub one_seal : (s : State) (told told' : List Record) (n n' : ℕ) (steps steps' : List Record) → Each Tells s told → Each Tells s told'
    → told ++ Seal n ∷ steps ≡ told' ++ Seal n' ∷ steps' → (told ≡ told') × (Seal n ≡ Seal n') × (steps ≡ steps')
one_seal s [] [] n n' steps steps' a b e = let f = first_is (Seal n) (Seal n') steps steps' e in (refl, f.0, f.1)
one_seal s [] (y ∷ told') n n' steps steps' a b e =
    let f = first_is (Seal n) y steps (told' ++ Seal n' ∷ steps') e in
    absurd (subst (Tells s) (sym f.0) b.0)
one_seal s (x ∷ told) [] n n' steps steps' a b e =
    let f = first_is x (Seal n') (told ++ Seal n ∷ steps) steps' e in
    absurd (subst (Tells s) f.0 a.0)
one_seal s (x ∷ told) (y ∷ told') n n' steps steps' a b e =
    let f = first_is x y (told ++ Seal n ∷ steps) (told' ++ Seal n' ∷ steps') e in
    let r = one_seal (after s x) told told' n n' steps steps' a.1 (subst (λ (z : Record). Each Tells (after s z) told') (sym f.0) b.1) f.1 in
    let g = f.0 in
    let h = r.0 in
    (cc, r.1, r.2)

not_empty : (told steps : List Record) (n : ℕ) → [] ≡ told ++ Seal n ∷ steps → ⊥
not_empty told steps n e = absurd (omega (arith, ap length e, length-append told (Seal n ∷ steps)))

-- where a Seal comes in as the last record, it is that one
pub last_seal : (s : State) (items told : List Record) (item : Record) (n : ℕ) (steps : List Record) → Each Tells s items → Each Tells s told
    → items ++ item ∷ [] ≡ told ++ Seal n ∷ steps → (items ≡ told) × (item ≡ Seal n)
last_seal s [] [] item n steps a b e = let f = first_is item (Seal n) [] steps e in (refl, f.0)
last_seal s [] (y ∷ told) item n steps a b e =
    let f = first_is item y [] (told ++ Seal n ∷ steps) e in
    absurd (not_empty told steps n f.1)
last_seal s (x ∷ items) [] item n steps a b e =
    let f = first_is x (Seal n) (items ++ item ∷ []) steps e in
    absurd (subst (Tells s) f.0 a.0)
last_seal s (x ∷ items) (y ∷ told) item n steps a b e =
    let f = first_is x y (items ++ item ∷ []) (told ++ Seal n ∷ steps) e in
    let r = last_seal (after s x) items told item n steps a.1 (subst (λ (z : Record). Each Tells (after s z) told) (sym f.0) b.1) f.1 in
    let g = f.0 in
    let h = r.0 in
    (cc, r.1)

-- ---- how far a replay has come

-- the state behind the Seal
abbrev pub started : List Record → ℕ → State
started told next = after (after_all empty told) (Seal next)

unsealed_more : (records : List Record) (state : State) (item : Record) → Stands false records state → Tells state item → Stands false (records ++ item ∷ []) (after state item)
unsealed_more records state item st f = (
  each_more Tells empty records (item ∷ []) st.0 (subst (λ (z : State). Tells z item) st.1 f, tt),
  ap (λ (z : State). after z item) st.1 ∙ sym (after_more empty records (item ∷ [])),
)

leads_more : (records : List Record) (state : State) (item : Record) → Leads records state → Allows state item → Leads (records ++ item ∷ []) (after state item)
leads_more records state item l f = record {
  told = l.told;
  next = l.next;
  steps = l.steps ++ item ∷ [];
  tells = l.tells;
  greater = l.greater;
  allowed = each_more Allows (started l.told l.next) l.steps (item ∷ []) l.allowed (subst (λ (z : State). Allows z item) l.here f, tt);
  whole = ap (λ (z : List Record). z ++ item ∷ []) l.whole ∙ append_assoc l.told (Seal l.next ∷ l.steps) (item ∷ []);
  here = ap (λ (z : State). after z item) l.here ∙ sym (after_more (started l.told l.next) l.steps (item ∷ []));
}

seal_more : (records : List Record) (state : State) (next : ℕ) → Stands false records state → state.next ≤ next → Leads (records ++ Seal next ∷ []) (after state (Seal next))
seal_more records state next st le = record {
  told = records;
  next = next;
  steps = [];
  tells = st.0;
  greater = subst (λ (z : State). z.next ≤ next) st.1 le;
  allowed = tt;
  whole = refl;
  here = ap (λ (z : State). after z (Seal next)) st.1;
}

-- one record further
pub stands_more : (is_sealed : Bool) (records : List Record) (state : State) (item : Record) → Stands is_sealed records state → CanFollow is_sealed state item
    → Stands (sealed_after is_sealed item) (records ++ item ∷ []) (after state item)
stands_more false records state (Seal next) st f = seal_more records state next st f
stands_more false records state (Append serial tag entries) st f = unsealed_more records state (Append serial tag entries) st f
stands_more false records state (Queue serial) st f = unsealed_more records state (Queue serial) st f
stands_more false records state (Purge serial) st f = absurd f
stands_more true records state (Seal next) st f = absurd f
stands_more true records state (Append serial tag entries) st f = leads_more records state (Append serial tag entries) st f
stands_more true records state (Queue serial) st f = leads_more records state (Queue serial) st f
stands_more true records state (Purge serial) st f = leads_more records state (Purge serial) st f

tells_follows : (state : State) (item : Record) → Tells state item → CanFollow false state item
tells_follows state (Seal next) t = absurd t
tells_follows state (Append serial tag entries) t = t
tells_follows state (Queue serial) t = t
tells_follows state (Purge serial) t = absurd t

-- a record that can't follow makes all of them neither
pub misplaced : (is_sealed : Bool) (records : List Record) (state : State) (item : Record) → Stands is_sealed records state → (CanFollow is_sealed state item → ⊥)
    → IsMisplaced (records ++ item ∷ [])
misplaced false records state item st none = record {
  not_unsealed = λ e. none (tells_follows state item (subst (λ (z : State). Tells z item) (sym st.1) (each_last Tells empty records item e)));
  not_sealed = λ other l.
      let s = last_seal empty records l.told item l.next l.steps st.0 l.tells l.whole in
      let g : (after_all empty records).next ≤ l.next = subst (λ (z : List Record). (after_all empty z).next ≤ l.next) (sym s.0) l.greater in
      none (subst (λ (z : Record). CanFollow false state z) (sym s.1) (subst (λ (z : State). z.next ≤ l.next) (sym st.1) g));
}
misplaced true records state item l none = record {
  not_unsealed = λ e. no_seal empty l.told (l.steps ++ item ∷ []) l.next (subst (Each Tells empty) (ap (λ (z : List Record). z ++ item ∷ []) l.whole ∙ append_assoc l.told (Seal l.next ∷ l.steps) (item ∷ [])) e);
  not_sealed = λ other m.
      let e = sym (append_assoc l.told (Seal l.next ∷ l.steps) (item ∷ [])) ∙ sym (ap (λ (z : List Record). z ++ item ∷ []) l.whole) ∙ m.whole in
      let o = one_seal empty l.told m.told l.next m.next (l.steps ++ item ∷ []) m.steps l.tells m.tells e in
      let a : Each Allows (after (after_all empty m.told) (Seal m.next)) (l.steps ++ item ∷ []) = subst (Each Allows (after (after_all empty m.told) (Seal m.next))) (sym o.2) m.allowed in
      let b : Each Allows (after (after_all empty l.told) (Seal m.next)) (l.steps ++ item ∷ []) = subst (λ (z : List Record). Each Allows (after (after_all empty z) (Seal m.next)) (l.steps ++ item ∷ [])) (sym o.0) a in
      let c : Each Allows (after (after_all empty l.told) (Seal l.next)) (l.steps ++ item ∷ []) = subst (λ (z : Record). Each Allows (after (after_all empty l.told) z) (l.steps ++ item ∷ [])) (sym o.1) b in
      none (subst (λ (z : State). Allows z item) (sym l.here) (each_last Allows (after (after_all empty l.told) (Seal l.next)) l.steps item c));
}
