-- The lines in which something is broken, as a search goes through a list.
use Rattle.std.proofs.Common.{◌≡◌, ◌==◌, ℕ, ◌+◌, ◌<◌, ◌≤◌, Bool, true, false, cond, List, [], ◌∷◌, ◌++◌, Some, slice_get, length, refl, sym, ap, subst, ◌∙◌, arith, ◌⊎◌, inl, inr, ◌↔◌, IsTrue, Contains, Result, OnOk, Option, None, IsSome}
use Rattle.std.specs.Prelude.{is_some}
use Rattle.std.proofs.lemmas.Bool.{cases_lt, cases_eq, eqb-true}
use Rattle.std.proofs.lemmas.Option.{slice_get_within, same_Some}
use Rattle.std.proofs.lemmas.Result.{on_ok_weaker}
use Rattle.std.proofs.lemmas.List.Elements.{Contains-append_left, Contains-append_right, Contains-append_cases, Contains-push, Contains-push_cases}
use Rattle.std.specs.List.Sorted.{IsStrictlyIncreasing}
use Rattle.loss_rules.specs.Everywhere.{AreLines, plan_places, conf_places}
use Rattle.loss_rules.specs.Lines.{AddsLines, Adds, KeptInList, BrokenInList}

-- It is kept at each element before this place.
abbrev pub KeptBelow : {X : Type 0} → (ℕ → X → Type 0) → List X → ℕ → Type 0
KeptBelow {X} K xs n = (place : ℕ) (x : X) → place < n → slice_get xs place ≡ Some x → K place x

-- It is broken in this line at an element before this place.
abbrev pub BrokenBelow : {X : Type 0} → (ℕ → X → ℕ → Type 0) → List X → ℕ → ℕ → Type 0
BrokenBelow {X} B xs n line = (place : ℕ) × (x : X) × (place < n) × (slice_get xs place ≡ Some x) × B place x line

-- nothing is in no list
pub nothing_in : {X : Type 0} (x : X) → ¬ Contains [] x
nothing_in x (k, less, is) = omega arith

-- a number is in a list, or it isn't
pub contains_or_not : (xs : List ℕ) (n : ℕ) → Contains xs n ⊎ ¬ Contains xs n
contains_or_not [] n = inr (nothing_in n)
contains_or_not (x ∷ xs) n = elim (cases_eq x n) [
  | inl same ↦ inl (0, omega arith, same)
  | inr apart ↦ elim (contains_or_not xs n) [
    | inl later ↦ inl (Contains-append_right (x ∷ []) xs n later)
    | inr not ↦ inr (λ c. elim (Contains-append_cases (x ∷ []) xs n c) [
      | inl first ↦ elim (Contains-push_cases [] x n first) [ inl none ↦ nothing_in n none | inr same ↦ apart same ]
      | inr later ↦ not later
    ])
  ]
]

-- Lines that are added.

-- where there are none, nothing is added
pub added-none : (P : ℕ → Type 0) (xs : List ℕ) → ((line : ℕ) → ¬ P line) → AddsLines P xs xs
added-none P xs none line = (λ c. inl c, λ e. elim e [ inl old ↦ old | inr p ↦ absurd (none line p) ])

-- one line
pub added-one : (line : ℕ) (xs : List ℕ) → AddsLines (λ l. line ≡ l) xs (xs ++ line ∷ [])
added-one line xs l = (
  λ c. Contains-push_cases xs line l c,
  λ e. elim e [ inl old ↦ Contains-append_left xs (line ∷ []) l old | inr same ↦ subst (λ (x : ℕ). Contains (xs ++ line ∷ []) x) same (Contains-push xs line) ],
)

-- the lines of two lots, one after the other
pub added-joined : (P Q R : ℕ → Type 0) → ((line : ℕ) → R line → P line ⊎ Q line) → ((line : ℕ) → P line → R line) → ((line : ℕ) → Q line → R line) → (xs ys zs : List ℕ) → AddsLines P xs ys → AddsLines Q ys zs → AddsLines R xs zs
added-joined P Q R parts left right xs ys zs p q line = (
  λ c. elim ((q line).0 c) [
    | inl mid ↦ elim ((p line).0 mid) [ inl old ↦ inl old | inr early ↦ inr (left line early) ]
    | inr late ↦ inr (right line late)
  ],
  λ e. (q line).1 (elim e [
    | inl old ↦ inl ((p line).1 (inl old))
    | inr r ↦ elim (parts line r) [ inl early ↦ inl ((p line).1 (inr early)) | inr late ↦ inr late ]
  ]),
)

-- the same lines, said in other words
pub added-same : (P R : ℕ → Type 0) → ((line : ℕ) → R line → P line) → ((line : ℕ) → P line → R line) → (xs ys : List ℕ) → AddsLines P xs ys → AddsLines R xs ys
added-same P R back onward xs ys p line = (
  λ c. elim ((p line).0 c) [ inl old ↦ inl old | inr x ↦ inr (onward line x) ],
  λ e. (p line).1 (elim e [ inl old ↦ inl old | inr r ↦ inr (back line r) ]),
)

pub same_adds : (K L : Type 0) (B C : ℕ → Type 0) (xs ys : List ℕ) → (K → L) → ((line : ℕ) → B line → C line) → ((line : ℕ) → C line → B line) → Adds K B xs ys → Adds L C xs ys
same_adds K L B C xs ys k there back h = record {
  lines = added-same B C back there xs ys h.lines;
  decided = elim h.decided [ inl kept ↦ inl (k kept) | inr broken ↦ inr (broken.0, there broken.0 broken.1) ];
}

-- the lines of both
pub both_added : (K L : Type 0) (B C : ℕ → Type 0) (xs ys zs : List ℕ) → Adds K B xs ys → Adds L C ys zs → Adds (K × L) (λ line. B line ⊎ C line) xs zs
both_added K L B C xs ys zs h k = record {
  lines = added-joined B C (λ line. B line ⊎ C line) (λ line e. e) (λ line b. inl b) (λ line c. inr c) xs ys zs h.lines k.lines;
  decided = elim h.decided [
    | inl kept ↦ elim k.decided [ inl too ↦ inl (kept, too) | inr broken ↦ inr (broken.0, inr broken.1) ]
    | inr broken ↦ inr (broken.0, inl broken.1)
  ];
}

-- nothing is added of what is kept
pub kept_adds : (K : Type 0) (B : ℕ → Type 0) (xs : List ℕ) → K → ((line : ℕ) → ¬ B line) → Adds K B xs xs
kept_adds K B xs kept none = record { lines = added-none B xs none; decided = inl kept }

-- one thing, whose line is added unless it is kept
pub one_adds : (K : Type 0) (kept : Bool) (line : ℕ) (xs : List ℕ) → IsTrue kept ↔ K → Adds K (λ l. (line ≡ l) × ¬ K) xs (cond kept xs (xs ++ line ∷ []))
one_adds K true line xs h = kept_adds K (λ l. (line ≡ l) × ¬ K) xs (h.0 refl) (λ l broken. broken.1 (h.0 refl))
one_adds K false line xs h = record {
  lines = added-same (λ l. line ≡ l) (λ l. (line ≡ l) × ¬ K) (λ l b. b.0) (λ l same. (same, not)) xs (xs ++ line ∷ []) (added-one line xs);
  decided = inr (line, (refl, not));
}
  where
    not : ¬ K
    not k = let so : IsTrue false = h.1 k in absurd (cc)

-- a test for there being something
pub some_is_some : {X : Type 0} (o : Option X) (b : Bool) → b ≡ is_some o → IsTrue b ↔ IsSome o
some_is_some None b is = (λ t. (let so : IsTrue false = subst (λ (x : Bool). IsTrue x) is t in absurd (cc)), λ some. absurd (cc))
some_is_some (Some x) b is = (λ t. cc, λ some. rw is refl)

-- a line that is added unless all is kept there, as the call that adds it says
pub added_unless : {T E : Type 0} (r : Result T E) (K : Type 0) (kept : Bool) (line : ℕ) (xs ys : List ℕ) → IsTrue kept ↔ K → OnOk r (ys ≡ cond kept xs (xs ++ line ∷ []))
    → OnOk r (Adds K (λ l. (line ≡ l) × ¬ K) xs ys)
added_unless r K kept line xs ys iff = on_ok_weaker r (λ e. subst (λ (zs : List ℕ). Adds K (λ l. (line ≡ l) × ¬ K) xs zs) (sym e) (one_adds K kept line xs iff))

-- what is kept at one more element
pub kept_more : {X : Type 0} (K : ℕ → X → Type 0) (xs : List X) (n : ℕ) (x : X) → slice_get xs n ≡ Some x → KeptBelow K xs n → K n x → KeptBelow K xs (n + 1)
kept_more {X} K xs n x is before here place y less there = by (cases_lt place n)
  where
    by : (place < n) ⊎ (n ≤ place) → K place y
    by (inl early) = before place y early there
    by (inr past) =
        let same : n ≡ place = omega arith in
        let P : ℕ → Type 0 = λ p. K p y in
        let Q : X → Type 0 = λ z. K n z in
        subst P same (subst Q (same_Some x y (sym is ∙ (ap (slice_get xs) same ∙ there))) here)

module _ {X : Type 0} (K : ℕ → X → Type 0) (B : ℕ → X → ℕ → Type 0) (xs : List X) where
  -- before the first element
  pub none_added : (ls : List ℕ) → Adds (KeptBelow K xs 0) (BrokenBelow B xs 0) ls ls
  none_added ls = kept_adds (KeptBelow K xs 0) (BrokenBelow B xs 0) ls (λ place x less is. absurd (omega arith)) (λ line b. let less : b.0 < 0 = b.2 in absurd (omega arith))

  -- one more element
  pub one_more : (n : ℕ) (x : X) (ls ms ns : List ℕ) → slice_get xs n ≡ Some x → Adds (KeptBelow K xs n) (BrokenBelow B xs n) ls ms → Adds (K n x) (B n x) ms ns
      → Adds (KeptBelow K xs (n + 1)) (BrokenBelow B xs (n + 1)) ls ns
  one_more n x ls ms ns is h k = same_adds (KeptBelow K xs n × K n x) (KeptBelow K xs (n + 1)) (λ line. BrokenBelow B xs n line ⊎ B n x line) (BrokenBelow B xs (n + 1)) ls ns (λ both. kept_more K xs n x is both.0 both.1)
      (λ line e. elim e [ inl b ↦ (b.0, b.1, omega (arith, b.2), b.3, b.4) | inr b ↦ (n, x, omega arith, is, b) ]) (λ line b. parts line b (cases_lt b.0 n)) (both_added (KeptBelow K xs n) (K n x) (BrokenBelow B xs n) (B n x) ls ms ns h k)
    where
      parts : (line : ℕ) (b : BrokenBelow B xs (n + 1) line) → (b.0 < n) ⊎ (n ≤ b.0) → BrokenBelow B xs n line ⊎ B n x line
      parts line b (inl less) = inl (b.0, b.1, less, b.3, b.4)
      parts line b (inr past) =
          let same : b.0 ≡ n = omega (arith, b.2) in
          let P : ℕ → Type 0 = λ p. B p b.1 line in
          let Q : X → Type 0 = λ z. B n z line in
          inr (subst Q (same_Some b.1 x (sym b.3 ∙ (ap (slice_get xs) same ∙ is))) (subst P same b.4))

  -- all were looked at
  pub all_of : (n : ℕ) (ls ms : List ℕ) → length xs ≤ n → Adds (KeptBelow K xs n) (BrokenBelow B xs n) ls ms → Adds (KeptInList K xs) (BrokenInList B xs) ls ms
  all_of n ls ms end h = same_adds (KeptBelow K xs n) (KeptInList K xs) (BrokenBelow B xs n) (BrokenInList B xs) ls ms (λ kept place x is. let within : place < length xs = slice_get_within xs place x is in kept place x (omega arith) is)
      (λ line b. (b.0, b.1, b.3, b.4)) (λ line b. let within : b.0 < length xs = slice_get_within xs b.0 b.1 b.2 in (b.0, b.1, omega arith, b.2, b.3)) h

-- Lines in their order.

-- the lines that were added to none, put in order
pub lines_are : (B : ℕ → Type 0) (ls ms : List ℕ) → AddsLines B [] ls → IsStrictlyIncreasing ms → ((line : ℕ) → Contains ms line ↔ Contains ls line) → AreLines B ms
lines_are B ls ms added rise same = record {
  rise = rise;
  exact = λ line. (
    λ c. elim ((added line).0 ((same line).0 c)) [ inl old ↦ absurd (nothing_in line old) | inr b ↦ b ],
    λ b. (same line).1 ((added line).1 (inr b)),
  );
}

-- where no line is broken, all is kept
pub kept_are : (K : Type 0) (B : ℕ → Type 0) (ls : List ℕ) → K ⊎ ((line : ℕ) × B line) → AreLines B ls → ls ≡ [] → K
kept_are K B ls decided are none = elim decided [
  | inl kept ↦ kept
  | inr broken ↦ absurd (nothing_in broken.0 (subst (λ (xs : List ℕ). Contains xs broken.0) none ((are.exact broken.0).1 broken.1)))
]

-- the same lines, said in other words
pub same_lines : (B C : ℕ → Type 0) (ls : List ℕ) → ((line : ℕ) → B line → C line) → ((line : ℕ) → C line → B line) → AreLines B ls → AreLines C ls
same_lines B C ls there back are = record { rise = are.rise; exact = λ line. (λ c. there line ((are.exact line).0 c), λ c. (are.exact line).1 (back line c)) }

-- where there are no places there are no lines
pub no_plan_lines : (ls : List ℕ) → plan_places ls ≡ [] → ls ≡ []
no_plan_lines [] none = refl
no_plan_lines (l ∷ ls) none = absurd (cc)

pub no_conf_lines : (relay : ℕ) (ls : List ℕ) → conf_places relay ls ≡ [] → ls ≡ []
no_conf_lines relay [] none = refl
no_conf_lines relay (l ∷ ls) none = absurd (cc)

-- where all is kept just where nothing is broken, there are no lines just where all is kept
pub none_kept : (K : Type 0) (B : ℕ → Type 0) (ls : List ℕ) → (ls ≡ [] → K) → AreLines B ls → ((line : ℕ) → B line → ¬ K) → K → ls ≡ []
none_kept K B [] kept are broken k = refl
none_kept K B (l ∷ ls) kept are broken k = absurd (broken l ((are.exact l).0 (0, omega arith, refl)) k)

-- where there are no lines, nothing is broken
pub none_broken : (B : ℕ → Type 0) → AreLines B [] → (line : ℕ) → ¬ B line
none_broken B are line b = nothing_in line ((are.exact line).1 b)

-- a test for there being no lines
pub is_empty_iff : (K : Type 0) (B : ℕ → Type 0) (ls : List ℕ) (count : ℕ) (b : Bool) → count ≡ length ls → b ≡ (count == 0) → (ls ≡ [] → K) → AreLines B ls → ((line : ℕ) → B line → ¬ K) → IsTrue b ↔ K
is_empty_iff K B ls count b size is kept are broken = (λ t. kept (empty ls (sym (is ∙ ap (λ n. n == 0) size) ∙ t)), λ k. is ∙ (ap (λ n. n == 0) size ∙ full ls (none_kept K B ls kept are broken k)))
  where
    empty : (xs : List ℕ) → (length xs == 0) ≡ true → xs ≡ []
    empty [] e = refl
    empty (x ∷ xs) e = (let none : length (x ∷ xs) ≡ 0 = eqb-true (length (x ∷ xs)) 0 e in absurd (omega (arith, none)))

    full : (xs : List ℕ) → xs ≡ [] → (length xs == 0) ≡ true
    full xs e = rw e refl
