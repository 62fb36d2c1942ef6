-- Going over the pairs of a map, and keeping the last value of a name.
use Rattle.std.proofs.Common.{ℕ, ◌≡◌, ◌+◌, ◌<◌, ◌≤◌, List, [], ◌∷◌, ◌++◌, length, refl, ap, sym, subst, ◌∙◌, arith, append_assoc, Option, Some, None, Bor, IsSomeAnd}
use Rattle.std.specs.List.{AllByRecursion, flat_map}
use Rattle.std.proofs.lemmas.List.{append-nil, length-append}
use Rattle.msgpack_bytes.specs.Item.{IsItemWithin}
use Rattle.msgpack_bytes.specs.Kinds.{IsText}
use Rattle.msgpack_bytes.specs.Containers.{Pair, IsPairOf, pair_bytes}
use Rattle.msgpack_bytes.specs.Names.{IsNamed, HasNoKey, IsLastValue}

-- ---- lists of pairs

pub all_with : {X : Type 0} (P : X → Type 0) (xs : List X) (x : X) → AllByRecursion P xs → P x → AllByRecursion P (xs ++ x ∷ [])
all_with P [] x all p = (p, tt)
all_with P (y ∷ xs) x all p = (all.0, all_with P xs x all.1 p)

bytes_with : (pairs : List Pair) (pair : Pair) → flat_map pair_bytes (pairs ++ pair ∷ []) ≡ flat_map pair_bytes pairs ++ pair_bytes pair
bytes_with [] pair = append-nil (pair_bytes pair)
bytes_with (p ∷ pairs) pair = ap (λ (xs : List ℕ). pair_bytes p ++ xs) (bytes_with pairs pair) ∙ sym (append_assoc (pair_bytes p) (flat_map pair_bytes pairs) (pair_bytes pair))

-- where no key is the name, none in front of a part of the pairs is
pub lacks_at : (name : List ℕ) (before : List Pair) (pair : Pair) (after : List Pair) → HasNoKey name (before ++ pair ∷ after) → IsNamed name pair → ⊥
lacks_at name [] pair after l h = l.0 h
lacks_at name (p ∷ before) pair after l h = lacks_at name before pair after l.1 h

pub lasts_one : (name : List ℕ) (b c : List Pair) (p q : Pair) (d e : List Pair) → IsNamed name p → IsNamed name q → HasNoKey name d → HasNoKey name e → b ++ p ∷ d ≡ c ++ q ∷ e → p ≡ q
lasts_one name [] [] p q d e h k l m eq = cc
lasts_one name [] (x ∷ c) p q d e h k l m eq =
    let t : d ≡ c ++ q ∷ e = cc in
    absurd (lacks_at name c q e (subst (HasNoKey name) t l) k)
lasts_one name (x ∷ b) [] p q d e h k l m eq =
    let t : b ++ p ∷ d ≡ e = cc in
    absurd (lacks_at name b p d (subst (HasNoKey name) (sym t) m) h)
lasts_one name (x ∷ b) (y ∷ c) p q d e h k l m eq = lasts_one name b c p q d e h k l m (cc)

abbrev pub pair_of : List ℕ → List ℕ → Pair
pair_of key value = record { key = key; value = value }

-- the last value of a name is one
pub last_one : (name : List ℕ) (pairs : List Pair) (v w : List ℕ) → IsLastValue name pairs v → IsLastValue name pairs w → v ≡ w
last_one name pairs v w l m =
    ap (λ (p : Pair). p.value) (lasts_one name l.before m.before (pair_of l.key v) (pair_of m.key w) l.after m.after l.named m.named l.last m.last (sym l.whole ∙ m.whole))

-- ---- the last value so far

abbrev pub Found : List ℕ → List Pair → Option (Bor (List ℕ)) → Type 0
Found name pairs None = HasNoKey name pairs
Found name pairs (Some value) = IsLastValue name pairs value.now

pub found_here : (name : List ℕ) (pairs : List Pair) (key : List ℕ) (value : Bor (List ℕ)) → IsText key name → Found name (pairs ++ pair_of key value.now ∷ []) (Some value)
found_here name pairs key value named = record { before = pairs; key = key; after = []; named = named; last = tt; whole = refl }

pub found_before : (name : List ℕ) (pairs : List Pair) (pair : Pair) (last : Option (Bor (List ℕ))) → (IsNamed name pair → ⊥) → Found name pairs last → Found name (pairs ++ pair ∷ []) last
found_before name pairs pair None other found = all_with (λ (p : Pair). IsNamed name p → ⊥) pairs pair found other
found_before name pairs pair (Some value) other found = record {
  before = found.before;
  key = found.key;
  after = found.after ++ pair ∷ [];
  named = found.named;
  last = all_with (λ (p : Pair). IsNamed name p → ⊥) found.after pair found.last other;
  whole = ap (λ (ps : List Pair). ps ++ pair ∷ []) found.whole ∙ append_assoc found.before (pair_of found.key value.now ∷ found.after) (pair ∷ []);
}

-- ---- the walk

-- the pairs are those walked over and some ahead
abbrev pub Ahead : List Pair → List ℕ → List Pair → Type 0
Ahead before rest pairs = (after : List Pair) × (pairs ≡ before ++ after) × AllByRecursion (IsPairOf IsItemWithin) after × (rest ≡ flat_map pair_bytes after)

-- these bytes are the whole of so many pairs
pub record Spans (start : List ℕ) (count : ℕ) (pairs : List Pair) : Type 0 where
  pub each : AllByRecursion (IsPairOf IsItemWithin) pairs
  pub counted : length pairs ≡ count
  pub whole : start ≡ flat_map pair_bytes pairs

pub spans : (start : List ℕ) (count : ℕ) (pairs : List Pair) → AllByRecursion (IsPairOf IsItemWithin) pairs → (count ≡ length pairs) × (start ≡ flat_map pair_bytes pairs) → Spans start count pairs
spans start count pairs each s = record { each = each; counted = sym s.0; whole = s.1 }

-- n pairs lie between start and rest; whatever pairs start is, these are the first of them
pub record Walk (name start rest : List ℕ) (count n : ℕ) (last : Option (Bor (List ℕ))) : Type 0 where
  pub before : List Pair
  pub counted : length before ≡ n
  pub each : AllByRecursion (IsPairOf IsItemWithin) before
  pub whole : start ≡ flat_map pair_bytes before ++ rest
  pub found : Found name before last
  pub ahead : (pairs : List Pair) → Spans start count pairs → Ahead before rest pairs

pub walk_starts : (name start : List ℕ) (count : ℕ) → Walk name start start count 0 None
walk_starts name start count = record {
  before = [];
  counted = refl;
  each = tt;
  whole = refl;
  found = tt;
  ahead = λ pairs s. (pairs, refl, s.each, s.whole);
}

-- as the reader of one item says
abbrev pub Reads : List ℕ → List ℕ → List ℕ → Type 0
Reads bytes item behind = IsItemWithin item × (bytes ≡ item ++ behind)
    × ((front back : List ℕ) → IsItemWithin front → bytes ≡ front ++ back → (item ≡ front) × (behind ≡ back))

-- what is ahead begins with a pair, unless all are walked over
more_ahead : (before after pairs : List Pair) (count : ℕ) → pairs ≡ before ++ after → length pairs ≡ count → length before < count → after ≡ [] → ⊥
more_ahead before after pairs count e l h k = let le = ap length e in let lk = ap length k in omega (arith, length-append before after)

pub walk_on : (name start rest mid behind key value : List ℕ) (count n : ℕ) (last next : Option (Bor (List ℕ))) (w : Walk name start rest count n last)
    → n < count → Reads rest key mid → Reads mid value behind → Found name (w.before ++ pair_of key value ∷ []) next → Walk name start behind count (n + 1) next
walk_on name start rest mid behind key value count n last next w h k v found = record {
  before = w.before ++ pair_of key value ∷ [];
  counted = (let c = w.counted in omega (arith, length-append w.before (pair_of key value ∷ [])));
  each = all_with (IsPairOf IsItemWithin) w.before (pair_of key value) w.each (record { key = k.0; value = v.0 });
  whole = w.whole ∙ ap (λ (xs : List ℕ). flat_map pair_bytes w.before ++ xs) (k.1 ∙ ap (λ (xs : List ℕ). key ++ xs) v.1 ∙ sym (append_assoc key value behind))
      ∙ sym (append_assoc (flat_map pair_bytes w.before) (key ++ value) behind) ∙ ap (λ (xs : List ℕ). xs ++ behind) (sym (bytes_with w.before (pair_of key value)));
  found = found;
  ahead = λ pairs s. go pairs s (w.ahead pairs s).0 (w.ahead pairs s);
}
  where
    step : (pairs : List Pair) (p : Pair) (after : List Pair) → pairs ≡ w.before ++ p ∷ after → AllByRecursion (IsPairOf IsItemWithin) (p ∷ after) → rest ≡ flat_map pair_bytes (p ∷ after)
        → Ahead (w.before ++ pair_of key value ∷ []) behind pairs
    step pairs p after e a r =
        let first = k.2 p.key (p.value ++ flat_map pair_bytes after) a.0.key (r ∙ append_assoc p.key p.value (flat_map pair_bytes after)) in
        let second = v.2 p.value (flat_map pair_bytes after) a.0.value first.1 in
        let f = first.0 in
        let g = second.0 in
        let same : p ≡ pair_of key value = ap (λ (x : List ℕ). pair_of x p.value) (sym f) ∙ ap (λ (x : List ℕ). pair_of key x) (sym g) in
        (after, e ∙ ap (λ (x : Pair). w.before ++ x ∷ after) same ∙ sym (append_assoc w.before (pair_of key value ∷ []) after), a.1, second.1)

    go : (pairs : List Pair) → Spans start count pairs → (after : List Pair) → Ahead w.before rest pairs → Ahead (w.before ++ pair_of key value ∷ []) behind pairs
    go pairs s after a = by_cases pairs s a.0 a.1 a.2 a.3
      where
        by_cases : (pairs : List Pair) → Spans start count pairs → (after : List Pair) → pairs ≡ w.before ++ after → AllByRecursion (IsPairOf IsItemWithin) after → rest ≡ flat_map pair_bytes after
            → Ahead (w.before ++ pair_of key value ∷ []) behind pairs
        by_cases pairs s [] e x r = absurd (more_ahead w.before [] pairs count e s.counted (let c = w.counted in omega arith) refl)
        by_cases pairs s (p ∷ after) e x r = step pairs p after e x r

-- where a pair is ahead, its key is
pub key_ahead : (name start rest : List ℕ) (count n : ℕ) (last : Option (Bor (List ℕ))) (pairs : List Pair) → Walk name start rest count n last → n < count → Spans start count pairs
    → ((front back : List ℕ) → IsItemWithin front → rest ≡ front ++ back → ⊥) → ⊥
key_ahead name start rest count n last pairs w h s none = go (w.ahead pairs s).0 (w.ahead pairs s).1 (w.ahead pairs s).2 (w.ahead pairs s).3
  where
    go : (after : List Pair) → pairs ≡ w.before ++ after → AllByRecursion (IsPairOf IsItemWithin) after → rest ≡ flat_map pair_bytes after → ⊥
    go [] e a r = more_ahead w.before [] pairs count e s.counted (let c = w.counted in omega arith) refl
    go (p ∷ after) e a r = none p.key _ a.0.key (r ∙ append_assoc p.key p.value (flat_map pair_bytes after))

-- and behind its key its value
pub value_ahead : (name start rest mid key : List ℕ) (count n : ℕ) (last : Option (Bor (List ℕ))) (pairs : List Pair) → Walk name start rest count n last → n < count → Spans start count pairs
    → Reads rest key mid → ((front back : List ℕ) → IsItemWithin front → mid ≡ front ++ back → ⊥) → ⊥
value_ahead name start rest mid key count n last pairs w h s k none = go (w.ahead pairs s).0 (w.ahead pairs s).1 (w.ahead pairs s).2 (w.ahead pairs s).3
  where
    go : (after : List Pair) → pairs ≡ w.before ++ after → AllByRecursion (IsPairOf IsItemWithin) after → rest ≡ flat_map pair_bytes after → ⊥
    go [] e a r = more_ahead w.before [] pairs count e s.counted (let c = w.counted in omega arith) refl
    go (p ∷ after) e a r =
        none p.value _ a.0.value (k.2 p.key (p.value ++ flat_map pair_bytes after) a.0.key (r ∙ append_assoc p.key p.value (flat_map pair_bytes after))).1

-- at the end the pairs are those walked over, and nothing is left
pub walk_ends : (name start rest : List ℕ) (count n : ℕ) (last : Option (Bor (List ℕ))) (pairs : List Pair) (w : Walk name start rest count n last) → count ≤ n → Spans start count pairs
    → (pairs ≡ w.before) × (rest ≡ [])
walk_ends name start rest count n last pairs w h s = go (w.ahead pairs s).0 (w.ahead pairs s).1 (w.ahead pairs s).3
  where
    go : (after : List Pair) → pairs ≡ w.before ++ after → rest ≡ flat_map pair_bytes after → (pairs ≡ w.before) × (rest ≡ [])
    go [] e r = (e ∙ append-nil w.before, r)
    go (p ∷ after) e r =
        absurd (let le = ap length e in let c = w.counted in let d = s.counted in omega (arith, length-append w.before (p ∷ after)))

-- the value that was kept is the last one
pub kept : (name : List ℕ) (pairs : List Pair) (value : List ℕ) (last : Option (Bor (List ℕ))) → Found name pairs last → IsLastValue name pairs value → IsSomeAnd last (λ found. found.now ≡ value)
kept name pairs value None found is = absurd (lacks_at name is.before (pair_of is.key value) is.after (subst (HasNoKey name) is.whole found) is.named)
kept name pairs value (Some v) found is = last_one name pairs v.now value found is
