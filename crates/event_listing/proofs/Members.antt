-- Values that are written one behind another.
use Rattle.std.proofs.Common.{ℕ, zero, ◌≡◌, ◌-◌, ◌*◌, ◌+◌, ◌<◌, ◌≤◌, List, [], ◌∷◌, ◌++◌, length, Result, Ok, Err, OnOk, refl, ap, sym, subst, ◌∙◌, arith, append_assoc}
use Rattle.std.proofs.lemmas.List.{append-nil}
use Rattle.std.specs.List.{AllByRecursion}
use Rattle.json.specs.Token.{Token, begin_object, end_object, begin_array, end_array, key}
use Rattle.json.specs.Written.{Written}
use Rattle.msgpack_bytes.specs.Containers.{Pair, pair_items, IsMap}
use Rattle.event_modes.specs.Rows.{items_of}
use Rattle.event_modes.proofs.Counted.{no_items}
use Rattle.event_listing.specs.Json.{AreJson, AreMembers, ArePairs, IsMapJson, IsName, Object, Pairs}
use Rattle.event_listing.specs.Walking.{pairs_from, pairs_of, Adds, IsMapOf, Object as ObjectOf, Pairs as PairsOf}
use Rattle.event_listing.proofs.Naming.{none_left}

-- what are the values of the items left, behind those so far, are those of all
abbrev pub GoesOn : {X : Type 0} → (List X → List Token → Type 0) → List X → List X → List Token → Type 0
GoesOn Are all left values = (more : List Token) → Are left more → Are all (values ++ more)

pub goes_from : {X : Type 0} (Are : List X → List Token → Type 0) (all : List X) → GoesOn Are all all []
goes_from Are all more are = are

-- a value more
pub value_more : (Is : List ℕ → List Token → Type 0) (all left others : List (List ℕ)) (item : List ℕ) (values ts : List Token) → left ≡ item ∷ others → Is item ts → GoesOn (AreJson Is) all left values
    → GoesOn (AreJson Is) all others (values ++ ts)
value_more Is all left others item values ts e is goes more are =
    subst (AreJson Is all) (sym (append_assoc values ts more)) (goes (ts ++ more) (subst (λ ys. AreJson Is ys (ts ++ more)) (sym e) (ts, more, is, are, refl)))

-- a member more
pub member_more : (Is : List ℕ → List Token → Type 0) (all left others : List Pair) (pair : Pair) (name : List ℕ) (values ts : List Token) → left ≡ pair ∷ others → IsName pair.key name → Is pair.value ts
    → GoesOn (AreMembers Is) all left values → GoesOn (AreMembers Is) all others (values ++ key name ∷ ts)
member_more Is all left others pair name values ts e named is goes more are =
    subst (AreMembers Is all) (sym (append_assoc values (key name ∷ ts) more))
    (goes (key name ∷ (ts ++ more)) (subst (λ ys. AreMembers Is ys (key name ∷ (ts ++ more))) (sym e) (name, ts, more, named, is, are, refl)))

-- a pair more
pub pair_more : (Is : List ℕ → List Token → Type 0) (all left others : List Pair) (pair : Pair) (values first second : List Token) → left ≡ pair ∷ others → Is pair.key first → Is pair.value second
    → GoesOn (ArePairs Is) all left values → GoesOn (ArePairs Is) all others (values ++ begin_array ∷ (first ++ (second ++ end_array ∷ [])))
pair_more Is all left others pair values first second e key_is value_is goes more are =
    let whole = begin_array ∷ (first ++ (second ++ end_array ∷ more)) in
    let same : (begin_array ∷ (first ++ (second ++ end_array ∷ []))) ++ more ≡ whole =
    ap (λ z. begin_array ∷ z) (append_assoc first (second ++ end_array ∷ []) more ∙ ap (λ z. first ++ z) (append_assoc second (end_array ∷ []) more)) in
    subst (ArePairs Is all) (sym (append_assoc values (begin_array ∷ (first ++ (second ++ end_array ∷ []))) more ∙ ap (λ z. values ++ z) same))
    (goes whole (subst (λ ys. ArePairs Is ys whole) (sym e) (first, second, more, key_is, value_is, are, refl)))

-- none is left
pub goes_to : {X : Type 0} (Are : List X → List Token → Type 0) (all left : List X) (values : List Token) → left ≡ [] → Are [] [] → GoesOn Are all left values → Are all values
goes_to Are all left values e none goes = subst (Are all) (append-nil values) (goes [] (subst (λ ys. Are ys []) (sym e) none))

pub no_items_left : (n : ℕ) (bytes : List ℕ) → n ≤ 0 → items_of n bytes ≡ []
no_items_left n bytes h = let z : n ≡ 0 = omega arith in ap (λ (k : ℕ). items_of k bytes) z ∙ no_items bytes

-- pairs as the items of a map, and these as pairs
pub paired : (pairs : List Pair) → pairs_from (pair_items pairs) ≡ pairs
paired [] = refl
paired (pair ∷ pairs) = ap (λ (ps : List Pair). pair ∷ ps) (paired pairs)

-- tokens behind some, behind others
pub behind_all : (old front values more now : List Token) → now ≡ (old ++ (front ++ values)) ++ more → now ≡ old ++ (front ++ (values ++ more))
behind_all old front values more now e = e ∙ append_assoc old (front ++ values) more ∙ ap (λ z. old ++ z) (append_assoc front values more)

-- the last token behind them
pub ended : {E : Type 0} (r : Result (Unit {0}) E) (Q : List Token → Type 0) (old mid new : Written) (front values : List Token) (end : Token) → mid.tokens ≡ old.tokens ++ (front ++ values) → mid.before ≡ old.before
    → OnOk r (new.tokens ≡ mid.tokens ++ end ∷ []) → new.before ≡ mid.before → Q (front ++ (values ++ end ∷ [])) → OnOk r (Adds Q old new)
ended (Ok u) Q old mid new front values end t b last still q = record {
  tokens = front ++ (values ++ end ∷ []);
  is = q;
  appends = record { before = still ∙ b; tokens_are = behind_all old.tokens front values (end ∷ []) new.tokens (last ∙ ap (λ z. z ++ end ∷ []) t) };
}
ended (Err e) Q old mid new front values end t b last still q = tt

-- the value of a map whose pairs are known
pub map_json : (Is : List ℕ → List Token → Type 0) (pairs : List Pair) (item : List ℕ) (ts : List Token) → IsMap pairs item → IsMapOf Is pairs ts → IsMapJson Is item ts
map_json Is pairs item ts map (ObjectOf o) = Object pairs o.members map o.each o.whole
map_json Is pairs item ts map (PairsOf none p) = Pairs pairs p.values map none p.each p.whole

-- the pairs of a map are those that its items are
pub map_pairs_are : (item inner : List ℕ) (count : ℕ) (pairs : List Pair) → IsMap pairs item → items_of (2 * count) inner ≡ pair_items pairs → IsMap (pairs_of count inner) item
map_pairs_are item inner count pairs map e = subst (λ ps. IsMap ps item) (sym (ap pairs_from e ∙ paired pairs)) map
