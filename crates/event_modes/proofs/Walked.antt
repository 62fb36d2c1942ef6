-- Walking over the pairs of a map.
use Rattle.std.proofs.Common.{ℕ, ◌≡◌, ◌+◌, List, [], ◌∷◌, ◌++◌, length, arith, refl, ap, sym, subst, ◌∙◌, Option, Some, None, append_assoc}
use Rattle.std.specs.List.{AllByRecursion, concat}
use Rattle.std.proofs.lemmas.List.{append-nil, length-append}
use Rattle.std.specs.Prelude.{MatchOption}
use Rattle.event_modes.specs.declared.option.LastValue.{LastValue}
use Rattle.event_modes.specs.Lasts.{IsLast}
use Rattle.msgpack_bytes.specs.Item.{IsItemWithin}
use Rattle.msgpack_bytes.specs.Kinds.{IsText}
use Rattle.event_modes.specs.declared.fault.ModeFault.{ModeFault}
use Rattle.msgpack_bytes.specs.Containers.{Pair, pair_items}
use Rattle.msgpack_bytes.specs.Names.{IsNamed, HasNoKey, IsLastValue}
use Rattle.event_modes.specs.Options.{IsFit}
use Rattle.event_modes.specs.Pairs.{ArePairs, pair_of}
use Rattle.event_modes.specs.Faults.{FirstBad, PairFault}
use Rattle.event_modes.proofs.Firsts.{bad_behind}
use Rattle.msgpack_bytes.proofs.Walk.{all_with}
use Rattle.event_modes.proofs.Begins.{same_pair, pairs_back}

-- where the walk is: the pairs before, and those that are left
pub record Walk (all left : List (List ℕ)) : Type 0 where
  pub before : List Pair
  pub after : List Pair
  pub whole : all ≡ pair_items (before ++ after)
  pub rest : left ≡ pair_items after
  pub texts : AllByRecursion IsItemWithin left

pub start : (all : List (List ℕ)) → ArePairs all → Walk all all
start all a = record { before = []; after = a.pairs; whole = a.whole; rest = a.whole; texts = a.texts }

-- a key has a value behind it
pub no_odd : (all left : List (List ℕ)) (key : List ℕ) → Walk all left → left ≡ key ∷ [] → ⊥
no_odd all left key w e = odd w.after (sym w.rest ∙ e)
  where
    odd : (ps : List Pair) → pair_items ps ≡ key ∷ [] → ⊥
    odd [] e = absurd cc
    odd (p ∷ ps) e = absurd cc

pub record Next (all left : List (List ℕ)) (walk : Walk all left) (key value : List ℕ) (others : List (List ℕ)) : Type 0 where
  pub walk_on : Walk all others
  pub before : walk_on.before ≡ walk.before ++ pair_of key value ∷ []
  pub at : walk.before ++ walk.after ≡ walk.before ++ pair_of key value ∷ walk_on.after

pub next : (all left : List (List ℕ)) (walk : Walk all left) (key value : List ℕ) (others : List (List ℕ)) → left ≡ key ∷ value ∷ others → Next all left walk key value others
next all left walk key value others e = on walk.after walk.rest walk.whole refl
  where
    on : (after : List Pair) → left ≡ pair_items after → all ≡ pair_items (walk.before ++ after) → walk.after ≡ after → Next all left walk key value others
    on [] r w s = absurd (let d = sym e ∙ r in cc)
    on (p ∷ ps) r w s =
        let d = sym e ∙ r in
        let k : key ≡ p.key = cc in
        let v : value ≡ p.value = cc in
        let o : others ≡ pair_items ps = cc in
        let same = same_pair (pair_of key value) p k v in
        let t : AllByRecursion IsItemWithin (key ∷ value ∷ others) = subst (AllByRecursion IsItemWithin) e walk.texts in
        let a : walk.before ++ p ∷ ps ≡ (walk.before ++ pair_of key value ∷ []) ++ ps = ap (λ (x : Pair). walk.before ++ x ∷ ps) (sym same) ∙ sym (append_assoc walk.before (pair_of key value ∷ []) ps) in
        record {
          walk_on = record { before = walk.before ++ pair_of key value ∷ []; after = ps; whole = w ∙ ap pair_items a; rest = o; texts = t.1.1 };
          before = refl;
          at = ap (λ (x : List Pair). walk.before ++ x) s ∙ ap (λ (x : Pair). walk.before ++ x ∷ ps) (sym same);
        }

-- where nothing is left all were before
pub walked : (all left : List (List ℕ)) (walk : Walk all left) (pairs : List Pair) → left ≡ [] → all ≡ pair_items pairs → walk.before ≡ pairs
walked all left walk pairs e a = done walk.after (sym walk.rest ∙ e) refl
  where
    done : (after : List Pair) → pair_items after ≡ [] → walk.after ≡ after → walk.before ≡ pairs
    done [] n s = sym (append-nil walk.before) ∙ ap (λ (x : List Pair). walk.before ++ x) (sym s) ∙ pairs_back (walk.before ++ walk.after) pairs (sym walk.whole ∙ a)
    done (p ∷ ps) n s = absurd cc

pub walking : (all left : List (List ℕ)) (walk : Walk all left) (pairs : List Pair) → all ≡ pair_items pairs → walk.before ++ walk.after ≡ pairs
walking all left walk pairs a = pairs_back (walk.before ++ walk.after) pairs (sym walk.whole ∙ a)

-- ---- each pair is examined

pub first_bad : (all left : List (List ℕ)) (walk : Walk all left) (key value : List ℕ) (others : List (List ℕ)) (pairs : List Pair) (fault : ModeFault)
    → left ≡ key ∷ value ∷ others → all ≡ pair_items pairs → AllByRecursion IsFit walk.before → PairFault fault (pair_of key value) → FirstBad IsFit (PairFault fault) pairs
first_bad all left walk key value others pairs fault e a fit bad =
    let n = next all left walk key value others e in
    subst (FirstBad IsFit (PairFault fault)) (sym n.at ∙ walking all left walk pairs a) (bad_behind IsFit (PairFault fault) walk.before (pair_of key value) n.walk_on.after fit bad)

pub fit_more : (all left : List (List ℕ)) (walk : Walk all left) (key value : List ℕ) (others : List (List ℕ)) (n : Next all left walk key value others) → AllByRecursion IsFit walk.before → IsFit (pair_of key value) → AllByRecursion IsFit n.walk_on.before
fit_more all left walk key value others n fit p = subst (AllByRecursion IsFit) (sym n.before) (all_with IsFit walk.before (pair_of key value) fit p)

-- ---- the last of a name

-- what was found among the pairs so far, with how many bytes stand behind it
abbrev pub LastSoFar : List ℕ → List Pair → List (List ℕ) → Option LastValue → Type 0
LastSoFar name pairs left None = HasNoKey name pairs
LastSoFar name pairs left (Some found) = (l : IsLastValue name pairs found.value.now) × (found.behind ≡ length (concat (pair_items l.after)) + length (concat left))

pub last_here : (name : List ℕ) (before : List Pair) (key : List ℕ) (found : LastValue) (others : List (List ℕ)) → IsText key name → found.behind ≡ length (concat others)
    → LastSoFar name (before ++ pair_of key found.value.now ∷ []) others (Some found)
last_here name before key found others t b = (record { before = before; key = key; after = []; named = t; last = tt; whole = refl }, omega arith)

length-pair_items-push : (ps : List Pair) (key value : List ℕ) → length (concat (pair_items (ps ++ pair_of key value ∷ []))) ≡ length (concat (pair_items ps)) + (length key + length value)
length-pair_items-push [] key value = omega (arith, length-append key (value ++ []), length-append {A = ℕ} value [])
length-pair_items-push (p ∷ ps) key value =
    let h = length-pair_items-push ps key value in
    omega (arith, length-append p.key (p.value ++ concat (pair_items (ps ++ pair_of key value ∷ []))), length-append p.value (concat (pair_items (ps ++ pair_of key value ∷ []))), length-append p.key (p.value ++ concat (pair_items ps)), length-append p.value (concat (pair_items ps)))

pub last_before : (name : List ℕ) (before : List Pair) (key value : List ℕ) (left others : List (List ℕ)) (last : Option LastValue) → (IsText key name → ⊥) → left ≡ key ∷ value ∷ others
    → LastSoFar name before left last → LastSoFar name (before ++ pair_of key value ∷ []) others last
last_before name before key value left others None n e l = all_with (λ pair. IsNamed name pair → ⊥) before (pair_of key value) l n
last_before name before key value left others (Some v) n e l = (
  record {
    before = l.0.before;
    key = l.0.key;
    after = l.0.after ++ pair_of key value ∷ [];
    named = l.0.named;
    last = all_with (λ pair. IsNamed name pair → ⊥) l.0.after (pair_of key value) l.0.last n;
    whole = ap (λ (x : List Pair). x ++ pair_of key value ∷ []) l.0.whole ∙ append_assoc l.0.before (pair_of l.0.key v.value.now ∷ l.0.after) (pair_of key value ∷ []);
  },
  let b = l.1 in let m = ap (λ (z : List (List ℕ)). length (concat z)) e in omega (arith, length-pair_items-push l.0.after key value, length-append key (value ++ concat others), length-append value (concat others)),
)

-- ---- what the two walks keep

pub record Examined (all left : List (List ℕ)) : Type 0 where
  pub walk : Walk all left
  pub fit : AllByRecursion IsFit walk.before

pub record Sought (name : List ℕ) (all left : List (List ℕ)) (last : Option LastValue) : Type 0 where
  pub walk : Walk all left
  pub found : LastSoFar name walk.before left last

pub examined_start : (all : List (List ℕ)) → ArePairs all → Examined all all
unfolding start
examined_start all a = record { walk = start all a; fit = tt }

pub examined_more : (all left : List (List ℕ)) (key value : List ℕ) (others middle : List (List ℕ)) → Examined all left → left ≡ key ∷ middle → middle ≡ value ∷ others → IsFit (pair_of key value) → Examined all others
examined_more all left key value others middle x e f p =
    let n = next all left x.walk key value others (e ∙ ap (λ (z : List (List ℕ)). key ∷ z) f) in
    record { walk = n.walk_on; fit = fit_more all left x.walk key value others n x.fit p }

pub examined_end : (all left : List (List ℕ)) (pairs : List Pair) → Examined all left → left ≡ [] → all ≡ pair_items pairs → AllByRecursion IsFit pairs
examined_end all left pairs x e a = subst (AllByRecursion IsFit) (walked all left x.walk pairs e a) x.fit

pub examined_bad : (all left : List (List ℕ)) (key value : List ℕ) (others middle : List (List ℕ)) (pairs : List Pair) (fault : ModeFault) → Examined all left → left ≡ key ∷ middle → middle ≡ value ∷ others
    → all ≡ pair_items pairs → PairFault fault (pair_of key value) → FirstBad IsFit (PairFault fault) pairs
examined_bad all left key value others middle pairs fault x e f a bad =
    first_bad all left x.walk key value others pairs fault (e ∙ ap (λ (z : List (List ℕ)). key ∷ z) f) a x.fit bad

pub sought_start : (name : List ℕ) (all : List (List ℕ)) → ArePairs all → Sought name all all None
unfolding start
sought_start name all a = record { walk = start all a; found = tt }

pub sought_here : (name : List ℕ) (all left : List (List ℕ)) (key : List ℕ) (found : LastValue) (others middle : List (List ℕ)) (last : Option LastValue) → Sought name all left last → left ≡ key ∷ middle → middle ≡ found.value.now ∷ others
    → IsText key name → found.behind ≡ length (concat others) → Sought name all others (Some found)
sought_here name all left key found others middle last x e f t b =
    let n = next all left x.walk key found.value.now others (e ∙ ap (λ (z : List (List ℕ)). key ∷ z) f) in
    record { walk = n.walk_on; found = subst (λ (ps : List Pair). LastSoFar name ps others (Some found)) (sym n.before) (last_here name x.walk.before key found others t b) }

pub sought_on : (name : List ℕ) (all left : List (List ℕ)) (key value : List ℕ) (others middle : List (List ℕ)) (last : Option LastValue) → Sought name all left last → left ≡ key ∷ middle → middle ≡ value ∷ others
    → (IsText key name → ⊥) → Sought name all others last
sought_on name all left key value others middle last x e f t =
    let d = e ∙ ap (λ (z : List (List ℕ)). key ∷ z) f in
    let n = next all left x.walk key value others d in
    record { walk = n.walk_on; found = subst (λ (ps : List Pair). LastSoFar name ps others last) (sym n.before) (last_before name x.walk.before key value left others last t d x.found) }

pub sought_end : (name : List ℕ) (all left : List (List ℕ)) (pairs : List Pair) (last : Option LastValue) → Sought name all left last → left ≡ [] → all ≡ pair_items pairs → MatchOption last (HasNoKey name pairs) (IsLast name pairs)
sought_end name all left pairs None x e a = subst (HasNoKey name) (walked all left x.walk pairs e a) x.found
sought_end name all left pairs (Some v) x e a =
    subst (λ (ps : List Pair). IsLast name ps v) (walked all left x.walk pairs e a)
    (record { last = x.found.0; behind = (let b = x.found.1 in let m = ap (λ (z : List (List ℕ)). length (concat z)) e in omega arith) })

-- the texts at the front
pub two_texts : (all left : List (List ℕ)) (key value : List ℕ) (others middle : List (List ℕ)) → Walk all left → left ≡ key ∷ middle → middle ≡ value ∷ others → IsItemWithin key × IsItemWithin value
two_texts all left key value others middle w e f =
    let t : AllByRecursion IsItemWithin (key ∷ value ∷ others) = subst (AllByRecursion IsItemWithin) (e ∙ ap (λ (z : List (List ℕ)). key ∷ z) f) w.texts in
    (t.0, t.1.0)
