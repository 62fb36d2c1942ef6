-- How a loop's connections go on, over several calls.
use Rattle.std.proofs.Common.{ℕ, zero, suc, ◌≡◌, ◌∙◌, ◌<◌, ◌≤◌, ◌⊎◌, inl, inr, arith, List, [], ◌∷◌, ◌++◌, length, ap, refl, sym, subst, Option, None, Some}
use Rattle.std.specs.Prelude.{IsSomeAnd, slice_index_or, slice_set}
use Rattle.std.proofs.Math.Nat.{eq-or-lt_of_le}
use Rattle.std.proofs.lemmas.List.{get_or-set_same, get_or-set_other, get_or_default}
use Rattle.mio_relay.specs.Connections.{ConnectionState, IsSameConnection, MayClose}
use Rattle.mio_relay.specs.Loops.{LoopState, TakesIn}
use Rattle.mio_relay.specs.Turning.{AreTurned, ComesOn, EachKey, HasGot, IsClosed, LeavesOn, MayGet, MayLose, StandOn, StandsOn, at_key}

-- of two numbers
same_or_not : (k i : ℕ) → (k ≡ i) ⊎ (k ≡ i → ⊥)
same_or_not k i = by (or_less k i)
  where
    or_less : (a b : ℕ) → (a ≤ b) ⊎ (b < a)
    or_less zero b = inl (omega arith)
    or_less (suc a) zero = inr (omega arith)
    or_less (suc a) (suc b) = elim (or_less a b) [ inl l ↦ inl (omega (arith, l)) | inr l ↦ inr (omega (arith, l)) ]

    by : (k ≤ i) ⊎ (i < k) → (k ≡ i) ⊎ (k ≡ i → ⊥)
    by (inr l) = inr (λ e. absurd (omega (arith, l, e)))
    by (inl l) = elim (eq-or-lt_of_le {n = k} {m = i} l) [ inl e ↦ inl e | inr l ↦ inr (λ e. absurd (omega (arith, l, e))) ]

-- what changes at a key, while the others are as they were
each_set : (R : Option ConnectionState → Option ConnectionState → Type 0) (slots : List (Option ConnectionState)) (key : ℕ) (old new : Option ConnectionState)
    → ((slot : Option ConnectionState) → R slot slot) → key < length slots → old ≡ slice_index_or slots key old → R old new → EachKey R slots (slice_set slots key new)
each_set R slots key old new same within at one k = by (same_or_not k key)
  where
    was : at_key slots key ≡ old
    was = get_or_default slots key None old within ∙ sym at

    is : at_key (slice_set slots key new) key ≡ new
    is = get_or-set_same slots key new None within

    there : R (at_key slots key) (at_key (slice_set slots key new) key)
    there = subst (λ (o : Option ConnectionState). R o (at_key (slice_set slots key new) key)) (sym was) (subst (R old) (sym is) one)

    by : (k ≡ key) ⊎ (k ≡ key → ⊥) → R (at_key slots k) (at_key (slice_set slots key new) k)
    by (inl e) = subst (λ (j : ℕ). R (at_key slots j) (at_key (slice_set slots key new) j)) (sym e) there
    by (inr other) = subst (R (at_key slots k)) (sym (get_or-set_other slots key k new None other)) (same (at_key slots k))

-- where all is as it was
each_same : (R : Option ConnectionState → Option ConnectionState → Type 0) (old new : List (Option ConnectionState)) → ((slot : Option ConnectionState) → R slot slot)
    → new ≡ old → EachKey R old new
each_same R old new same e k = subst (λ (l : List (Option ConnectionState)). R (at_key old k) (at_key l k)) (sym e) (same (at_key old k))

-- what changes at a key of these, which are the connections
each_at : (R : Option ConnectionState → Option ConnectionState → Type 0) (slots now : List (Option ConnectionState)) (key : ℕ) (old new : Option ConnectionState)
    → ((slot : Option ConnectionState) → R slot slot) → slots ≡ now → key < length slots → old ≡ slice_index_or slots key old → R old new → EachKey R now (slice_set slots key new)
each_at R slots now key old new same is within at one =
    subst (λ (l : List (Option ConnectionState)). EachKey R l (slice_set slots key new)) is (each_set R slots key old new same within at one)

-- a key at which nothing is may be added
none_more : (slots : List (Option ConnectionState)) (k : ℕ) → at_key (slots ++ None ∷ []) k ≡ at_key slots k
none_more [] zero = refl
none_more [] (suc k) = refl
none_more (slot ∷ slots) zero = refl
none_more (slot ∷ slots) (suc k) = none_more slots k

-- a connection stands as it did
pub stands_same : (slot : Option ConnectionState) → StandsOn slot slot
stands_same None = tt
stands_same (Some c) = record { origin = refl; came = refl; entry = refl }

-- so do those that stood before there was room for one more
pub stand_more : (old new : List (Option ConnectionState)) → new ≡ old ++ None ∷ [] → StandOn old new
stand_more old new e k =
    let same : at_key new k ≡ at_key old k = ap (λ (l : List (Option ConnectionState)). at_key l k) e ∙ none_more old k in
    subst (StandsOn (at_key old k)) (sym same) (stands_same (at_key old k))

-- so do all
pub stand_still : (slots now : List (Option ConnectionState)) → slots ≡ now → StandOn now slots
stand_still slots now is = each_same StandsOn now slots stands_same is

-- what stands on at a key, while the others are as they were
pub stand_at : (slots now : List (Option ConnectionState)) (key : ℕ) (old new : Option ConnectionState) → slots ≡ now → key < length slots → old ≡ slice_index_or slots key old
    → StandsOn old new → StandOn now (slice_set slots key new)
stand_at slots now key old new = each_at StandsOn slots now key old new stands_same

-- it stands on over two calls
stands_on : (a b c : Option ConnectionState) → StandsOn a b → StandsOn b c → StandsOn a c
stands_on None None None p q = tt
stands_on None None (Some c) p q = absurd q
stands_on None (Some b) c p q = absurd p
stands_on (Some a) None c p q = absurd p
stands_on (Some a) (Some b) None p q = absurd q
stands_on (Some a) (Some b) (Some c) p q = record { origin = q.origin ∙ p.origin; came = q.came ∙ p.came; entry = q.entry ∙ p.entry }

-- so do all
pub stand_on : (a b c : List (Option ConnectionState)) → StandOn a b → StandOn b c → StandOn a c
stand_on a b c p q k = stands_on (at_key a k) (at_key b k) (at_key c k) (p k) (q k)

-- what came stands on
came_on : (time : ℕ) (one : ConnectionState) (a b c : Option ConnectionState) → one.came ≡ time → HasGot one a b → StandsOn b c → ComesOn time a c
came_on time one a b None came got q = absurd (subst (λ (o : Option ConnectionState). StandsOn o None) got.is q)
came_on time one a b (Some c) came got q =
    let same : IsSameConnection one c = subst (λ (o : Option ConnectionState). StandsOn o (Some c)) got.is q in
    inr (c, same.came ∙ came, record { none = got.none; is = refl })

-- something is not nothing
some_not_none : {T : Type 0} (t : T) → ◌≡◌ {A = Option T} (Some t) None → ⊥
some_not_none {T} t e = subst at e tt
  where
    at : Option T → Type 0
    at (Some _) = Unit {0}
    at None = ⊥

-- nothing was there before, where nothing is there while all stands
none_before : (a b : Option ConnectionState) → b ≡ None → StandsOn a b → a ≡ None
none_before None b e p = refl
none_before (Some a) b e p = absurd (subst (StandsOn (Some a)) e p)

-- connections come over two calls
comes_on : (time : ℕ) (a b c : Option ConnectionState) → ComesOn time a b → ComesOn time b c → ComesOn time a c
comes_on time a b c (inl p) (inl q) = inl (stands_on a b c p q)
comes_on time a b c (inl p) (inr q) = inr (q.0, q.1, record { none = none_before a b q.2.none p; is = q.2.is })
comes_on time a b c (inr p) (inl q) = came_on time p.0 a b c p.1 p.2 q
comes_on time a b c (inr p) (inr q) = absurd (some_not_none p.0 (sym p.2.is ∙ q.2.none))

-- a key that has got a connection at the time at which it came
gets_now : (time : ℕ) (one : ConnectionState) (old new : Option ConnectionState) → one.came ≡ time → MayGet one old new → ComesOn time old new
gets_now time one old new came (inl e) = inl (subst (StandsOn old) (sym e) (stands_same old))
gets_now time one old new came (inr got) = inr (one, came, got)

-- a key gets nothing, where it is as it was
gets_none : (one : ConnectionState) (slot : Option ConnectionState) → MayGet one slot slot
gets_none one slot = inl refl

-- nor where all are
pub get_none : (one : ConnectionState) (slots now : List (Option ConnectionState)) → slots ≡ now → EachKey (MayGet one) now slots
get_none one slots now is = each_same (MayGet one) now slots (gets_none one) is

-- what is got at a key
pub get_at : (one : ConnectionState) (slots now : List (Option ConnectionState)) (key : ℕ) (old new : Option ConnectionState) → slots ≡ now → key < length slots
    → old ≡ slice_index_or slots key old → MayGet one old new → EachKey (MayGet one) now (slice_set slots key new)
get_at one slots now key old new = each_at (MayGet one) slots now key old new (gets_none one)

-- nothing is lost, where a key is as it was
loses_none : (time : ℕ) (slot : Option ConnectionState) → MayLose time slot slot
loses_none time slot = inl refl

-- nor where all are
pub lose_none : (time : ℕ) (slots now : List (Option ConnectionState)) → slots ≡ now → EachKey (MayLose time) now slots
lose_none time slots now is = each_same (MayLose time) now slots (loses_none time) is

-- what is lost at a key
pub lose_at : (time : ℕ) (slots now : List (Option ConnectionState)) (key : ℕ) (old new : Option ConnectionState) → slots ≡ now → key < length slots
    → old ≡ slice_index_or slots key old → MayLose time old new → EachKey (MayLose time) now (slice_set slots key new)
lose_at time slots now key old new = each_at (MayLose time) slots now key old new (loses_none time)

-- nothing that is gone goes
closes_none : (time : ℕ) (b c : Option ConnectionState) → b ≡ None → IsClosed time b c → ⊥
closes_none time b c e closed = subst (λ (o : Option ConnectionState). IsSomeAnd o (MayClose time)) e closed.may

-- what might be closed goes over two calls
loses_on : (time : ℕ) (a b c : Option ConnectionState) → MayLose time a b → MayLose time b c → MayLose time a c
loses_on time a b c (inl p) q = subst (λ (o : Option ConnectionState). MayLose time o c) p q
loses_on time a b c (inr p) (inl q) = inr (record { may = p.may; gone = q ∙ p.gone })
loses_on time a b c (inr p) (inr q) = absurd (closes_none time b c p.gone q)

-- so it is at each key
pub lose_on : (time : ℕ) (a b c : List (Option ConnectionState)) → EachKey (MayLose time) a b → EachKey (MayLose time) b c → EachKey (MayLose time) a c
lose_on time a b c p q k = loses_on time (at_key a k) (at_key b k) (at_key c k) (p k) (q k)

-- nothing comes where nothing was, while all stands
none_behind : (b c : Option ConnectionState) → b ≡ None → StandsOn b c → c ≡ None
none_behind b None e p = refl
none_behind b (Some c) e p = absurd (subst (λ (o : Option ConnectionState). StandsOn o (Some c)) e p)

-- what stands on behind that leaves on
leaves_on : (time : ℕ) (a b c : Option ConnectionState) → MayLose time a b → StandsOn b c → LeavesOn time a c
leaves_on time a b c (inl e) q = inl (subst (λ (o : Option ConnectionState). StandsOn o c) e q)
leaves_on time a b c (inr p) q = inr (record { may = p.may; gone = none_behind b c p.gone q })

-- a turn, of its parts: what was there stood and others came, some were closed, and the others
-- stood on
turned : (time : ℕ) (old stood closed new : List (Option ConnectionState)) → EachKey (ComesOn time) old stood → EachKey (MayLose time) stood closed → StandOn closed new
    → AreTurned time old new
turned time old stood closed new came lost stand = record {
  stood = stood;
  came = came;
  left = λ k. leaves_on time (at_key stood k) (at_key closed k) (at_key new k) (lost k) (stand k);
}

-- one of a loop: what was noted stood, the time was set, others were taken in, some were closed,
-- and the others stood on
pub turned_by : {A : Type 0} (old noted timed taken closed new : LoopState A) → StandOn old.connections noted.connections → timed.connections ≡ noted.connections
    → TakesIn timed taken → EachKey (MayLose taken.time) taken.connections closed.connections → closed.time ≡ taken.time → StandOn closed.connections new.connections
    → new.time ≡ closed.time → AreTurned new.time old.connections new.connections
turned_by old noted timed taken closed new stood same takes lost closing stand ending =
    let now : new.time ≡ taken.time = ending ∙ closing in
    let then_ : new.time ≡ timed.time = now ∙ takes.time in
    let first : StandOn old.connections timed.connections = subst (StandOn old.connections) (sym same) stood in
    turned new.time old.connections taken.connections closed.connections new.connections
    (λ k. comes_on new.time (at_key old.connections k) (at_key timed.connections k) (at_key taken.connections k) (inl (first k))
    (subst (λ (t : ℕ). ComesOn t (at_key timed.connections k) (at_key taken.connections k)) (sym then_) (takes.connections k)))
    (subst (λ (t : ℕ). EachKey (MayLose t) taken.connections closed.connections) (sym now) lost) stand

-- one in which nothing came or went
pub turned_none : (time : ℕ) (old new : List (Option ConnectionState)) → StandOn old new → AreTurned time old new
turned_none time old new stand = record { stood = new; came = λ k. inl (stand k); left = λ k. inl (stands_same (at_key new k)) }

-- a call that takes connections in
pub takes_by : {A : Type 0} (inside now new : LoopState A) → inside ≡ now → new.time ≡ inside.time → new.lanes.time ≡ inside.lanes.time
    → EachKey (ComesOn inside.time) inside.connections new.connections → TakesIn now new
takes_by {A} inside now new is time theirs connections =
    subst (λ (l : LoopState A). TakesIn l new) is (record { time = time; lanes_time = theirs; connections = connections })

-- one by which all stand on
pub takes_standing : {A : Type 0} (inside now new : LoopState A) → inside ≡ now → new.time ≡ inside.time → new.lanes.time ≡ inside.lanes.time
    → StandOn inside.connections new.connections → TakesIn now new
takes_standing inside now new is time theirs stand = takes_by inside now new is time theirs (λ k. inl (stand k))

-- one that leaves all as it is
pub takes_none : {A : Type 0} (inside now new : LoopState A) → inside ≡ now → new.time ≡ inside.time → new.lanes.time ≡ inside.lanes.time
    → new.connections ≡ inside.connections → TakesIn now new
takes_none inside now new is time theirs same = takes_standing inside now new is time theirs (each_same StandsOn inside.connections new.connections stands_same same)

-- one by which a connection got a key
pub takes_one : {A : Type 0} (inside now new : LoopState A) (one : ConnectionState) → inside ≡ now → new.time ≡ inside.time → new.lanes.time ≡ inside.lanes.time
    → one.came ≡ inside.time → EachKey (MayGet one) inside.connections new.connections → TakesIn now new
takes_one inside now new one is time theirs came gets =
    takes_by inside now new is time theirs (λ k. gets_now inside.time one (at_key inside.connections k) (at_key new.connections k) came (gets k))

-- over two calls
pub takes_more : {A : Type 0} (old between new : LoopState A) → TakesIn old between → TakesIn between new → TakesIn old new
takes_more old between new first next = record {
  time = next.time ∙ first.time;
  lanes_time = next.lanes_time ∙ first.lanes_time;
  connections = λ k.
      let then_ = subst (λ (t : ℕ). ComesOn t (at_key between.connections k) (at_key new.connections k)) first.time (next.connections k) in
      comes_on old.time (at_key old.connections k) (at_key between.connections k) (at_key new.connections k) (first.connections k) then_;
}

-- where nothing is done
pub takes_same : {A : Type 0} (l : LoopState A) → TakesIn l l
takes_same l = takes_none l l l refl refl refl refl
