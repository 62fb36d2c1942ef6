-- Room that was made for a step on a staged chunk, and the newest chunk taken back.
use Rattle.std.proofs.Common.{◌≡◌, ℕ, ◌<◌, ◌+◌, Bool, true, false, cond, List, [], ◌∷◌, ◌++◌, Option, Some, None, refl, sym, ap, subst, ◌∙◌, arith}
use Rattle.std.specs.Prelude.{filter, IsSomeAnd, nat_lt, slice_get}
use Rattle.std.specs.Ordering.{nat_cmp}
use Rattle.std.specs.declared.cmp.Ordering.TheVariants.{Less, Equal, Greater}
use Rattle.std.specs.Cmp.{nat_cmp_is}
use Rattle.std.specs.BTreeMap.{is_at}
use Rattle.std.specs.BTreeSet.{BTreeSet, contains}
use Rattle.std.specs.List.{AllByRecursion}
use Rattle.std.specs.List.Sorted.{IsStrictlySortedBy}
use Rattle.std.specs.Map.{remove_entry, keys_of}
use Rattle.std.specs.declared.collections.VecDeque.{VecDeque}
use Rattle.std.proofs.lemmas.Bool.{true≢false, ltb-true, ltb-false}
use Rattle.std.proofs.lemmas.List.{map-append}
use Rattle.buffer_state.specs.declared.chunk.Stage.{Stage}
use Rattle.buffer_state.specs.declared.chunk.Stage.TheVariants.{Staged, Queued}
use Rattle.buffer_state.specs.State.{State, Chunk, chunk_at, is_queued}
use Rattle.std.proofs.lemmas.Option.{same_Some}
use Rattle.buffer_state.specs.Steps.{with_chunk, added, appended, taken_back}
use Rattle.buffer_state.specs.Slots.{Slot, Slots, slot_at, chunks_in, AreBelow}
use Rattle.buffer_state.specs.Views.{passes_at, is_waiting, state_of, IsFree, IsSound, IsReady}
use Rattle.buffer_state.proofs.Serials.{at_same, at_itself, if_some, filter_same, kept, removed_last}
use Rattle.buffer_state.proofs.Slots.{removed_chunks, passes_itself, passes_removed, if_removed, all_map}
use Rattle.buffer_state.proofs.Steps.{claims_removed, rising_removed, found_in, rising_kept, parts}

pub less : (x y : ℕ) → nat_cmp x y ≡ Less → x < y
less x y e = by (nat_lt x y) refl (nat_lt y x) refl
  where
    by : (b : Bool) → nat_lt x y ≡ b → (c : Bool) → nat_lt y x ≡ c → x < y
    by true f c g = ltb-true x y f
    by false f true g = absurd (cc (e, nat_cmp_is x y Greater (ltb-true y x g)))
    by false f false g = (let le = ltb-false x y f in let ge = ltb-false y x g in absurd (cc (e, nat_cmp_is x y Equal (omega (arith, le, ge)))))

-- a value that is there, and what holds of it
pub there_with : {X : Type 0} (o : Option X) (P : X → Type 0) → IsSomeAnd o P → (x : X) × (o ≡ Some x) × P x
there_with None P h = absurd h
there_with (Some x) P h = (x, refl, h)

-- the set of waiting serials, with others that say the same
pub sound_waits : {A : Type 0} (slots : Slots) (waiting new : BTreeSet ℕ) (order : VecDeque ℕ A) (next : ℕ) → IsSound slots waiting order next
    → ((q : ℕ) → contains nat_cmp new q ≡ passes_at is_waiting slots q) → IsStrictlySortedBy nat_cmp new.keys → IsSound slots new order next
sound_waits slots waiting new order next sound waits listed = record {
  rising = sound.rising;
  below = sound.below;
  distinct = sound.distinct;
  free = sound.free;
  room = sound.room;
  waits = waits;
  listed = listed;
}

-- the serials that wait, as the chunks have them
abbrev pub waiting_in : Slots → BTreeSet ℕ
waiting_in slots = record { keys = kept (λ (slot : Slot). is_waiting slot.chunk.stage) slots }

module _ {A : Type 0} (slots : Slots) (waiting : BTreeSet ℕ) (order : VecDeque ℕ A) (next s : ℕ) (ready : IsReady slots waiting order next s) where
  pub sound_before : IsSound slots (waiting_in slots) order next
  sound_before = record {
    rising = ready.rising;
    below = ready.below;
    distinct = ready.distinct;
    free = ready.free;
    room = (let r = ready.room in omega (arith, r));
    waits = λ q. found_in (λ (slot : Slot). is_waiting slot.chunk.stage) slots q ready.rising;
    listed = rising_kept (λ (slot : Slot). is_waiting slot.chunk.stage) slots ready.rising;
  }

  pub waits_with : (q : ℕ) → contains nat_cmp waiting q ≡ cond (is_at (nat_cmp s) q) true (contains nat_cmp (waiting_in slots) q)
  waits_with q = ready.waits q ∙ ap (cond (is_at (nat_cmp s) q) true) (sym (sound_before.waits q))

  -- without the serial again
  pub sound_after : (new : BTreeSet ℕ) (v : Slot) → slot_at slots s ≡ Some v → v.chunk.stage ≡ Staged
      → ((q : ℕ) → contains nat_cmp new q ≡ cond (is_at (nat_cmp s) q) false (contains nat_cmp waiting q)) → IsStrictlySortedBy nat_cmp new.keys → IsSound slots new order next
  sound_after new v at staged less listed = sound_waits slots (waiting_in slots) new order next sound_before
      (λ q. less q ∙ ap (cond (is_at (nat_cmp s) q) false) (ready.waits q) ∙ by q (is_at (nat_cmp s) q) refl) listed
    where
      by : (q : ℕ) (b : Bool) → is_at (nat_cmp s) q ≡ b → cond b false (cond b true (passes_at is_waiting slots q)) ≡ passes_at is_waiting slots q
      by q false e = refl
      by q true e = ap is_waiting (sym staged) ∙ sym (passes_itself is_waiting slots s v at) ∙ ap (passes_at is_waiting slots) (at_same s q e)

-- the newest chunk goes

below_newest : (slots : Slots) (s : ℕ) → IsStrictlySortedBy nat_cmp (keys_of slots) → AreBelow (s + 1) (keys_of slots) → AreBelow s (keys_of (remove_entry (is_at (nat_cmp s)) slots))
unfolding IsStrictlySortedBy
below_newest [] s rising below = tt
below_newest (e ∷ es) s rising below = by (is_at (nat_cmp s) e.0) refl (below_newest es s rising.1 below.1)
  where
    none : (xs : List ℕ) → s ≡ e.0 → AllByRecursion (λ q. nat_cmp e.0 q ≡ Less) xs → AreBelow (s + 1) xs → AreBelow s xs
    none [] same above h = tt
    none (x ∷ xs) same above h = (let lt = less e.0 x above.0 in let le = h.0 in absurd (omega (arith, same, lt, le)), none xs same above.1 h.1)

    by : (b : Bool) → is_at (nat_cmp s) e.0 ≡ b → AreBelow s (keys_of (remove_entry (is_at (nat_cmp s)) es)) → AreBelow s (keys_of (cond b es (e ∷ remove_entry (is_at (nat_cmp s)) es)))
    by true at rest = none (keys_of es) (at_same s e.0 at) rising.0 below.1
    by false at rest = (other (nat_lt e.0 s) refl, rest)
      where
        other : (b : Bool) → nat_lt e.0 s ≡ b → e.0 < s
        other true f = ltb-true e.0 s f
        other false f = (
            let h = below.0 in
            let le = ltb-false e.0 s f in
            let same : s ≡ e.0 = omega (arith, le, h) in
            absurd (true≢false (sym (at_itself s) ∙ ap (is_at (nat_cmp s)) same ∙ at))
            )

module _ {A : Type 0} (slots : Slots) (waiting : BTreeSet ℕ) (order : VecDeque ℕ A) (next s : ℕ) (v : Slot) (at : slot_at slots s ≡ Some v) (staged : v.chunk.stage ≡ Staged) where
  unpassed : (test : Stage → Bool) → test v.chunk.stage ≡ false → (q : ℕ) → cond (is_at (nat_cmp s) q) false (passes_at test slots q) ≡ passes_at test slots q
  unpassed test fails q = by (is_at (nat_cmp s) q) refl
    where
      by : (b : Bool) → is_at (nat_cmp s) q ≡ b → cond b false (passes_at test slots q) ≡ passes_at test slots q
      by false e = refl
      by true e = sym fails ∙ sym (passes_itself test slots s v at) ∙ ap (passes_at test slots) (at_same s q e)

  pub sound_back : IsSound slots waiting order next → s + 1 ≡ next → IsSound (remove_entry (is_at (nat_cmp s)) slots) waiting order s
  sound_back sound newest = record {
    rising = rising_removed slots s sound.rising;
    below = below_newest slots s sound.rising (rw newest sound.below);
    distinct = sound.distinct;
    free = all_map (IsFree slots next) (IsFree (remove_entry (is_at (nat_cmp s)) slots) s) (λ q free. (earlier q free (nat_lt q s) refl, if_removed (λ slot. slot.chunk.stage ≡ Queued) slots s q sound.rising free.1)) _ sound.free;
    room = (let h = claims_removed slots s in let r = sound.room in omega (arith, h, r));
    waits = λ q. sound.waits q ∙ sym (passes_removed is_waiting slots s q sound.rising ∙ unpassed is_waiting (ap is_waiting staged) q);
    listed = sound.listed;
  }
    where
      earlier : (q : ℕ) → IsFree slots next q → (b : Bool) → nat_lt q s ≡ b → q < s
      earlier q free true f = ltb-true q s f
      earlier q free false f = (
          let lt = free.0 in
          let le = ltb-false q s f in
          let same : q ≡ s = omega (arith, le, lt, newest) in
          absurd (cc (if_some (slot_at slots q) (λ slot. slot.chunk.stage ≡ Queued) v free.1 (ap (slot_at slots) same ∙ at), staged))
          )

  pub back_view : (xs : List ℕ) → IsStrictlySortedBy nat_cmp (keys_of slots) → state_of (remove_entry (is_at (nat_cmp s)) slots) xs s ≡ taken_back s (state_of slots xs next)
  back_view xs rising = ap (λ c. parts c s (filter (passes_at is_queued (remove_entry (is_at (nat_cmp s)) slots)) xs)) (removed_chunks slots s)
      ∙ ap (parts (remove_entry (is_at (nat_cmp s)) (chunks_in slots)) s) (filter_same _ _ (λ q. passes_removed is_queued slots s q rising ∙ unpassed is_queued (ap is_queued staged) q) xs)

-- A chunk was new, and is taken back: all is as it was before.

pub keys_chunks : (slots : Slots) → keys_of (chunks_in slots) ≡ keys_of slots
keys_chunks [] = refl
keys_chunks (e ∷ es) = ap (λ r. e.0 ∷ r) (keys_chunks es)

below_last : (xs : List ℕ) (s : ℕ) → IsStrictlySortedBy nat_cmp (xs ++ s ∷ []) → AreBelow s xs
unfolding IsStrictlySortedBy
below_last [] s rising = tt
below_last (x ∷ xs) s rising = (less x s (end xs rising.0), below_last xs s rising.1)
  where
    end : (ys : List ℕ) → AllByRecursion (λ q. nat_cmp x q ≡ Less) (ys ++ s ∷ []) → nat_cmp x s ≡ Less
    end [] h = h.0
    end (y ∷ ys) h = end ys h.1

pub as_before : (slots : Slots) (xs : List ℕ) (s : ℕ) (before : State) (tag : List ℕ) (entries : List (List ℕ)) → IsStrictlySortedBy nat_cmp (keys_of slots) → before.next ≡ s
    → state_of slots xs (s + 1) ≡ appended s tag entries before → taken_back s (state_of slots xs (s + 1)) ≡ before
as_before slots xs s before tag entries rising first is = by (chunk_at before s) refl
  where
    by : (o : Option Chunk) → chunk_at before s ≡ o → taken_back s (state_of slots xs (s + 1)) ≡ before
    by (Some chunk) at = (
        let old : appended s tag entries before ≡ with_chunk s (record chunk { entries = chunk.entries ++ entries }) before = rw at refl in
        let e : s + 1 ≡ before.next = ap (λ (state : State). state.next) (is ∙ old) in
        absurd (omega (arith, e, first))
        )
    by None at = (
        let old : appended s tag entries before ≡ added s tag entries before = rw at refl in
        let new : state_of slots xs (s + 1) ≡ added s tag entries before = is ∙ old in
        let split : keys_of (before.chunks ++ (s, record { tag = tag; entries = entries; stage = Staged }) ∷ []) ≡ keys_of before.chunks ++ s ∷ [] = map-append (λ (e : ℕ × Chunk). e.0) before.chunks _ in
        let keys : keys_of slots ≡ keys_of before.chunks ++ s ∷ [] = sym (keys_chunks slots) ∙ ap (λ (state : State). keys_of state.chunks) new ∙ split in
        let below : AreBelow s (keys_of before.chunks) = below_last (keys_of before.chunks) s (subst (IsStrictlySortedBy nat_cmp) keys rising) in
        ap (taken_back s) new ∙ ap (λ c. parts c s before.queue) (removed_last before.chunks s _ below) ∙ ap (λ n. parts before.chunks n before.queue) (sym first)
        )

-- the first that passes a test passes it
pub first_passes : (p : ℕ → Bool) (xs : List ℕ) (s : ℕ) → slice_get (filter p xs) 0 ≡ Some s → p s ≡ true
first_passes p [] s e = absurd (cc e)
first_passes p (x ∷ xs) s e = by (p x) refl e (first_passes p xs s)
  where
    by : (b : Bool) → p x ≡ b → slice_get (cond b (x ∷ filter p xs) (filter p xs)) 0 ≡ Some s → (slice_get (filter p xs) 0 ≡ Some s → p s ≡ true) → p s ≡ true
    by true is first rest = ap p (sym (same_Some x s first)) ∙ is
    by false is first rest = rest first
