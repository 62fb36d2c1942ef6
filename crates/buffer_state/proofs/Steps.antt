-- What each step does to the fields, and to the state that they stand for.
use Rattle.std.proofs.Common.{◌≡◌, ◌⊎◌, inl, inr, ℕ, ◌<◌, ◌≤◌, ◌+◌, ◌&&◌, ◌||◌, Bool, true, false, cond, List, [], ◌∷◌, ◌++◌, length, Option, Some, None, option_map, refl, sym, ap, subst, ◌∙◌, arith}
use Rattle.std.specs.Prelude.{filter, unwrap_or, IfSome, IsSomeAnd, nat_eq, nat_le}
use Rattle.std.specs.Option.{option_map_or}
use Rattle.std.specs.Ordering.{nat_cmp, is_eq}
use Rattle.std.specs.declared.cmp.Ordering.TheVariants.{Less}
use Rattle.std.specs.Cmp.{nat_cmp_is}
use Rattle.std.specs.Str.{bytes_eq}
use Rattle.std.specs.BTreeMap.{is_at}
use Rattle.std.specs.BTreeSet.{BTreeSet, contains}
use Rattle.std.specs.List.{AllByRecursion, IsDistinct, list_any, last_or}
use Rattle.std.specs.List.Sorted.{IsStrictlySortedBy}
use Rattle.std.specs.Map.{lookup, set_value, remove_entry, keys_of, values_of}
use Rattle.std.specs.declared.collections.VecDeque.{VecDeque}
use Rattle.std.specs.VecDeque.{deque_len, deque_capacity}
use Rattle.std.proofs.lemmas.Cmp.{nat_cmp_total}
use Rattle.std.proofs.lemmas.Map.Lookups.{exact_unsigned, btree_set_from_contains}
use Rattle.std.proofs.lemmas.Map.Views.{any-filter_same}
use Rattle.std.proofs.lemmas.Map.{keys-set_value}
use Rattle.std.proofs.lemmas.Map.Entries.{sum_by-set_value, sum_by-remove_entry}
use Rattle.std.proofs.lemmas.List.Sums.{sum_by-append, sum_by-cons}
use Rattle.std.proofs.lemmas.List.Kept.{IsStrictlySortedBy-filter}
use Rattle.std.proofs.lemmas.List.{map-append}
use Rattle.std.proofs.lemmas.List.Elements.{filter-append}
use Rattle.std.proofs.lemmas.Option.{same_Some}
use Rattle.buffer_state.proofs.Named.{same_tag}
use Rattle.std.proofs.lemmas.Bool.{true≢false, eq-eqb, eqb-true}
use Rattle.buffer_state.specs.declared.chunk.Stage.{Stage}
use Rattle.buffer_state.specs.declared.chunk.Stage.TheVariants.{Staged, Queued, Claimed}
use Rattle.buffer_state.specs.State.{State, Chunk, chunk_at, size, size_at, is_queued, is_staged, newest_staged, queued_rising, IsAt, IsStagedOf}
use Rattle.buffer_state.specs.Steps.{appended, restaged, queued_last, claimed, removed, settled, greatest_size, last_serial, CanAppend}
use Rattle.buffer_state.specs.Slots.{Slot, Slots, slot_at, slot_size, changed_at, chunks_in, put, grown, fresh, staged_in, AreBelow}
use Rattle.buffer_state.specs.Tags.{without}
use Rattle.buffer_state.specs.Views.{passes_at, place_within, is_waiting, is_claimed, claims, state_of, IsFree, IsEndOf, IsSound}
use Rattle.buffer_state.proofs.Serials.{at_same, at_itself, at_above, apart, if_some, some_and, lookup_above, filter_same, kept, kept_is}
use Rattle.buffer_state.proofs.Slots.{lookup_chunks, set_chunks, removed_chunks, set_at, passes_itself, passes_set, passes_same, passes_removed, passes_last, if_set, if_removed, last_at, Without, all_map, all_last, all_both, without_free, without_rest, distinct_rest, distinct_last, filter_without}

-- how a claim counts
abbrev pub one : Slot → ℕ
one slot = cond (is_claimed slot.chunk.stage) 1 0

pub claims_set : (slots : Slots) (s : ℕ) (v w : Slot) → slot_at slots s ≡ Some v → claims (set_value (is_at (nat_cmp s)) slots w) + one v ≡ claims slots + one w
claims_set slots s v w at = sum_by-set_value one (is_at (nat_cmp s)) slots v w at

pub claims_removed : (slots : Slots) (s : ℕ) → claims (remove_entry (is_at (nat_cmp s)) slots) ≤ claims slots
claims_removed slots s = (let h = sum_by-remove_entry one (is_at (nat_cmp s)) slots in omega (arith, h))

pub claims_last : (slots : Slots) (s : ℕ) (w : Slot) → is_claimed w.chunk.stage ≡ false → claims (slots ++ (s, w) ∷ []) ≡ claims slots
claims_last slots s w off =
    let h : claims (slots ++ (s, w) ∷ []) ≡ claims slots + (0 + one w) = rw (map-append (λ (e : ℕ × Slot). e.1) slots ((s, w) ∷ [])) (sum_by-append one (values_of slots) (w ∷ [])) in
    let z : one w ≡ 0 = rw off refl in
    omega (arith, h, z)

pub below_more : (m n : ℕ) (xs : List ℕ) → m ≤ n → AreBelow m xs → AreBelow n xs
below_more m n xs le h = all_map (λ q. q < m) (λ q. q < n) (λ q lt. omega (arith, lt, le)) xs h

pub free_more : (slots : Slots) (m n : ℕ) (xs : List ℕ) → m ≤ n → AllByRecursion (IsFree slots m) xs → AllByRecursion (IsFree slots n) xs
free_more slots m n xs le h = all_map (IsFree slots m) (IsFree slots n) (λ q free. (let lt = free.0 in (omega (arith, lt, le), free.1))) xs h

-- the stage of a chunk that a state has
pub stage_of : (slots : Slots) (xs : List ℕ) (next s : ℕ) (v : Slot) (stage : Stage) → slot_at slots s ≡ Some v → IsSomeAnd (chunk_at (state_of slots xs next) s) (λ chunk. chunk.stage ≡ stage) → v.chunk.stage ≡ stage
stage_of slots xs next s v stage at h = some_and _ (λ (chunk : Chunk). chunk.stage ≡ stage) v.chunk h (lookup_chunks slots s ∙ ap (option_map (λ (slot : Slot). slot.chunk)) at)

-- the end of a list
pub all_end : (P : ℕ → Type 0) (before end : List ℕ) → AllByRecursion P (before ++ end) → AllByRecursion P end
all_end P [] end h = h
all_end P (x ∷ xs) end h = all_end P xs end h.1

pub distinct_end : (before end : List ℕ) → IsDistinct nat_eq (before ++ end) → IsDistinct nat_eq end
unfolding IsDistinct
distinct_end [] end h = h
distinct_end (x ∷ xs) end h = distinct_end xs end h.1

-- serials stay below where an entry goes
pub below_removed : (slots : Slots) (s next : ℕ) → AreBelow next (keys_of slots) → AreBelow next (keys_of (remove_entry (is_at (nat_cmp s)) slots))
below_removed [] s next h = tt
below_removed (e ∷ es) s next h = by (is_at (nat_cmp s) e.0) (below_removed es s next h.1)
  where
    by : (b : Bool) → AreBelow next (keys_of (remove_entry (is_at (nat_cmp s)) es)) → AreBelow next (keys_of (cond b es (e ∷ remove_entry (is_at (nat_cmp s)) es)))
    by true rest = h.1
    by false rest = (h.0, rest)

-- a live chunk's serial is below the next
pub below_at : (slots : Slots) (next s : ℕ) (v : Slot) → AreBelow next (keys_of slots) → slot_at slots s ≡ Some v → s < next
below_at [] next s v below at = absurd (cc at)
below_at (e ∷ es) next s v below at = by (is_at (nat_cmp s) e.0) refl at (below_at es next s v below.1)
  where
    by : (b : Bool) → is_at (nat_cmp s) e.0 ≡ b → cond b (Some e.1) (slot_at es s) ≡ Some v → (slot_at es s ≡ Some v → s < next) → s < next
    by true same at rest = rw (at_same s e.0 same) below.0
    by false same at rest = rest at

module _ {A : Type 0} (slots : Slots) (waiting : BTreeSet ℕ) (order : VecDeque ℕ A) (next : ℕ) (sound : IsSound slots waiting order next) where
  -- more serials are passed over
  pub sound_next : (more : ℕ) → next ≤ more → IsSound slots waiting order more
  sound_next more le = record {
    rising = sound.rising;
    below = below_more next more _ le sound.below;
    distinct = sound.distinct;
    free = free_more slots next more _ le sound.free;
    room = sound.room;
    waits = sound.waits;
    listed = sound.listed;
  }

  -- the queue gets more room
  pub sound_room : (new : VecDeque ℕ A) → new.items ≡ order.items → deque_len new ≡ deque_len order → deque_capacity order ≤ deque_capacity new → IsSound slots waiting new next
  sound_room new items len cap = record {
    rising = sound.rising;
    below = sound.below;
    distinct = rw items sound.distinct;
    free = rw items sound.free;
    room = (let r = sound.room in omega (arith, r, len, cap));
    waits = sound.waits;
    listed = sound.listed;
  }

  -- a chunk changes and stays in its stage
  pub sound_same : (s : ℕ) (v w : Slot) → slot_at slots s ≡ Some v → w.chunk.stage ≡ v.chunk.stage → IsSound (set_value (is_at (nat_cmp s)) slots w) waiting order next
  sound_same s v w at same = record {
    rising = rw (keys-set_value (is_at (nat_cmp s)) slots w) sound.rising;
    below = rw (keys-set_value (is_at (nat_cmp s)) slots w) sound.below;
    distinct = sound.distinct;
    free = all_map (IsFree slots next) (IsFree (set_value (is_at (nat_cmp s)) slots w) next) (λ q free. (free.0, if_set (λ slot. slot.chunk.stage ≡ Queued) slots s q v w at (λ e. same ∙ if_some (slot_at slots q) (λ slot. slot.chunk.stage ≡ Queued) v free.1 (ap (slot_at slots) (sym (at_same s q e)) ∙ at)) free.1)) _ sound.free;
    room = (
        let h = claims_set slots s v w at in
        let e : one w ≡ one v = ap (λ stage. cond (is_claimed stage) 1 0) same in
        let r = sound.room in
        omega (arith, h, e, r)
        );
    waits = λ q. sound.waits q ∙ sym (passes_same is_waiting slots s q v w at (ap is_waiting same));
    listed = sound.listed;
  }

  queued_there : (s : ℕ) (v : Slot) → slot_at slots s ≡ Some v → IfSome (slot_at (set_value (is_at (nat_cmp s)) slots (put Queued v)) s) (λ slot. slot.chunk.stage ≡ Queued)
  queued_there s v at = rw (set_at slots s s v (put Queued v) at, at_itself s) refl

  -- what the queue has beside this serial stays there when its chunk changes
  free_beside : (s : ℕ) (v w : Slot) (xs : List ℕ) → slot_at slots s ≡ Some v → Without s xs → AllByRecursion (IsFree slots next) xs → AllByRecursion (IsFree (set_value (is_at (nat_cmp s)) slots w) next) xs
  free_beside s v w xs at apart free = all_both (λ q. is_at (nat_cmp s) q ≡ false) (IsFree slots next) (IsFree (set_value (is_at (nat_cmp s)) slots w) next)
      (λ q off free. (free.0, if_set (λ slot. slot.chunk.stage ≡ Queued) slots s q v w at (λ e. absurd (true≢false (sym e ∙ off))) free.1)) xs apart free

  -- a chunk of the queue is claimed
  pub sound_claim : (s : ℕ) (v : Slot) (new : VecDeque ℕ A) → slot_at slots s ≡ Some v → v.chunk.stage ≡ Queued → IsEndOf (s ∷ new.items) order.items
      → deque_len new + 1 ≤ deque_len order → deque_capacity new ≡ deque_capacity order → IsSound (set_value (is_at (nat_cmp s)) slots (put Claimed v)) waiting new next
  sound_claim s v new at was end len cap =
      let distinct : IsDistinct nat_eq (s ∷ new.items) = distinct_end end.0 (s ∷ new.items) (subst (IsDistinct nat_eq) end.1 sound.distinct) in
      let free : AllByRecursion (IsFree slots next) (s ∷ new.items) = all_end (IsFree slots next) end.0 (s ∷ new.items) (subst (AllByRecursion (IsFree slots next)) end.1 sound.free) in
      record {
        rising = rw (keys-set_value (is_at (nat_cmp s)) slots (put Claimed v)) sound.rising;
        below = rw (keys-set_value (is_at (nat_cmp s)) slots (put Claimed v)) sound.below;
        distinct = distinct_rest s new.items distinct;
        free = free_beside s v (put Claimed v) new.items at (without_rest s new.items distinct) free.1;
        room = (
            let h = claims_set slots s v (put Claimed v) at in
            let e : one v ≡ 0 = ap (λ stage. cond (is_claimed stage) 1 0) was in
            let r = sound.room in
            omega (arith, h, e, r, len, cap)
            );
        waits = λ q. sound.waits q ∙ sym (passes_same is_waiting slots s q v (put Claimed v) at (ap is_waiting (sym was)));
        listed = sound.listed;
      }

  -- A chunk that wasn't in the queue comes to its end.
  pub sound_queue : (s : ℕ) (v : Slot) (wait : BTreeSet ℕ) (new : VecDeque ℕ A) → slot_at slots s ≡ Some v → is_queued v.chunk.stage ≡ false → new.items ≡ order.items ++ s ∷ []
      → deque_len new + claims slots ≤ deque_capacity new + one v
      → ((q : ℕ) → contains nat_cmp wait q ≡ cond (is_at (nat_cmp s) q) true (contains nat_cmp waiting q)) → IsStrictlySortedBy nat_cmp wait.keys
      → IsSound (set_value (is_at (nat_cmp s)) slots (put Queued v)) wait new next
  sound_queue s v wait new at off items fits waits listed =
      let beside = without_free slots next s v order.items at off sound.free in
      record {
        rising = rw (keys-set_value (is_at (nat_cmp s)) slots (put Queued v)) sound.rising;
        below = rw (keys-set_value (is_at (nat_cmp s)) slots (put Queued v)) sound.below;
        distinct = rw items (distinct_last order.items s sound.distinct beside);
        free = rw items (all_last (IsFree (set_value (is_at (nat_cmp s)) slots (put Queued v)) next) order.items s (free_beside s v (put Queued v) order.items at beside sound.free)
            (below_at slots next s v sound.below at, queued_there s v at));
        room = (
            let h = claims_set slots s v (put Queued v) at in
            omega (arith, h, fits)
            );
        waits = λ q. waits q ∙ ap (cond (is_at (nat_cmp s) q) true) (sound.waits q) ∙ sym (passes_set is_waiting slots s q v (put Queued v) at);
        listed = listed;
      }

  -- a chunk goes
  pub sound_gone : (s : ℕ) (wait : BTreeSet ℕ) → IsStrictlySortedBy nat_cmp (keys_of (remove_entry (is_at (nat_cmp s)) slots))
      → ((q : ℕ) → contains nat_cmp wait q ≡ cond (is_at (nat_cmp s) q) false (contains nat_cmp waiting q)) → IsStrictlySortedBy nat_cmp wait.keys
      → IsSound (remove_entry (is_at (nat_cmp s)) slots) wait order next
  sound_gone s wait rising waits listed = record {
    rising = rising;
    below = below_removed slots s next sound.below;
    distinct = sound.distinct;
    free = all_map (IsFree slots next) (IsFree (remove_entry (is_at (nat_cmp s)) slots) next) (λ q free. (free.0, if_removed (λ slot. slot.chunk.stage ≡ Queued) slots s q sound.rising free.1)) _ sound.free;
    room = (let h = claims_removed slots s in let r = sound.room in omega (arith, h, r));
    waits = λ q. waits q ∙ ap (cond (is_at (nat_cmp s) q) false) (sound.waits q) ∙ sym (passes_removed is_waiting slots s q sound.rising);
    listed = listed;
  }

  -- a new chunk comes
  pub sound_add : (s : ℕ) (w : Slot) → next ≤ s → w.chunk.stage ≡ Staged → IsStrictlySortedBy nat_cmp (keys_of (slots ++ (s, w) ∷ [])) → IsSound (slots ++ (s, w) ∷ []) waiting order (s + 1)
  sound_add s w le staged rising = record {
    rising = rising;
    below = rw (map-append (λ (e : ℕ × Slot). e.0) slots ((s, w) ∷ [])) (all_last (λ q. q < s + 1) (keys_of slots) s (below_more next (s + 1) _ (omega (arith, le)) sound.below) (omega arith));
    distinct = sound.distinct;
    free = all_map (IsFree slots next) (IsFree (slots ++ (s, w) ∷ []) (s + 1)) (λ q free. (let lt = free.0 in (omega (arith, lt, le), free_last q lt free.1))) _ sound.free;
    room = (let h = claims_last slots s w (ap is_claimed staged) in let r = sound.room in omega (arith, h, r));
    waits = λ q. sound.waits q ∙ sym (passes_last is_waiting slots s q w (ap is_waiting staged));
    listed = sound.listed;
  }
    where
      free_last : (q : ℕ) → q < next → IfSome (slot_at slots q) (λ slot. slot.chunk.stage ≡ Queued) → IfSome (slot_at (slots ++ (s, w) ∷ []) q) (λ slot. slot.chunk.stage ≡ Queued)
      free_last q lt h = rw (last_at slots s q w, at_above q s (omega (arith, lt, le))) (by (slot_at slots q) h)
        where
          by : (o : Option Slot) → IfSome o (λ slot. slot.chunk.stage ≡ Queued) → IfSome (option_map_or Some o None) (λ slot. slot.chunk.stage ≡ Queued)
          by None h = tt
          by (Some x) h = h

-- the queue where a serial doesn't pass any more
pub gone_queue : (p t : ℕ → Bool) (s : ℕ) → ((q : ℕ) → t q ≡ cond (is_at (nat_cmp s) q) false (p q)) → (xs : List ℕ) → filter t xs ≡ without s (filter p xs)
gone_queue p t s says [] = refl
gone_queue p t s says (x ∷ xs) = by (is_at (nat_cmp s) x) refl (p x) refl (gone_queue p t s says xs)
  where
    by : (b : Bool) → is_at (nat_cmp s) x ≡ b → (c : Bool) → p x ≡ c → filter t xs ≡ without s (filter p xs) → cond (t x) (x ∷ filter t xs) (filter t xs) ≡ without s (cond (p x) (x ∷ filter p xs) (filter p xs))
    by true at true is rest = rw (says x, at, is, eq-eqb x s (sym (at_same s x at))) rest
    by true at false is rest = rw (says x, at, is) rest
    by false at true is rest = rw (says x, at, is, apart s x at) (ap (λ r. x ∷ r) rest)
    by false at false is rest = rw (says x, at, is) rest

-- The states

-- the chunk that a state has at a serial
pub chunk_there : (slots : Slots) (xs : List ℕ) (next s : ℕ) (v : Slot) → slot_at slots s ≡ Some v → chunk_at (state_of slots xs next) s ≡ Some v.chunk
chunk_there slots xs next s v at = lookup_chunks slots s ∙ ap (option_map (λ (slot : Slot). slot.chunk)) at

-- a state by its parts
abbrev pub parts : List (ℕ × Chunk) → ℕ → List ℕ → State
parts chunks next queue = record { chunks = chunks; next = next; queue = queue }

pub restaged_there : (slots : Slots) (next s : ℕ) (v : Slot) (stage : Stage) (queue : List ℕ) → slot_at slots s ≡ Some v
    → restaged s stage (parts (chunks_in slots) next queue) ≡ parts (chunks_in (set_value (is_at (nat_cmp s)) slots (put stage v))) next queue
restaged_there slots next s v stage queue at = rw (lookup_chunks slots s ∙ ap (option_map (λ (slot : Slot). slot.chunk)) at) (ap (λ c. parts c next queue) (sym (set_chunks slots s (put stage v))))

module _ (slots : Slots) (next s : ℕ) (v : Slot) (at : slot_at slots s ≡ Some v) where
  -- the view where a chunk changes and stays in its stage
  pub same_view : (w : Slot) (xs : List ℕ) → w.chunk.stage ≡ v.chunk.stage
      → state_of (set_value (is_at (nat_cmp s)) slots w) xs next ≡ parts (set_value (is_at (nat_cmp s)) (chunks_in slots) w.chunk) next (filter (passes_at is_queued slots) xs)
  same_view w xs same = ap (λ c. parts c next (filter (passes_at is_queued (set_value (is_at (nat_cmp s)) slots w)) xs)) (set_chunks slots s w)
      ∙ ap (parts (set_value (is_at (nat_cmp s)) (chunks_in slots) w.chunk) next) (filter_same _ _ (λ q. passes_same is_queued slots s q v w at (ap is_queued same)) xs)

  -- the view where the chunk is claimed
  pub claim_view : (xs : List ℕ) → v.chunk.stage ≡ Queued → Without s xs
      → state_of (set_value (is_at (nat_cmp s)) slots (put Claimed v)) xs next ≡ claimed (state_of slots (s ∷ xs) next)
  claim_view xs was beside =
      let pass : passes_at is_queued slots s ≡ true = passes_itself is_queued slots s v at ∙ ap is_queued was in
      let rest : filter (passes_at is_queued (set_value (is_at (nat_cmp s)) slots (put Claimed v))) xs ≡ filter (passes_at is_queued slots) xs
      = filter_without _ _ s false (λ q. passes_set is_queued slots s q v (put Claimed v) at) xs beside in
      rw (pass, rest) (sym (restaged_there slots next s v Claimed (filter (passes_at is_queued slots) xs) at))

  -- the view where the chunk comes to the end of the queue
  pub queue_view : (xs : List ℕ) → Without s xs
      → state_of (set_value (is_at (nat_cmp s)) slots (put Queued v)) (xs ++ s ∷ []) next ≡ queued_last s (state_of slots xs next)
  queue_view xs beside =
      let rest : filter (passes_at is_queued (set_value (is_at (nat_cmp s)) slots (put Queued v))) xs ≡ filter (passes_at is_queued slots) xs
      = filter_without _ _ s true (λ q. passes_set is_queued slots s q v (put Queued v) at) xs beside in
      let pass : passes_at is_queued (set_value (is_at (nat_cmp s)) slots (put Queued v)) s ≡ true = passes_set is_queued slots s s v (put Queued v) at ∙ rw (at_itself s) refl in
      let all : filter (passes_at is_queued (set_value (is_at (nat_cmp s)) slots (put Queued v))) (xs ++ s ∷ []) ≡ filter (passes_at is_queued slots) xs ++ s ∷ []
      = filter-append _ xs (s ∷ []) ∙ rw (pass, rest) refl in
      rw all (ap (λ (state : State). record state { queue = filter (passes_at is_queued slots) xs ++ s ∷ [] }) (sym (restaged_there slots next s v Queued (filter (passes_at is_queued slots) xs) at)))

  -- the view where the chunk grows
  pub grown_view : (xs : List ℕ) (tag : List ℕ) (piece : List (List ℕ)) (w : Slot) → w.chunk ≡ (grown piece v).chunk
      → state_of (set_value (is_at (nat_cmp s)) slots w) xs next ≡ appended s tag piece (state_of slots xs next)
  grown_view xs tag piece w is =
      same_view w xs (ap (λ (c : Chunk). c.stage) is) ∙ rw (lookup_chunks slots s ∙ ap (option_map (λ (slot : Slot). slot.chunk)) at) (ap (λ c. parts (set_value (is_at (nat_cmp s)) (chunks_in slots) c) next (filter (passes_at is_queued slots) xs)) is)

-- the view where a chunk goes
pub gone_view : (slots : Slots) (next s : ℕ) (xs : List ℕ) → IsStrictlySortedBy nat_cmp (keys_of slots)
    → state_of (remove_entry (is_at (nat_cmp s)) slots) xs next ≡ removed s (state_of slots xs next)
gone_view slots next s xs rising = ap (λ c. parts c next (filter (passes_at is_queued (remove_entry (is_at (nat_cmp s)) slots)) xs)) (removed_chunks slots s)
    ∙ ap (parts (remove_entry (is_at (nat_cmp s)) (chunks_in slots)) next) (gone_queue (passes_at is_queued slots) (passes_at is_queued (remove_entry (is_at (nat_cmp s)) slots)) s (λ q. passes_removed is_queued slots s q rising) xs)

-- the view where a new chunk comes
pub added_view : (slots : Slots) (next s : ℕ) (tag : List ℕ) (entries : List (List ℕ)) (xs : List ℕ) → AreBelow s (keys_of slots)
    → state_of (slots ++ (s, fresh tag entries) ∷ []) xs (s + 1) ≡ appended s tag entries (state_of slots xs next)
added_view slots next s tag entries xs below =
    let none : lookup (is_at (nat_cmp s)) (chunks_in slots) ≡ None = lookup_chunks slots s ∙ ap (option_map (λ (slot : Slot). slot.chunk)) (lookup_above slots s below) in
    let split : chunks_in (slots ++ (s, fresh tag entries) ∷ []) ≡ chunks_in slots ++ (s, (fresh tag entries).chunk) ∷ [] = map-append {B = ℕ × Chunk} (λ e. (e.0, e.1.chunk)) slots ((s, fresh tag entries) ∷ []) in
    rw (none, split)
    (ap (parts (chunks_in slots ++ (s, (fresh tag entries).chunk) ∷ []) (s + 1)) (filter_same _ _ (λ q. passes_last is_queued slots s q (fresh tag entries) refl) xs))

-- a sorted list with a greater one at its end
pub rising_last : (xs : List ℕ) (s : ℕ) → IsStrictlySortedBy nat_cmp xs → AreBelow s xs → IsStrictlySortedBy nat_cmp (xs ++ s ∷ [])
unfolding IsStrictlySortedBy
rising_last [] s h below = (tt, tt)
rising_last (x ∷ xs) s h below = (all_last (λ q. nat_cmp x q ≡ Less) xs s h.0 (sym (nat_cmp_is x s Less below.0)), rising_last xs s h.1 below.1)

all_removed : (P : ℕ → Type 0) (slots : Slots) (s : ℕ) → AllByRecursion P (keys_of slots) → AllByRecursion P (keys_of (remove_entry (is_at (nat_cmp s)) slots))
all_removed P [] s h = tt
all_removed P (e ∷ es) s h = by (is_at (nat_cmp s) e.0) (all_removed P es s h.1)
  where
    by : (b : Bool) → AllByRecursion P (keys_of (remove_entry (is_at (nat_cmp s)) es)) → AllByRecursion P (keys_of (cond b es (e ∷ remove_entry (is_at (nat_cmp s)) es)))
    by true rest = h.1
    by false rest = (h.0, rest)

pub rising_removed : (slots : Slots) (s : ℕ) → IsStrictlySortedBy nat_cmp (keys_of slots) → IsStrictlySortedBy nat_cmp (keys_of (remove_entry (is_at (nat_cmp s)) slots))
unfolding IsStrictlySortedBy
rising_removed [] s h = tt
rising_removed (e ∷ es) s h = by (is_at (nat_cmp s) e.0) (rising_removed es s h.1)
  where
    by : (b : Bool) → IsStrictlySortedBy nat_cmp (keys_of (remove_entry (is_at (nat_cmp s)) es)) → IsStrictlySortedBy nat_cmp (keys_of (cond b es (e ∷ remove_entry (is_at (nat_cmp s)) es)))
    by true rest = h.1
    by false rest = (all_removed (λ q. nat_cmp e.0 q ≡ Less) es s h.0, rest)

-- the slot of a chunk that a state has
pub slot_there : (slots : Slots) (s : ℕ) (P : Chunk → Type 0) → IsSomeAnd (lookup (is_at (nat_cmp s)) (chunks_in slots)) P → (v : Slot) × (slot_at slots s ≡ Some v) × P v.chunk
slot_there slots s P h = by (slot_at slots s) refl (rw (← lookup_chunks slots s) h)
  where
    by : (o : Option Slot) → slot_at slots s ≡ o → IsSomeAnd (option_map (λ (slot : Slot). slot.chunk) o) P → (v : Slot) × (slot_at slots s ≡ Some v) × P v.chunk
    by None at h = absurd h
    by (Some v) at h = (v, at, h)

-- the slot of a chunk that a state has in this stage
pub found_at : (slots : Slots) (xs : List ℕ) (next s : ℕ) (state : State) (stage : Stage) → state_of slots xs next ≡ state → IsAt stage state s
    → (v : Slot) × (slot_at slots s ≡ Some v) × (v.chunk.stage ≡ stage)
found_at slots xs next s state stage is h = slot_there slots s (λ chunk. chunk.stage ≡ stage) (subst (λ (there : State). IsAt stage there s) (sym is) h)

-- no chunks
pub sound_new : {A : Type 0} (slots : Slots) (waiting : BTreeSet ℕ) (order : VecDeque ℕ A) → slots ≡ [] → waiting.keys ≡ [] → order.items ≡ [] → deque_len order ≡ 0 → IsSound slots waiting order 0
unfolding IsStrictlySortedBy IsDistinct
sound_new slots waiting order none keys items len = rw none (record {
  rising = sorted_nil;
  below = tt;
  distinct = rw items distinct_nil;
  free = rw items tt;
  room = omega (arith, len);
  waits = λ q. rw keys refl;
  listed = rw keys sorted_nil;
})
  where
    sorted_nil : IsStrictlySortedBy nat_cmp []
    sorted_nil = tt

    distinct_nil : IsDistinct nat_eq []
    distinct_nil = tt

-- the queue without what is before an end of it
pub sound_end : {A : Type 0} (slots : Slots) (waiting : BTreeSet ℕ) (order new : VecDeque ℕ A) (next : ℕ) → IsSound slots waiting order next → IsEndOf new.items order.items
    → deque_len new ≤ deque_len order → deque_capacity new ≡ deque_capacity order → IsSound slots waiting new next
sound_end slots waiting order new next sound end len cap = record {
  rising = sound.rising;
  below = sound.below;
  distinct = distinct_end end.0 new.items (subst (IsDistinct nat_eq) end.1 sound.distinct);
  free = all_end (IsFree slots next) end.0 new.items (subst (AllByRecursion (IsFree slots next)) end.1 sound.free);
  room = (let r = sound.room in omega (arith, r, len, cap));
  waits = sound.waits;
  listed = sound.listed;
}

-- a chunk that a state has claimed is one claim
pub claim_part : (slots : Slots) (s : ℕ) (v : Slot) → slot_at slots s ≡ Some v → one v ≤ claims slots
claim_part slots s v at =
    let h = sum_by-remove_entry one (is_at (nat_cmp s)) slots in
    let g : claims (remove_entry (is_at (nat_cmp s)) slots) + one v ≡ claims slots = rw (ap (λ o. unwrap_or (option_map one o) 0) (sym at)) h in
    omega (arith, g)

-- the staged chunks of a tag
kept_chunks : (g : Chunk → Bool) (slots : Slots) → kept g (chunks_in slots) ≡ kept (λ (slot : Slot). g slot.chunk) slots
unfolding kept
kept_chunks g [] = refl
kept_chunks g (e ∷ es) = ap (λ r. cond (g e.1.chunk) (e.0 ∷ r) r) (kept_chunks g es)

pub staged_chunks : (slots : Slots) (tag : List ℕ) (xs : List ℕ) (next : ℕ) → staged_in slots tag ≡ keys_of (filter (λ (e : ℕ × Chunk). is_staged e.1.stage && bytes_eq tag e.1.tag) (state_of slots xs next).chunks)
staged_chunks slots tag xs next = kept_is (λ (slot : Slot). is_staged slot.chunk.stage && bytes_eq tag slot.chunk.tag) slots
    ∙ sym (kept_chunks (λ (chunk : Chunk). is_staged chunk.stage && bytes_eq tag chunk.tag) slots) ∙ sym (kept_is (λ (chunk : Chunk). is_staged chunk.stage && bytes_eq tag chunk.tag) (chunks_in slots))

-- The waiting serials, as the chunks have them

pub lookup_below : (slots : Slots) (q : ℕ) → AllByRecursion (λ y. nat_cmp q y ≡ Less) (keys_of slots) → slot_at slots q ≡ None
lookup_below [] q h = refl
lookup_below (e ∷ es) q h = rw (ap is_eq h.0) (lookup_below es q h.1)

pub found_in : (g : Slot → Bool) (slots : Slots) (q : ℕ) → IsStrictlySortedBy nat_cmp (keys_of slots) → list_any (is_at (nat_cmp q)) (kept g slots) ≡ option_map_or g (slot_at slots q) false
unfolding kept IsStrictlySortedBy
found_in g [] q rising = refl
found_in g (e ∷ es) q rising = by (is_at (nat_cmp q) e.0) refl (g e.1) refl (found_in g es q rising.1)
  where
    by : (b : Bool) → is_at (nat_cmp q) e.0 ≡ b → (c : Bool) → g e.1 ≡ c → list_any (is_at (nat_cmp q)) (kept g es) ≡ option_map_or g (slot_at es q) false
        → list_any (is_at (nat_cmp q)) (cond c (e.0 ∷ kept g es) (kept g es)) ≡ option_map_or g (cond b (Some e.1) (slot_at es q)) false
    by true at true on rest = rw (at, on) refl
    by true at false off rest = rw off (rest ∙ rw (lookup_below es q (subst (λ k. AllByRecursion (λ y. nat_cmp k y ≡ Less) (keys_of es)) (sym (at_same q e.0 at)) rising.0)) refl)
    by false at true on rest = rw at rest
    by false at false off rest = rest

all_kept : (P : ℕ → Type 0) (g : Slot → Bool) (slots : Slots) → AllByRecursion P (keys_of slots) → AllByRecursion P (kept g slots)
unfolding kept
all_kept P g [] h = tt
all_kept P g (e ∷ es) h = by (g e.1) (all_kept P g es h.1)
  where
    by : (b : Bool) → AllByRecursion P (kept g es) → AllByRecursion P (cond b (e.0 ∷ kept g es) (kept g es))
    by true rest = (h.0, rest)
    by false rest = rest

pub rising_kept : (g : Slot → Bool) (slots : Slots) → IsStrictlySortedBy nat_cmp (keys_of slots) → IsStrictlySortedBy nat_cmp (kept g slots)
unfolding kept IsStrictlySortedBy
rising_kept g [] h = tt
rising_kept g (e ∷ es) h = by (g e.1) (rising_kept g es h.1)
  where
    by : (b : Bool) → IsStrictlySortedBy nat_cmp (kept g es) → IsStrictlySortedBy nat_cmp (cond b (e.0 ∷ kept g es) (kept g es))
    by true rest = (all_kept (λ y. nat_cmp e.0 y ≡ Less) g es h.0, rest)
    by false rest = rest

-- serials in order that a test tells of
same_serials : (xs ys : List ℕ) → IsStrictlySortedBy nat_cmp xs → IsStrictlySortedBy nat_cmp ys → ((q : ℕ) → list_any (is_at (nat_cmp q)) xs ≡ list_any (is_at (nat_cmp q)) ys) → xs ≡ ys
same_serials xs ys h k same = btree_set_from_contains nat_cmp_total (record { keys = xs }) (record { keys = ys }) h k same exact_unsigned

waits_too : (o : Option Slot) → option_map_or (λ slot. is_queued slot.chunk.stage) o false && option_map_or (λ slot. is_waiting slot.chunk.stage) o false ≡ option_map_or (λ slot. is_queued slot.chunk.stage) o false
waits_too None = refl
waits_too (Some slot) = by slot.chunk.stage
  where
    by : (stage : Stage) → is_queued stage && is_waiting stage ≡ is_queued stage
    by Staged = refl
    by Queued = refl
    by Claimed = refl

counted : (stage : Stage) (serial n m : ℕ) (more : List ℕ) → n ≡ cond (is_claimed stage) 1 0 + m → m ≤ length more → n ≤ length (cond (is_waiting stage) (serial ∷ more) more)
counted Staged serial n m more sum le = omega (arith, sum, le)
counted Queued serial n m more sum le = omega (arith, sum, le)
counted Claimed serial n m more sum le = omega (arith, sum, le)

claims_kept : (slots : Slots) → claims slots ≤ length (kept (λ (slot : Slot). is_waiting slot.chunk.stage) slots)
unfolding kept
claims_kept [] = omega arith
claims_kept (e ∷ es) = counted e.1.chunk.stage e.0 (claims (e ∷ es)) (claims es) _ (sum_by-cons one e.1 (values_of es)) (claims_kept es)

module _ {A : Type 0} (slots : Slots) (waiting : BTreeSet ℕ) (order : VecDeque ℕ A) (next : ℕ) (sound : IsSound slots waiting order next) where
  pub waiting_is : waiting.keys ≡ kept (λ (slot : Slot). is_waiting slot.chunk.stage) slots
  waiting_is = same_serials _ _ sound.listed (rising_kept _ slots sound.rising) (λ q. sound.waits q ∙ sym (found_in (λ (slot : Slot). is_waiting slot.chunk.stage) slots q sound.rising))

  -- the waiting serials that are queued are those of the state, rising
  pub waiting_queued : filter (passes_at is_queued slots) waiting.keys ≡ queued_rising (state_of slots order.items next)
  waiting_queued = same_serials _ _ (IsStrictlySortedBy-filter nat_cmp (passes_at is_queued slots) _ sound.listed) (rising_kept (λ (slot : Slot). is_queued slot.chunk.stage) slots sound.rising)
      (λ q. any-filter_same (is_at (nat_cmp q)) (passes_at is_queued slots) (passes_at is_queued slots q) (λ k e. ap (passes_at is_queued slots) (sym (at_same q k e))) waiting.keys
      ∙ ap (λ b. passes_at is_queued slots q && b) (sound.waits q) ∙ waits_too (slot_at slots q)
      ∙ sym (found_in (λ (slot : Slot). is_queued slot.chunk.stage) slots q sound.rising))
      ∙ sym (kept_chunks (λ (chunk : Chunk). is_queued chunk.stage) slots) ∙ sym (kept_is (λ (chunk : Chunk). is_queued chunk.stage) (chunks_in slots))

  pub waiting_claims : claims slots ≤ length waiting.keys
  waiting_claims = rw waiting_is (claims_kept slots)

-- an option with a value of which something holds
pub and_some : {X : Type 0} (o : Option X) (P : X → Type 0) (x : X) → o ≡ Some x → P x → IsSomeAnd o P
and_some o P x at h = rw at h

-- what a change of a chunk that is there gives
pub changed_is : (slots : Slots) (s : ℕ) (change : Slot → Slot) (v : Slot) → slot_at slots s ≡ Some v → changed_at s change slots ≡ set_value (is_at (nat_cmp s)) slots (change v)
changed_is slots s change v at = rw at refl

pub size_there : (slots : Slots) (xs : List ℕ) (next s : ℕ) (v : Slot) → slot_at slots s ≡ Some v → size_at (state_of slots xs next) s ≡ slot_size v
size_there slots xs next s v at = ap (λ o. option_map_or (λ (chunk : Chunk). size chunk.entries) o 0) (chunk_there slots xs next s v at)

pub size_none : (slots : Slots) (xs : List ℕ) (next s : ℕ) → slot_at slots s ≡ None → size_at (state_of slots xs next) s ≡ 0
size_none slots xs next s at = ap (λ o. option_map_or (λ (chunk : Chunk). size chunk.entries) o 0) (lookup_chunks slots s ∙ ap (option_map (λ (slot : Slot). slot.chunk)) at)

-- where entries go, by the newest staged chunk of their tag
pub placed : (limit bytes : ℕ) (tag : List ℕ) (state : State) (newest : Option ℕ) → newest_staged state tag ≡ newest
    → place_within limit state tag bytes ≡ option_map_or (λ serial. cond (nat_le (size_at state serial + bytes) limit) serial state.next) newest state.next
placed limit bytes tag state newest is = rw is refl

-- a chunk that waits is among those that wait
pub waits_itself : {A : Type 0} (slots : Slots) (waiting : BTreeSet ℕ) (order : VecDeque ℕ A) (next : ℕ) → IsSound slots waiting order next → (s : ℕ) (v : Slot) → slot_at slots s ≡ Some v
    → is_waiting v.chunk.stage ≡ true → (q : ℕ) → contains nat_cmp waiting q ≡ cond (is_at (nat_cmp s) q) true (contains nat_cmp waiting q)
waits_itself slots waiting order next sound s v at waits q = by (is_at (nat_cmp s) q) refl
  where
    by : (b : Bool) → is_at (nat_cmp s) q ≡ b → contains nat_cmp waiting q ≡ cond b true (contains nat_cmp waiting q)
    by false e = refl
    by true e = sound.waits q ∙ ap (passes_at is_waiting slots) (sym (at_same s q e)) ∙ passes_itself is_waiting slots s v at ∙ waits

-- the view where the first that is queued is claimed
pub claim_ended : {A : Type 0} (slots : Slots) (waiting : BTreeSet ℕ) (order : VecDeque ℕ A) (next : ℕ) → IsSound slots waiting order next → (s : ℕ) (v : Slot) (xs : List ℕ) → slot_at slots s ≡ Some v
    → v.chunk.stage ≡ Queued → IsEndOf (s ∷ xs) order.items → filter (passes_at is_queued slots) order.items ≡ filter (passes_at is_queued slots) (s ∷ xs)
    → state_of (set_value (is_at (nat_cmp s)) slots (put Claimed v)) xs next ≡ claimed (state_of slots order.items next)
claim_ended slots waiting order next sound s v xs at was end same =
    claim_view slots next s v at xs was (without_rest s xs (distinct_end end.0 (s ∷ xs) (subst (IsDistinct nat_eq) end.1 sound.distinct)))
    ∙ ap (λ (queue : List ℕ). claimed (parts (chunks_in slots) next queue)) (sym same)

-- the set of waiting serials, with the same serials
pub sound_waiting : {A : Type 0} (slots : Slots) (waiting new : BTreeSet ℕ) (order : VecDeque ℕ A) (next : ℕ) → new.keys ≡ waiting.keys → IsSound slots waiting order next → IsSound slots new order next
sound_waiting slots waiting new order next same sound = record {
  rising = sound.rising;
  below = sound.below;
  distinct = sound.distinct;
  free = sound.free;
  room = sound.room;
  waits = λ q. ap (list_any (is_at (nat_cmp q))) same ∙ sound.waits q;
  listed = rw same sound.listed;
}

-- a serial that passes is that of a chunk
pub passed : (slots : Slots) (s : ℕ) → passes_at is_queued slots s ≡ true → (v : Slot) × (slot_at slots s ≡ Some v) × (v.chunk.stage ≡ Queued)
passed slots s h = by (slot_at slots s) refl h
  where
    stage_is : (stage : Stage) → is_queued stage ≡ true → stage ≡ Queued
    stage_is Staged e = absurd (true≢false (sym e))
    stage_is Queued e = refl
    stage_is Claimed e = absurd (true≢false (sym e))

    by : (o : Option Slot) → slot_at slots s ≡ o → option_map_or (λ slot. is_queued slot.chunk.stage) o false ≡ true → (v : Slot) × (slot_at slots s ≡ Some v) × (v.chunk.stage ≡ Queued)
    by None at e = absurd (true≢false (sym e))
    by (Some v) at e = (v, at, stage_is v.chunk.stage e)

-- the queue in order

rising_distinct : (xs : List ℕ) → IsStrictlySortedBy nat_cmp xs → IsDistinct nat_eq xs
unfolding IsStrictlySortedBy IsDistinct
rising_distinct [] h = tt
rising_distinct (x ∷ xs) h = (all_map (λ y. nat_cmp x y ≡ Less) (λ y. nat_eq x y ≡ false) (less_apart x) xs h.0, rising_distinct xs h.1)
  where
    less_apart : (x y : ℕ) → nat_cmp x y ≡ Less → nat_eq x y ≡ false
    less_apart x y e = by (nat_eq x y) refl
      where
        by : (b : Bool) → nat_eq x y ≡ b → b ≡ false
        by false f = refl
        by true f = absurd (true≢false (sym (at_itself y) ∙ ap (λ (t : ℕ). is_at (nat_cmp t) y) (sym (eqb-true x y f)) ∙ ap is_eq e))

filter_pass : (p : ℕ → Bool) (xs : List ℕ) → AllByRecursion (λ q. p q ≡ true) (filter p xs)
filter_pass p [] = tt
filter_pass p (x ∷ xs) = by (p x) refl (filter_pass p xs)
  where
    by : (b : Bool) → p x ≡ b → AllByRecursion (λ q. p q ≡ true) (filter p xs) → AllByRecursion (λ q. p q ≡ true) (cond b (x ∷ filter p xs) (filter p xs))
    by true e rest = (e, rest)
    by false e rest = rest

pub sound_settled : {A : Type 0} (slots : Slots) (waiting : BTreeSet ℕ) (order new : VecDeque ℕ A) (next : ℕ) → IsSound slots waiting order next
    → new.items ≡ filter (passes_at is_queued slots) waiting.keys → deque_len new ≤ length waiting.keys → length waiting.keys + length waiting.keys ≤ deque_capacity new → IsSound slots waiting new next
sound_settled slots waiting order new next sound items len cap = record {
  rising = sound.rising;
  below = sound.below;
  distinct = rw items (rising_distinct _ (IsStrictlySortedBy-filter nat_cmp (passes_at is_queued slots) _ sound.listed));
  free = rw items (all_map (λ q. passes_at is_queued slots q ≡ true) (IsFree slots next) (λ q e. (let v = passed slots q e in (below_at slots next q v.0 sound.below v.1, rw v.1 v.2))) _ (filter_pass (passes_at is_queued slots) waiting.keys));
  room = (let h = waiting_claims slots waiting order next sound in omega (arith, h, len, cap));
  waits = sound.waits;
  listed = sound.listed;
}

-- what is settled stays when it is filtered again
pub settled_view : {A : Type 0} (slots : Slots) (waiting : BTreeSet ℕ) (order : VecDeque ℕ A) (next : ℕ) (xs : List ℕ) → IsSound slots waiting order next
    → xs ≡ filter (passes_at is_queued slots) waiting.keys → state_of slots xs next ≡ settled (state_of slots order.items next)
settled_view slots waiting order next xs sound items = ap (parts (chunks_in slots) next) (
    ap (filter (passes_at is_queued slots)) items ∙ filter_again (passes_at is_queued slots) waiting.keys ∙ waiting_queued slots waiting order next sound)
  where
    filter_again : (p : ℕ → Bool) (xs : List ℕ) → filter p (filter p xs) ≡ filter p xs
    filter_again p [] = refl
    filter_again p (x ∷ xs) = by (p x) refl (filter_again p xs)
      where
        by : (b : Bool) → p x ≡ b → filter p (filter p xs) ≡ filter p xs → filter p (cond b (x ∷ filter p xs) (filter p xs)) ≡ cond b (x ∷ filter p xs) (filter p xs)
        by true e rest = rw e (ap (λ r. x ∷ r) rest)
        by false e rest = rest

-- The newest staged chunk of a tag

last_in : (xs : List ℕ) (o : Option ℕ) (s : ℕ) → last_or o xs ≡ Some s → (o ≡ Some s) ⊎ (list_any (is_at (nat_cmp s)) xs ≡ true)
last_in [] o s e = inl e
last_in (x ∷ xs) o s e = elim (last_in xs (Some x) s e) [
  | inl same ↦ inr (rw (ap (is_at (nat_cmp s)) (same_Some x s same) ∙ at_itself s) refl)
  | inr found ↦ inr (by (is_at (nat_cmp s) x) found)
]
  where
    by : (b : Bool) → list_any (is_at (nat_cmp s)) xs ≡ true → b || list_any (is_at (nat_cmp s)) xs ≡ true
    by true found = refl
    by false found = found

-- it is a staged chunk of the tag
pub newest_there : (slots : Slots) (tag : List ℕ) (s : ℕ) → IsStrictlySortedBy nat_cmp (keys_of slots) → last_or None (staged_in slots tag) ≡ Some s
    → (v : Slot) × (slot_at slots s ≡ Some v) × (v.chunk.stage ≡ Staged) × (v.chunk.tag ≡ tag)
newest_there slots tag s rising newest = elim (last_in (staged_in slots tag) None s newest) [
  | inl never ↦ absurd (cc never)
  | inr found ↦ by (slot_at slots s) refl (sym (found_in test slots s rising) ∙ ap (list_any (is_at (nat_cmp s))) (sym (kept_is test slots)) ∙ found)
]
  where
    test : Slot → Bool
    test slot = is_staged slot.chunk.stage && bytes_eq tag slot.chunk.tag

    staged : (stage : Stage) (b : Bool) → is_staged stage && b ≡ true → (stage ≡ Staged) × (b ≡ true)
    staged Staged b e = (refl, e)
    staged Queued b e = absurd (true≢false (sym e))
    staged Claimed b e = absurd (true≢false (sym e))

    by : (o : Option Slot) → slot_at slots s ≡ o → option_map_or test o false ≡ true → (v : Slot) × (slot_at slots s ≡ Some v) × (v.chunk.stage ≡ Staged) × (v.chunk.tag ≡ tag)
    by None at e = absurd (true≢false (sym e))
    by (Some v) at e = (let h = staged v.chunk.stage (bytes_eq tag v.chunk.tag) e in (v, at, h.0, sym (same_tag tag v.chunk.tag h.1)))

pub staged_there : (slots : Slots) (xs : List ℕ) (next s : ℕ) (tag : List ℕ) → IsStrictlySortedBy nat_cmp (keys_of slots) → last_or None (staged_in slots tag) ≡ Some s → IsStagedOf (state_of slots xs next) s tag
staged_there slots xs next s tag rising newest =
    let v = newest_there slots tag s rising newest in
    and_some _ (λ (chunk : Chunk). (chunk.stage ≡ Staged) × (chunk.tag ≡ tag)) v.0.chunk (chunk_there slots xs next s v.0 v.1) (v.2, v.3)

-- where entries go by a plan they can be appended
pub place_can : {A : Type 0} (slots : Slots) (waiting : BTreeSet ℕ) (order : VecDeque ℕ A) (next place : ℕ) (tag : List ℕ) (entries : List (List ℕ)) → IsSound slots waiting order next
    → (IsStagedOf (state_of slots order.items next) place tag × (size_at (state_of slots order.items next) place + size entries ≤ greatest_size)) ⊎ (place ≡ next)
    → (place ≡ next → next < last_serial) → size entries ≤ greatest_size → CanAppend (state_of slots order.items next) place tag entries
place_can slots waiting order next place tag entries sound here more small = elim here [
  | inl old ↦ record { place = inl old.0; small = old.1 }
  | inr new ↦ (
      let lt = more new in
      let none : size_at (state_of slots order.items next) place ≡ 0 = rw new (size_none slots order.items next next (lookup_above slots next sound.below)) in
      record { place = inr (omega (arith, new), omega (arith, new, lt)); small = omega (arith, none, small) }
      )
]
