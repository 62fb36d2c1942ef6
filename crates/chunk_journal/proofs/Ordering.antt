-- The serials of live chunks rise.
use Rattle.std.proofs.Common.{◌≡◌, ◌⊎◌, inl, inr, ℕ, ◌+◌, ◌<◌, ◌≤◌, Bool, true, false, cond, List, [], ◌∷◌, ◌++◌, Option, Some, None, refl, sym, subst, arith}
use Rattle.std.specs.Prelude.{IsSomeAnd}
use Rattle.std.specs.Option.{option_map_or}
use Rattle.std.specs.declared.cmp.Ordering.TheVariants.{Less}
use Rattle.std.specs.List.{AllByRecursion}
use Rattle.std.specs.List.Sorted.{IsStrictlySortedBy}
use Rattle.std.specs.Map.{remove_entry, keys_of}
use Rattle.std.specs.Ordering.{nat_cmp}
use Rattle.std.specs.BTreeMap.{is_at}
use Rattle.std.proofs.lemmas.List.{map-append}
use Rattle.std.proofs.lemmas.Map.{keys-set_value}
use Rattle.buffer_state.specs.declared.chunk.Stage.TheVariants.{Staged, Queued}
use Rattle.buffer_state.specs.Slots.{AreBelow}
use Rattle.buffer_state.specs.State.{Chunk, Numbered, State, chunk_at, empty, IsStagedOf}
use Rattle.buffer_state.specs.Steps.{CanAppend, with_chunk, appended, added, last_serial}
use Rattle.buffer_state.proofs.Slots.{all_last}
use Rattle.buffer_state.proofs.Steps.{below_more, rising_last}
use Rattle.chunk_journal.specs.Records.{Record, Seal, Append, Queue, Purge}
use Rattle.chunk_journal.specs.Meaning.{Tells, Allows, Each, after, after_all}
use Rattle.chunk_journal.specs.Laws.{LeadsInOrder, TellsInOrder}
use Rattle.chunk_journal.specs.Replaying.{Stands}

-- the serials rise, and all are below the next
pub record Rises (state : State) : Type 0 where
  pub rising : IsStrictlySortedBy nat_cmp (keys_of state.chunks)
  pub below : AreBelow state.next (keys_of state.chunks)

-- ---- an entry goes

module _ (P : ℕ → Type 0) (test : ℕ → Bool) where
  all_gone : (es : List Numbered) → AllByRecursion P (keys_of es) → AllByRecursion P (keys_of (remove_entry test es))
  all_gone [] h = tt
  all_gone (e ∷ es) h = by (test e.0) (all_gone es h.1)
    where
      by : (b : Bool) → AllByRecursion P (keys_of (remove_entry test es)) → AllByRecursion P (keys_of (cond b es (e ∷ remove_entry test es)))
      by true rest = h.1
      by false rest = (h.0, rest)

rising_gone : (test : ℕ → Bool) (es : List Numbered) → IsStrictlySortedBy nat_cmp (keys_of es) → IsStrictlySortedBy nat_cmp (keys_of (remove_entry test es))
unfolding IsStrictlySortedBy
rising_gone test [] h = tt
rising_gone test (e ∷ es) h = by (test e.0) (rising_gone test es h.1)
  where
    by : (b : Bool) → IsStrictlySortedBy nat_cmp (keys_of (remove_entry test es)) → IsStrictlySortedBy nat_cmp (keys_of (cond b es (e ∷ remove_entry test es)))
    by true rest = h.1
    by false rest = (all_gone (λ q. nat_cmp e.0 q ≡ Less) test es h.0, rest)

-- ---- each record

module _ (state : State) (r : Rises state) where
  next_rises : (n : ℕ) → state.next ≤ n → Rises (record state { next = n })
  next_rises n le = record { rising = r.rising; below = below_more state.next n (keys_of state.chunks) le r.below }

  changed_rises : (s : ℕ) (chunk : Chunk) → Rises (with_chunk s chunk state)
  changed_rises s chunk =
      let k = keys-set_value (is_at (nat_cmp s)) state.chunks chunk in
      record { rising = subst (IsStrictlySortedBy nat_cmp) (sym k) r.rising; below = subst (AreBelow state.next) (sym k) r.below }

  added_rises : (s : ℕ) (tag : List ℕ) (entries : List (List ℕ)) → state.next ≤ s → Rises (added s tag entries state)
  added_rises s tag entries le =
      let k : keys_of (added s tag entries state).chunks ≡ keys_of state.chunks ++ s ∷ [] = map-append (λ (e : Numbered). e.0) state.chunks ((s, record { tag = tag; entries = entries; stage = Staged }) ∷ []) in
      record {
        rising = subst (IsStrictlySortedBy nat_cmp) (sym k) (rising_last (keys_of state.chunks) s r.rising (below_more state.next s (keys_of state.chunks) le r.below));
        below = subst (AreBelow (s + 1)) (sym k) (all_last (λ q. q < s + 1) (keys_of state.chunks) s (below_more state.next (s + 1) (keys_of state.chunks) (omega (arith, le)) r.below) (omega arith));
      }

  appended_rises : (s : ℕ) (tag : List ℕ) (entries : List (List ℕ)) → CanAppend state s tag entries → Rises (appended s tag entries state)
  appended_rises s tag entries can = by (chunk_at state s) refl
    where
      new : chunk_at state s ≡ None → IsStagedOf state s tag ⊎ ((state.next ≤ s) × (s < last_serial)) → state.next ≤ s
      new at (inl h) = absurd (subst (λ (o : Option Chunk). IsSomeAnd o (λ chunk. (chunk.stage ≡ Staged) × (chunk.tag ≡ tag))) at h)
      new at (inr h) = h.0

      by : (o : Option Chunk) → chunk_at state s ≡ o → Rises (option_map_or (λ chunk. with_chunk s (record chunk { entries = chunk.entries ++ entries }) state) o (added s tag entries state))
      by None at = added_rises s tag entries (new at can.place)
      by (Some chunk) at = changed_rises s (record chunk { entries = chunk.entries ++ entries })

  queued_rises : (s : ℕ) → Rises (after state (Queue s))
  queued_rises s = (let k = by (chunk_at state s) in record { rising = k.rising; below = k.below })
    where
      by : (o : Option Chunk) → Rises (option_map_or (λ chunk. with_chunk s (record chunk { stage = Queued }) state) o state)
      by None = r
      by (Some chunk) = changed_rises s (record chunk { stage = Queued })

  gone_rises : (s : ℕ) → Rises (after state (Purge s))
  gone_rises s = record { rising = rising_gone (is_at (nat_cmp s)) state.chunks r.rising; below = all_gone (λ q. q < state.next) (is_at (nat_cmp s)) state.chunks r.below }

tells_rises : (state : State) (item : Record) → Tells state item → Rises state → Rises (after state item)
tells_rises state (Seal n) t r = absurd t
tells_rises state (Append s tag entries) t r = appended_rises state r s tag entries t.0
tells_rises state (Queue s) t r = queued_rises state r s
tells_rises state (Purge s) t r = absurd t

allows_rises : (state : State) (item : Record) → Allows state item → Rises state → Rises (after state item)
allows_rises state (Seal n) t r = absurd t
allows_rises state (Append s tag entries) t r = appended_rises state r s tag entries t.0
allows_rises state (Queue s) t r = queued_rises state r s
allows_rises state (Purge s) t r = gone_rises state r s

each_rises : (Fits : State → Record → Type 0) → ((state : State) (item : Record) → Fits state item → Rises state → Rises (after state item))
    → (state : State) (items : List Record) → Each Fits state items → Rises state → Rises (after_all state items)
each_rises Fits one state [] each r = r
each_rises Fits one state (item ∷ items) each r = each_rises Fits one (after state item) items each.1 (one state item each.0 r)

told_rises : (records : List Record) → Each Tells empty records → Rises (after_all empty records)
unfolding IsStrictlySortedBy
told_rises records each = each_rises Tells tells_rises empty records each (record { rising = none; below = tt })
  where
    none : IsStrictlySortedBy nat_cmp []
    none = tt

pub tells_in_order : TellsInOrder
tells_in_order records unsealed = (told_rises records unsealed).rising

pub leads_in_order : LeadsInOrder
leads_in_order records state leads =
    let sealed = next_rises (after_all empty leads.told) (told_rises leads.told leads.tells) leads.next leads.greater in
    subst (λ (z : State). IsStrictlySortedBy nat_cmp (keys_of z.chunks)) (sym leads.here) (each_rises Allows allows_rises (after (after_all empty leads.told) (Seal leads.next)) leads.steps leads.allowed sealed).rising

-- wherever a replay stands
pub stands_in_order : (is_sealed : Bool) (records : List Record) (state : State) → Stands is_sealed records state → IsStrictlySortedBy nat_cmp (keys_of state.chunks)
stands_in_order false records state stands = subst (λ (z : State). IsStrictlySortedBy nat_cmp (keys_of z.chunks)) (sym stands.1) (tells_in_order records stands.0)
stands_in_order true records state stands = leads_in_order records state stands
