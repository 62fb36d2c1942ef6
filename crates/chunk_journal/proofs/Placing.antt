-- The places of entries as a journal goes on.
use Rattle.std.proofs.Common.{◌≡◌, ℕ, ◌-◌, Bool, true, false, cond, List, [], ◌∷◌, ◌++◌, length, take, drop, Option, Some, None, refl, sym, ap, ap₂, subst, ◌∙◌, arith}
use Rattle.std.specs.Prelude.{◌≢◌}
use Rattle.std.specs.Option.{option_map_or}
use Rattle.std.specs.List.{AllByRecursion, concat}
use Rattle.std.specs.List.Sorted.{IsStrictlySortedBy}
use Rattle.std.specs.Map.{keys_of}
use Rattle.std.specs.Ordering.{nat_cmp}
use Rattle.std.specs.BTreeMap.{is_at}
use Rattle.std.proofs.lemmas.Bool.{true≢false}
use Rattle.std.proofs.lemmas.List.{flat_map_more, length-append, length-drop, length-take, take-append-le, drop-append-le}
use Rattle.std.proofs.lemmas.List.Folds.{concat-append}
use Rattle.buffer_state.specs.declared.chunk.Stage.{Stage}
use Rattle.buffer_state.specs.declared.chunk.Stage.TheVariants.{Staged, Queued}
use Rattle.buffer_state.specs.State.{Chunk, State, chunk_at, size}
use Rattle.buffer_state.specs.Steps.{with_chunk, appended, added, restaged, removed}
use Rattle.buffer_state.proofs.Serials.{at_same, at_itself, other_way}
use Rattle.buffer_state.proofs.Slots.{set_at, removed_at, last_at}
use Rattle.chunk_journal.specs.declared.places.Extent.{Extent}
use Rattle.chunk_journal.specs.Records.{Seal, Append, Queue, Purge}
use Rattle.chunk_journal.specs.Meaning.{after}
use Rattle.chunk_journal.specs.Laws.{PlacesFollow}
use Rattle.chunk_journal.specs.Places.{places_at, bytes_from, bytes_at, IsWithin, LieAt, entries_at, extent_before, EndsAt}

-- ---- bytes that stay where they are

bytes_stay : (seen more : List ℕ) (extents : List Extent) → AllByRecursion (IsWithin (length seen)) extents → bytes_at (seen ++ more) extents ≡ bytes_at seen extents
bytes_stay seen more [] all = refl
bytes_stay seen more (e ∷ es) all =
    let le = all.0 in
    let d : drop e.at (seen ++ more) ≡ drop e.at seen ++ more = drop-append-le e.at seen more (omega (arith, le)) in
    let t : bytes_from (seen ++ more) e ≡ bytes_from seen e = ap (take e.length) d ∙ take-append-le e.length (drop e.at seen) more (omega (arith, le, length-drop e.at seen)) in
    ap₂ (λ (x y : List ℕ). x ++ y) t (bytes_stay seen more es all.1)

within_more : (seen more : List ℕ) (extents : List Extent) → AllByRecursion (IsWithin (length seen)) extents → AllByRecursion (IsWithin (length (seen ++ more))) extents
within_more seen more [] all = tt
within_more seen more (e ∷ es) all = ((let le = all.0 in omega (arith, le, length-append seen more)), within_more seen more es all.1)

within_last : (count : ℕ) (extents : List Extent) (extent : Extent) → AllByRecursion (IsWithin count) extents → IsWithin count extent → AllByRecursion (IsWithin count) (extents ++ extent ∷ [])
within_last count [] extent all one = (one, tt)
within_last count (e ∷ es) extent all one = (all.0, within_last count es extent all.1 one)

-- the same bytes at the same places, whatever follows
pub lie_on : (seen more : List ℕ) (extents others : List Extent) (bytes same : List ℕ) → LieAt seen extents bytes → others ≡ extents → same ≡ bytes → LieAt (seen ++ more) others same
lie_on seen more extents others bytes same l e b =
    subst (λ (xs : List Extent). LieAt (seen ++ more) xs same) (sym e) (subst (LieAt (seen ++ more) extents) (sym b)
    (within_more seen more extents l.0, bytes_stay seen more extents l.0 ∙ l.1))

-- no places, no bytes
pub lie_none : (seen : List ℕ) (extents : List Extent) (bytes : List ℕ) → extents ≡ [] → bytes ≡ [] → LieAt seen extents bytes
lie_none seen extents bytes e b = subst (λ (xs : List Extent). LieAt seen xs bytes) (sym e) (subst (LieAt seen []) (sym b) (tt, refl))

-- one place more
lie_last : (seen : List ℕ) (extents : List Extent) (extent : Extent) (bytes more : List ℕ) → LieAt seen extents bytes → more ≡ bytes_from seen extent → IsWithin (length seen) extent
    → LieAt seen (extents ++ extent ∷ []) (bytes ++ more)
lie_last seen extents extent bytes more l here within =
    (within_last (length seen) extents extent l.0 within, sym (flat_map_more (bytes_from seen) [] extents extent) ∙ ap₂ (λ (x y : List ℕ). x ++ y) l.1 (sym here))

-- entries that end there are within the bytes
ends_within : (seen : List ℕ) (entries : List (List ℕ)) (end : ℕ) → EndsAt seen (Append 0 [] entries) end → IsWithin (length seen) (extent_before end (size entries))
ends_within seen entries end ends =
    let n : size entries ≡ length (bytes_from seen (extent_before end (size entries))) = ap length ends.0 in
    let t = length-take (size entries) (drop (end - size entries) seen) in
    let d = length-drop (end - size entries) seen in
    let le = ends.1 in
    omega (arith, n, t, d, le)

-- another serial, by its test
pub others_at : (s q : ℕ) → is_at (nat_cmp s) q ≡ false → q ≢ s
others_at s q off e = true≢false (sym (at_itself s) ∙ ap (is_at (nat_cmp s)) (sym e) ∙ off)

-- ---- the entries of a live chunk after a record

-- the bytes of a chunk's entries, where there is one
abbrev bytes_of : Option Chunk → List ℕ
bytes_of o = option_map_or (λ chunk. concat chunk.entries) o []

module _ (state : State) (s q : ℕ) where
  changed_at : (old new : Chunk) → chunk_at state s ≡ Some old → entries_at (with_chunk s new state) q ≡ cond (is_at (nat_cmp s) q) (concat new.entries) (entries_at state q)
  changed_at old new at = ap bytes_of (set_at state.chunks s q old new at) ∙ by (is_at (nat_cmp s) q)
    where
      by : (b : Bool) → bytes_of (cond b (Some new) (chunk_at state q)) ≡ cond b (concat new.entries) (entries_at state q)
      by true = refl
      by false = refl

  -- the bytes of the chunk of the serial that a test found
  here_at : is_at (nat_cmp s) q ≡ true → entries_at state s ≡ entries_at state q
  here_at at = ap (entries_at state) (at_same s q at)

  restaged_at : (stage : Stage) → entries_at (restaged s stage state) q ≡ entries_at state q
  restaged_at stage = by (chunk_at state s) refl
    where
      same : (chunk : Chunk) → chunk_at state s ≡ Some chunk → (b : Bool) → is_at (nat_cmp s) q ≡ b → cond b (concat chunk.entries) (entries_at state q) ≡ entries_at state q
      same chunk at true e = ap bytes_of (sym at) ∙ here_at e
      same chunk at false e = refl

      by : (o : Option Chunk) → chunk_at state s ≡ o → entries_at (option_map_or (λ chunk. with_chunk s (record chunk { stage = stage }) state) o state) q ≡ entries_at state q
      by None at = refl
      by (Some chunk) at = changed_at chunk (record chunk { stage = stage }) at ∙ same chunk at (is_at (nat_cmp s) q) refl

  appended_at : (tag : List ℕ) (entries : List (List ℕ)) → entries_at (appended s tag entries state) q ≡ cond (is_at (nat_cmp s) q) (entries_at state s ++ concat entries) (entries_at state q)
  appended_at tag entries = by (chunk_at state s) refl
    where
      new : Chunk
      new = record { tag = tag; entries = entries; stage = Staged }

      first : chunk_at state s ≡ None → (b : Bool) → is_at (nat_cmp s) q ≡ b
          → bytes_of (option_map_or Some (chunk_at state q) (cond (is_at (nat_cmp q) s) (Some new) None)) ≡ cond b (entries_at state s ++ concat entries) (entries_at state q)
      first at true e = rw (sym (at_same s q e), at, at_itself s) refl
      first at false e = rw (other_way s q e) (by_chunk (chunk_at state q))
        where
          by_chunk : (o : Option Chunk) → bytes_of (option_map_or Some o None) ≡ bytes_of o
          by_chunk None = refl
          by_chunk (Some chunk) = refl

      by : (o : Option Chunk) → chunk_at state s ≡ o
          → entries_at (option_map_or (λ chunk. with_chunk s (record chunk { entries = chunk.entries ++ entries }) state) o (added s tag entries state)) q
          ≡ cond (is_at (nat_cmp s) q) (entries_at state s ++ concat entries) (entries_at state q)
      by None at = ap bytes_of (last_at state.chunks s q new) ∙ first at (is_at (nat_cmp s) q) refl
      by (Some chunk) at =
          changed_at chunk (record chunk { entries = chunk.entries ++ entries }) at
          ∙ ap (λ (bytes : List ℕ). cond (is_at (nat_cmp s) q) bytes (entries_at state q)) (concat-append chunk.entries entries ∙ ap (λ (bytes : List ℕ). bytes ++ concat entries) (ap bytes_of (sym at)))

  gone_at : IsStrictlySortedBy nat_cmp (keys_of state.chunks) → entries_at (removed s state) q ≡ cond (is_at (nat_cmp s) q) [] (entries_at state q)
  gone_at rising = ap bytes_of (removed_at state.chunks s q rising) ∙ by (is_at (nat_cmp s) q)
    where
      by : (b : Bool) → bytes_of (cond b None (chunk_at state q)) ≡ cond b [] (entries_at state q)
      by true = refl
      by false = refl

-- ---- a record comes

pub places_follow : PlacesFollow
places_follow seen more old new state (Seal next) end rising placed ends moved = λ q. lie_on seen more (places_at old q) (places_at new q) (entries_at state q) (entries_at state q) (placed q) (moved q) refl
places_follow seen more old new state (Queue s) end rising placed ends moved =
    λ q. lie_on seen more (places_at old q) (places_at new q) (entries_at state q) (entries_at (after state (Queue s)) q) (placed q) (moved q) (restaged_at state s q Queued)
places_follow seen more old new state (Append s tag entries) end rising placed ends moved = λ q. by q (is_at (nat_cmp s) q) refl
  where
    here : LieAt (seen ++ more) (places_at new s) (entries_at state s ++ concat entries)
    here = subst (λ (xs : List Extent). LieAt (seen ++ more) xs (entries_at state s ++ concat entries)) (sym moved.here)
        (lie_last (seen ++ more) (places_at old s) (extent_before end (size entries)) (entries_at state s) (concat entries) (lie_on seen more (places_at old s) (places_at old s) (entries_at state s) (entries_at state s) (placed s) refl refl)
        ends.0 (ends_within (seen ++ more) entries end ends))

    by : (q : ℕ) (b : Bool) → is_at (nat_cmp s) q ≡ b → LieAt (seen ++ more) (places_at new q) (entries_at (after state (Append s tag entries)) q)
    by q true e = subst (λ (t : ℕ). LieAt (seen ++ more) (places_at new t) (entries_at (appended s tag entries state) t)) (at_same s q e)
        (subst (LieAt (seen ++ more) (places_at new s)) (sym (appended_at state s s tag entries ∙ ap (λ (b : Bool). cond b (entries_at state s ++ concat entries) (entries_at state s)) (at_itself s))) here)
    by q false e = lie_on seen more (places_at old q) (places_at new q) (entries_at state q) (entries_at (after state (Append s tag entries)) q) (placed q) (moved.others q (others_at s q e))
        (appended_at state s q tag entries ∙ ap (λ (b : Bool). cond b (entries_at state s ++ concat entries) (entries_at state q)) e)
places_follow seen more old new state (Purge s) end rising placed ends moved = λ q. by q (is_at (nat_cmp s) q) refl
  where
    by : (q : ℕ) (b : Bool) → is_at (nat_cmp s) q ≡ b → LieAt (seen ++ more) (places_at new q) (entries_at (after state (Purge s)) q)
    by q true e = lie_none (seen ++ more) (places_at new q) (entries_at (after state (Purge s)) q) (ap (places_at new) (sym (at_same s q e)) ∙ moved.gone)
        (gone_at state s q rising ∙ ap (λ (b : Bool). cond b [] (entries_at state q)) e)
    by q false e = lie_on seen more (places_at old q) (places_at new q) (entries_at state q) (entries_at (after state (Purge s)) q) (placed q) (moved.others q (others_at s q e))
        (gone_at state s q rising ∙ ap (λ (b : Bool). cond b [] (entries_at state q)) e)
