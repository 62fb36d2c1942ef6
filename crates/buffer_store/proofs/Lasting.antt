-- What the steps of a journal leave of a chunk that is queued.
use Rattle.std.proofs.Common.{◌≡◌, ◌≢◌, ◌⊎◌, ⊎_elim, inl, inr, ℕ, zero, suc, ◌+◌, ◌<◌, ◌≤◌, Bool, true, false, cond, List, [], ◌∷◌, ◌++◌, take, Option, Some, None, option_map, refl, sym, ap, subst, ◌∙◌, length, arith}
use Rattle.std.specs.Prelude.{IsSomeAnd, IfSome, drop}
use Rattle.std.specs.Option.{option_map_or}
use Rattle.std.specs.List.{AllByRecursion}
use Rattle.std.specs.Ordering.{nat_cmp}
use Rattle.std.specs.BTreeMap.{is_at}
use Rattle.std.specs.Map.{lookup, set_value, remove_entry}
use Rattle.std.proofs.lemmas.Bool.{cases_lt}
use Rattle.std.proofs.lemmas.Option.{same_Some}
use Rattle.disk_files.specs.Disk.{Disk, Folder, StopLeaves}
use Rattle.disk_files.specs.Moments.{History, now}
use Rattle.buffer_state.specs.declared.chunk.Stage.{Stage}
use Rattle.buffer_state.specs.declared.chunk.Stage.TheVariants.{Staged, Queued, Claimed}
use Rattle.buffer_state.specs.State.{State, Chunk, Numbered, chunk_at, empty, IsAt}
use Rattle.buffer_state.specs.Steps.{CanAppend, with_chunk, added, appended, restaged, queued_last, removed, last_serial, settled, reopened, unclaimed}
use Rattle.buffer_state.proofs.Serials.{at_itself, at_below, at_above, at_same}
use Rattle.chunk_journal.specs.Records.{Record, Seal, Append, Queue, Purge}
use Rattle.chunk_journal.specs.Meaning.{Tells, Allows, Each, after, after_all}
use Rattle.journal_files.specs.Disks.{Recovers}
use Rattle.journal_files.specs.Folders.{OpensWithin}
use Rattle.journal_files.specs.JournalLogs.{JournalLog, IsJournalLog, state_of, state_at_seal, reopened_at, all_durable, new_generation}
use Rattle.buffer_store.specs.Buffers.{Held, with_more, durable_if}
use Rattle.buffer_store.specs.Durability.{MayBeLost, LosesOnly, Lasts, LastsNow, IsDurable, IsNamed, Endures, durably}
use Rattle.buffer_store.specs.Laws.{QueuedLasts}
use Rattle.std.proofs.lemmas.Bool.{false≢true}
use Rattle.std.proofs.lemmas.List.{length-append, take-append-le, take_all}
use Rattle.chunk_journal.proofs.Standing.{each_more}
use Rattle.journal_files.specs.JournalLogs.{begun}
use Rattle.journal_files.proofs.Recovery.{recovers}
use Rattle.buffer_store.proofs.Claims.{same_from, chunk_same, free}

-- ---- serials

apart : (n s : ℕ) → n ≢ s → is_at (nat_cmp n) s ≡ false
apart n s differs =
    elim (cases_lt n s) [
      | inl lt ↦ at_above n s lt
      | inr le ↦ elim (cases_lt s n) [
        | inl gt ↦ at_below n s gt
        | inr ge ↦ absurd (differs (omega (arith, le, ge)))
      ]
    ]

-- the serials rise from the least on, and are below the next
abbrev pub Rises : ℕ → List Numbered → ℕ → Type 0
Rises least [] next = least ≤ next
Rises least (e ∷ es) next = (least ≤ e.0) × Rises (e.0 + 1) es next

less_rises : (least less : ℕ) (es : List Numbered) (next : ℕ) → less ≤ least → Rises least es next → Rises less es next
less_rises least less [] next le h = omega (arith, le, h)
less_rises least less (e ∷ es) next le h = (let a = h.0 in omega (arith, le, a), h.1)

rises_on : (least : ℕ) (es : List Numbered) (next more : ℕ) → next ≤ more → Rises least es next → Rises least es more
rises_on least [] next more le h = omega (arith, le, h)
rises_on least (e ∷ es) next more le h = (h.0, rises_on (e.0 + 1) es next more le h.1)

rises_last : (least : ℕ) (es : List Numbered) (next s : ℕ) (w : Chunk) → next ≤ s → Rises least es next → Rises least (es ++ (s, w) ∷ []) (s + 1)
rises_last least [] next s w le h = (omega (arith, le, h), omega arith)
rises_last least (e ∷ es) next s w le h = (h.0, rises_last (e.0 + 1) es next s w le h.1)

rises_set : (test : ℕ → Bool) (least : ℕ) (es : List Numbered) (next : ℕ) (w : Chunk) → Rises least es next → Rises least (set_value test es w) next
rises_set test least [] next w h = h
rises_set test least (e ∷ es) next w h = by (test e.0) (rises_set test (e.0 + 1) es next w h.1)
  where
    by : (b : Bool) → Rises (e.0 + 1) (set_value test es w) next → Rises least (cond b ((e.0, w) ∷ es) (e ∷ set_value test es w)) next
    by true rest = h
    by false rest = (h.0, rest)

rises_removed : (test : ℕ → Bool) (least : ℕ) (es : List Numbered) (next : ℕ) → Rises least es next → Rises least (remove_entry test es) next
rises_removed test least [] next h = h
rises_removed test least (e ∷ es) next h = by (test e.0) (rises_removed test (e.0 + 1) es next h.1)
  where
    by : (b : Bool) → Rises (e.0 + 1) (remove_entry test es) next → Rises least (cond b es (e ∷ remove_entry test es)) next
    by true rest = less_rises (e.0 + 1) least es next (let a = h.0 in omega (arith, a)) h.1
    by false rest = (h.0, rest)

least_next : (least : ℕ) (es : List Numbered) (next : ℕ) → Rises least es next → least ≤ next
least_next least [] next h = h
least_next least (e ∷ es) next h = (let a = h.0 in let b = least_next (e.0 + 1) es next h.1 in omega (arith, a, b))

-- a live chunk's serial is below the next
found_below : (n least : ℕ) (es : List Numbered) (next : ℕ) (c : Chunk) → Rises least es next → lookup (is_at (nat_cmp n)) es ≡ Some c → n < next
found_below n least [] next c h at = absurd (cc at)
found_below n least (e ∷ es) next c h at = by (is_at (nat_cmp n) e.0) refl at (found_below n (e.0 + 1) es next c h.1)
  where
    by : (b : Bool) → is_at (nat_cmp n) e.0 ≡ b → cond b (Some e.1) (lookup (is_at (nat_cmp n)) es) ≡ Some c → (lookup (is_at (nat_cmp n)) es ≡ Some c → n < next) → n < next
    by true is at rest = (let same = at_same n e.0 is in let le = least_next (e.0 + 1) es next h.1 in omega (arith, same, le))
    by false is at rest = rest at

none_less : (n least : ℕ) (es : List Numbered) (next : ℕ) → n < least → Rises least es next → lookup (is_at (nat_cmp n)) es ≡ None
none_less n least [] next lt h = refl
none_less n least (e ∷ es) next lt h = rw (apart n e.0 (λ q. let a = h.0 in omega (arith, q, lt, a))) (none_less n (e.0 + 1) es next (let a = h.0 in omega (arith, lt, a)) h.1)

-- ---- a chunk of another serial stays

lookup_set : (n s : ℕ) (es : List Numbered) (w : Chunk) → n ≢ s → lookup (is_at (nat_cmp n)) (set_value (is_at (nat_cmp s)) es w) ≡ lookup (is_at (nat_cmp n)) es
lookup_set n s [] w differs = refl
lookup_set n s (e ∷ es) w differs = by (is_at (nat_cmp s) e.0) refl (lookup_set n s es w differs)
  where
    by : (b : Bool) → is_at (nat_cmp s) e.0 ≡ b → lookup (is_at (nat_cmp n)) (set_value (is_at (nat_cmp s)) es w) ≡ lookup (is_at (nat_cmp n)) es
        → lookup (is_at (nat_cmp n)) (cond b ((e.0, w) ∷ es) (e ∷ set_value (is_at (nat_cmp s)) es w)) ≡ cond (is_at (nat_cmp n) e.0) (Some e.1) (lookup (is_at (nat_cmp n)) es)
    by true is rest = (let here : is_at (nat_cmp n) e.0 ≡ false = apart n e.0 (λ q. differs (q ∙ sym (at_same s e.0 is))) in rw here refl)
    by false is rest = ap (cond (is_at (nat_cmp n) e.0) (Some e.1)) rest

lookup_removed : (n s : ℕ) (es : List Numbered) → n ≢ s → lookup (is_at (nat_cmp n)) (remove_entry (is_at (nat_cmp s)) es) ≡ lookup (is_at (nat_cmp n)) es
lookup_removed n s [] differs = refl
lookup_removed n s (e ∷ es) differs = by (is_at (nat_cmp s) e.0) refl (lookup_removed n s es differs)
  where
    by : (b : Bool) → is_at (nat_cmp s) e.0 ≡ b → lookup (is_at (nat_cmp n)) (remove_entry (is_at (nat_cmp s)) es) ≡ lookup (is_at (nat_cmp n)) es
        → lookup (is_at (nat_cmp n)) (cond b es (e ∷ remove_entry (is_at (nat_cmp s)) es)) ≡ cond (is_at (nat_cmp n) e.0) (Some e.1) (lookup (is_at (nat_cmp n)) es)
    by true is rest = (let here : is_at (nat_cmp n) e.0 ≡ false = apart n e.0 (λ q. differs (q ∙ sym (at_same s e.0 is))) in rw here refl)
    by false is rest = ap (cond (is_at (nat_cmp n) e.0) (Some e.1)) rest

lookup_more : (n s : ℕ) (es : List Numbered) (w : Chunk) → n ≢ s → lookup (is_at (nat_cmp n)) (es ++ (s, w) ∷ []) ≡ lookup (is_at (nat_cmp n)) es
lookup_more n s [] w differs = rw (apart n s differs) refl
lookup_more n s (e ∷ es) w differs = ap (cond (is_at (nat_cmp n) e.0) (Some e.1)) (lookup_more n s es w differs)

-- that of the serial itself is gone
lookup_gone : (s least : ℕ) (es : List Numbered) (next : ℕ) → Rises least es next → lookup (is_at (nat_cmp s)) (remove_entry (is_at (nat_cmp s)) es) ≡ None
lookup_gone s least [] next h = refl
lookup_gone s least (e ∷ es) next h = by (is_at (nat_cmp s) e.0) refl (lookup_gone s (e.0 + 1) es next h.1)
  where
    by : (b : Bool) → is_at (nat_cmp s) e.0 ≡ b → lookup (is_at (nat_cmp s)) (remove_entry (is_at (nat_cmp s)) es) ≡ None
        → lookup (is_at (nat_cmp s)) (cond b es (e ∷ remove_entry (is_at (nat_cmp s)) es)) ≡ None
    by true is rest = none_less s (e.0 + 1) es next (let same = at_same s e.0 is in omega (arith, same)) h.1
    by false is rest = rw is rest

-- ---- each step

-- the serials of a state rise
abbrev pub Rising : State → Type 0
Rising s = Rises 0 s.chunks s.next

rising_appended : (s : State) (serial : ℕ) (tag : List ℕ) (entries : List (List ℕ)) → CanAppend s serial tag entries → Rising s → Rising (appended serial tag entries s)
rising_appended s serial tag entries can h = by (chunk_at s serial) refl can.place
  where
    by : (o : Option Chunk) → chunk_at s serial ≡ o → IsSomeAnd o (λ chunk. (chunk.stage ≡ Staged) × (chunk.tag ≡ tag)) ⊎ ((s.next ≤ serial) × (serial < last_serial))
        → Rising (option_map_or (λ chunk. with_chunk serial (record chunk { entries = chunk.entries ++ entries }) s) o (added serial tag entries s))
    by None at (inl no_chunk) = absurd no_chunk
    by None at (inr new) = rises_last 0 s.chunks s.next serial (record { tag = tag; entries = entries; stage = Staged }) new.0 h
    by (Some c) at place = rises_set (is_at (nat_cmp serial)) 0 s.chunks s.next (record c { entries = c.entries ++ entries }) h

rising_restaged : (s : State) (serial : ℕ) (stage : Stage) → Rising s → Rising (restaged serial stage s)
rising_restaged s serial stage h = by (chunk_at s serial)
  where
    by : (o : Option Chunk) → Rising (option_map_or (λ chunk. with_chunk serial (record chunk { stage = stage }) s) o s)
    by None = h
    by (Some c) = rises_set (is_at (nat_cmp serial)) 0 s.chunks s.next (record c { stage = stage }) h

rising_told : (s : State) (item : Record) → Tells s item → Rising s → Rising (after s item)
rising_told s (Seal next) tells h = absurd tells
rising_told s (Append serial tag entries) tells h = rising_appended s serial tag entries tells.0 h
rising_told s (Queue serial) tells h = rising_restaged s serial Queued h
rising_told s (Purge serial) tells h = absurd tells

rising_after : (s : State) (item : Record) → Allows s item → Rising s → Rising (after s item)
rising_after s (Seal next) allowed h = absurd allowed
rising_after s (Append serial tag entries) allowed h = rising_appended s serial tag entries allowed.0 h
rising_after s (Queue serial) allowed h = rising_restaged s serial Queued h
rising_after s (Purge serial) allowed h = rises_removed (is_at (nat_cmp serial)) 0 s.chunks s.next h

rising_all_told : (s : State) (items : List Record) → Each Tells s items → Rising s → Rising (after_all s items)
rising_all_told s [] each h = h
rising_all_told s (x ∷ xs) each h = rising_all_told (after s x) xs each.1 (rising_told s x each.0 h)

pub rising_seal : (t : JournalLog) → IsJournalLog t → Rising (state_at_seal t)
rising_seal t is = (let h = rising_all_told empty t.told is.tells (omega arith) in rises_on 0 (after_all empty t.told).chunks (after_all empty t.told).next t.next is.greater h)

-- the chunk of this serial once the steps went on: queued it is the same or gone, gone it stays
-- gone; and no serial is given again
pub record Follows (n : ℕ) (s later : State) : Type 0 where
  pub next : s.next ≤ later.next
  pub queued : (c : Chunk) → chunk_at s n ≡ Some c → c.stage ≡ Queued → (chunk_at later n ≡ Some c) ⊎ (chunk_at later n ≡ None)
  pub gone : n < s.next → chunk_at s n ≡ None → chunk_at later n ≡ None

follows_self : (n : ℕ) (s : State) → Follows n s s
follows_self n s = record { next = omega arith; queued = λ c at stage. inl at; gone = λ lt none. none }

follows_on : (n : ℕ) (s mid later : State) → Rising s → Follows n s mid → Follows n mid later → Follows n s later
follows_on n s mid later rising one two = record {
  next = (let a = one.next in let b = two.next in omega (arith, a, b));
  queued = λ c at stage. ⊎_elim (λ same. two.queued c same stage) (λ none. inr (two.gone (let lt = found_below n 0 s.chunks s.next c rising at in let a = one.next in omega (arith, lt, a)) none)) (one.queued c at stage);
  gone = λ lt none. two.gone (let a = one.next in omega (arith, lt, a)) (one.gone lt none);
}

-- a state with the same chunk there
same_there : (n : ℕ) (s later : State) → s.next ≤ later.next → chunk_at later n ≡ chunk_at s n → Follows n s later
same_there n s later le same = record { next = le; queued = λ c at stage. inl (same ∙ at); gone = λ lt none. same ∙ none }

-- the serials are one or differ
one_or_two : (n s : ℕ) → (n ≡ s) ⊎ (n ≢ s)
one_or_two n s =
    elim (cases_lt n s) [
      | inl lt ↦ inr (λ q. omega (arith, q, lt))
      | inr le ↦ elim (cases_lt s n) [ inl gt ↦ inr (λ q. omega (arith, q, gt)) | inr ge ↦ inl (omega (arith, le, ge)) ]
    ]

not_queued : Staged ≡ Queued → ⊥
not_queued e = cc e

-- a staged chunk isn't queued
staged_not : (s : State) (n : ℕ) (c : Chunk) (P : Chunk → Type 0) → ((chunk : Chunk) → P chunk → chunk.stage ≡ Staged) → IsSomeAnd (chunk_at s n) P → chunk_at s n ≡ Some c → c.stage ≡ Queued → ⊥
staged_not s n c P is here at stage = by (chunk_at s n) here at
  where
    by : (o : Option Chunk) → IsSomeAnd o P → o ≡ Some c → ⊥
    by None here at = cc at
    by (Some d) here at = not_queued (sym (is d here) ∙ ap (λ (x : Chunk). x.stage) (same_Some d c at) ∙ stage)

appended_other : (n : ℕ) (s : State) (serial : ℕ) (tag : List ℕ) (entries : List (List ℕ)) → n ≢ serial → chunk_at (appended serial tag entries s) n ≡ chunk_at s n
appended_other n s serial tag entries differs = by (chunk_at s serial)
  where
    by : (o : Option Chunk) → chunk_at (option_map_or (λ chunk. with_chunk serial (record chunk { entries = chunk.entries ++ entries }) s) o (added serial tag entries s)) n ≡ chunk_at s n
    by None = lookup_more n serial s.chunks (record { tag = tag; entries = entries; stage = Staged }) differs
    by (Some c) = lookup_set n serial s.chunks (record c { entries = c.entries ++ entries }) differs

next_appended : (s : State) (serial : ℕ) (tag : List ℕ) (entries : List (List ℕ)) → CanAppend s serial tag entries → s.next ≤ (appended serial tag entries s).next
next_appended s serial tag entries can = by (chunk_at s serial) can.place
  where
    by : (o : Option Chunk) → IsSomeAnd o (λ chunk. (chunk.stage ≡ Staged) × (chunk.tag ≡ tag)) ⊎ ((s.next ≤ serial) × (serial < last_serial))
        → s.next ≤ (option_map_or (λ chunk. with_chunk serial (record chunk { entries = chunk.entries ++ entries }) s) o (added serial tag entries s)).next
    by None (inl no_chunk) = absurd no_chunk
    by None (inr new) = (let a = new.0 in omega (arith, a))
    by (Some c) place = omega arith

restaged_other : (n : ℕ) (s : State) (serial : ℕ) (stage : Stage) → n ≢ serial → chunk_at (restaged serial stage s) n ≡ chunk_at s n
restaged_other n s serial stage differs = by (chunk_at s serial)
  where
    by : (o : Option Chunk) → chunk_at (option_map_or (λ chunk. with_chunk serial (record chunk { stage = stage }) s) o s) n ≡ chunk_at s n
    by None = refl
    by (Some c) = lookup_set n serial s.chunks (record c { stage = stage }) differs

next_restaged : (s : State) (serial : ℕ) (stage : Stage) → (restaged serial stage s).next ≡ s.next
next_restaged s serial stage = by (chunk_at s serial)
  where
    by : (o : Option Chunk) → (option_map_or (λ chunk. with_chunk serial (record chunk { stage = stage }) s) o s).next ≡ s.next
    by None = refl
    by (Some c) = refl

-- an append to the serial itself: there it was staged, or is new
follows_appended : (n : ℕ) (s : State) (tag : List ℕ) (entries : List (List ℕ)) → CanAppend s n tag entries → Rising s → Follows n s (appended n tag entries s)
follows_appended n s tag entries can rising = record {
  next = next_appended s n tag entries can;
  queued = λ c at stage. absurd (⊎_elim
      (λ here. staged_not s n c (λ chunk. (chunk.stage ≡ Staged) × (chunk.tag ≡ tag)) (λ chunk h. h.0) here at stage)
      (λ new. let lt = found_below n 0 s.chunks s.next c rising at in let a = new.0 in omega (arith, lt, a)) can.place);
  gone = λ lt none. absurd (⊎_elim
      (λ here. subst (λ (o : Option Chunk). IsSomeAnd o (λ chunk. (chunk.stage ≡ Staged) × (chunk.tag ≡ tag))) none here)
      (λ new. let a = new.0 in omega (arith, lt, a)) can.place);
}

follows_queue : (n : ℕ) (s : State) → IsAt Staged s n → Follows n s (queued_last n s)
follows_queue n s here = record {
  next = (let e = next_restaged s n Queued in omega (arith, e));
  queued = λ c at stage. absurd (staged_not s n c (λ chunk. chunk.stage ≡ Staged) (λ chunk h. h) here at stage);
  gone = λ lt none. absurd (subst (λ (o : Option Chunk). IsSomeAnd o (λ chunk. chunk.stage ≡ Staged)) none here);
}

follows_purge : (n : ℕ) (s : State) → Rising s → Follows n s (removed n s)
follows_purge n s rising = (let none = lookup_gone n 0 s.chunks s.next rising in record { next = omega arith; queued = λ c at stage. inr none; gone = λ lt was. none })

follows_one : (n : ℕ) (s : State) (item : Record) → Allows s item → Rising s → Follows n s (after s item)
follows_one n s (Seal next) allowed rising = absurd allowed
follows_one n s (Append serial tag entries) allowed rising =
    elim (one_or_two n serial) [
      | inl is ↦ subst (λ (q : ℕ). Follows n s (appended q tag entries s)) is (follows_appended n s tag entries (subst (λ (q : ℕ). CanAppend s q tag entries) (sym is) allowed.0) rising)
      | inr differs ↦ same_there n s (appended serial tag entries s) (next_appended s serial tag entries allowed.0) (appended_other n s serial tag entries differs)
    ]
follows_one n s (Queue serial) allowed rising =
    elim (one_or_two n serial) [
      | inl is ↦ subst (λ (q : ℕ). Follows n s (queued_last q s)) is (follows_queue n s (subst (λ (q : ℕ). IsAt Staged s q) (sym is) allowed))
      | inr differs ↦ same_there n s (queued_last serial s) (let e = next_restaged s serial Queued in omega (arith, e)) (restaged_other n s serial Queued differs)
    ]
follows_one n s (Purge serial) allowed rising =
    elim (one_or_two n serial) [
      | inl is ↦ subst (λ (q : ℕ). Follows n s (removed q s)) is (follows_purge n s rising)
      | inr differs ↦ same_there n s (removed serial s) (omega arith) (lookup_removed n serial s.chunks differs)
    ]

-- ---- all steps

-- from the first j of the steps to the first k
pub follows_steps : (n : ℕ) (s : State) (items : List Record) (j k : ℕ) → j ≤ k → Each Allows s items → Rising s → Follows n (after_all s (take j items)) (after_all s (take k items))
follows_steps n s [] zero zero le each rising = follows_self n s
follows_steps n s [] zero (suc k) le each rising = follows_self n s
follows_steps n s [] (suc j) zero le each rising = follows_self n s
follows_steps n s [] (suc j) (suc k) le each rising = follows_self n s
follows_steps n s (x ∷ xs) zero zero le each rising = follows_self n s
follows_steps n s (x ∷ xs) zero (suc k) le each rising =
    follows_on n s (after s x) (after_all (after s x) (take k xs)) rising (follows_one n s x each.0 rising) (follows_steps n (after s x) xs zero k (omega arith) each.1 (rising_after s x each.0 rising))
follows_steps n s (x ∷ xs) (suc j) zero le each rising = absurd (omega (arith, le))
follows_steps n s (x ∷ xs) (suc j) (suc k) le each rising = follows_steps n (after s x) xs j k (omega (arith, le)) each.1 (rising_after s x each.0 rising)

rising_steps : (s : State) (items : List Record) (k : ℕ) → Each Allows s items → Rising s → Rising (after_all s (take k items))
rising_steps s [] zero each rising = rising
rising_steps s [] (suc k) each rising = rising
rising_steps s (x ∷ xs) zero each rising = rising
rising_steps s (x ∷ xs) (suc k) each rising = rising_steps (after s x) xs k each.1 (rising_after s x each.0 rising)

-- behind so many steps what is queued durably is kept
keeps_queued_at : (t : JournalLog) (k : ℕ) → IsJournalLog t → t.durable ≤ k
    → ((durably t).next ≤ (reopened_at t k).next) × ((serial : ℕ) (chunk : Chunk) → chunk_at (durably t) serial ≡ Some chunk → chunk.stage ≡ Queued → IsNamed serial chunk (reopened_at t k))
keeps_queued_at t k is enough =
    let f : (n : ℕ) → Follows n (after_all (state_at_seal t) (take t.durable t.steps)) (after_all (state_at_seal t) (take k t.steps)) = λ n. follows_steps n (state_at_seal t) t.steps t.durable k enough is.allowed (rising_seal t is) in
    let rising = rising_steps (state_at_seal t) t.steps t.durable is.allowed (rising_seal t is) in (
      (f 0).next,
      λ serial chunk at stage. (
        let lt = found_below serial 0 (after_all (state_at_seal t) (take t.durable t.steps)).chunks (after_all (state_at_seal t) (take t.durable t.steps)).next chunk rising at in
            let a = (f serial).next in
            omega (arith, lt, a),
        ⊎_elim (λ same. inl (same ∙ ap (λ (s : Stage). Some (record chunk { stage = s })) stage)) (λ none. inr none) ((f serial).queued chunk at stage),
      ),
    )

-- a state after some of the steps keeps what is queued durably
pub keeps_queued : QueuedLasts
keeps_queued t state is some = rw some.state_is (keeps_queued_at t some.steps is some.enough)

-- ---- back to what is durable

-- a step that may be lost leaves no chunk newly queued
back_one : (staged : Bool) (n : ℕ) (s : State) (item : Record) (c : Chunk) → MayBeLost staged item → Allows s item → Rising s → chunk_at (after s item) n ≡ Some c → c.stage ≡ Queued → chunk_at s n ≡ Some c
back_one staged n s (Seal next) c lost allowed rising at stage = absurd lost
back_one staged n s (Append serial tag entries) c lost allowed rising at stage =
    elim (one_or_two n serial) [
      | inl is ↦ absurd (grown (subst (λ (q : ℕ). chunk_at (appended q tag entries s) n ≡ Some c) (sym is) at) (subst (λ (q : ℕ). CanAppend s q tag entries) (sym is) allowed.0))
      | inr differs ↦ sym (appended_other n s serial tag entries differs) ∙ at
    ]
  where
    grown : chunk_at (appended n tag entries s) n ≡ Some c → CanAppend s n tag entries → ⊥
    grown at can = by (chunk_at s n) refl at can.place
      where
        last : (es : List Numbered) (w : Chunk) → lookup (is_at (nat_cmp n)) es ≡ None → lookup (is_at (nat_cmp n)) (es ++ (n, w) ∷ []) ≡ Some w
        last [] w none = rw (at_itself n) refl
        last (e ∷ es) w none = each (is_at (nat_cmp n) e.0) none (last es w)
          where
            each : (b : Bool) → cond b (Some e.1) (lookup (is_at (nat_cmp n)) es) ≡ None → (lookup (is_at (nat_cmp n)) es ≡ None → lookup (is_at (nat_cmp n)) (es ++ (n, w) ∷ []) ≡ Some w)
                → cond b (Some e.1) (lookup (is_at (nat_cmp n)) (es ++ (n, w) ∷ [])) ≡ Some w
            each true none rest = absurd (cc none)
            each false none rest = rest none

        set : (es : List Numbered) (v w : Chunk) → lookup (is_at (nat_cmp n)) es ≡ Some v → lookup (is_at (nat_cmp n)) (set_value (is_at (nat_cmp n)) es w) ≡ Some w
        set [] v w at = absurd (cc at)
        set (e ∷ es) v w at = each (is_at (nat_cmp n) e.0) refl at (set es v w)
          where
            each : (b : Bool) → is_at (nat_cmp n) e.0 ≡ b → cond b (Some e.1) (lookup (is_at (nat_cmp n)) es) ≡ Some v → (lookup (is_at (nat_cmp n)) es ≡ Some v → lookup (is_at (nat_cmp n)) (set_value (is_at (nat_cmp n)) es w) ≡ Some w)
                → lookup (is_at (nat_cmp n)) (cond b ((e.0, w) ∷ es) (e ∷ set_value (is_at (nat_cmp n)) es w)) ≡ Some w
            each true is at rest = rw is refl
            each false is at rest = rw is (rest at)

        by : (o : Option Chunk) → chunk_at s n ≡ o → chunk_at (option_map_or (λ chunk. with_chunk n (record chunk { entries = chunk.entries ++ entries }) s) o (added n tag entries s)) n ≡ Some c
            → IsSomeAnd (chunk_at s n) (λ chunk. (chunk.stage ≡ Staged) × (chunk.tag ≡ tag)) ⊎ ((s.next ≤ n) × (n < last_serial)) → ⊥
        by None none at place = (let made : Chunk = record { tag = tag; entries = entries; stage = Staged } in
            not_queued (ap (λ (x : Chunk). x.stage) (same_Some made c (sym (last s.chunks made none) ∙ at)) ∙ stage))
        by (Some d) there at (inl here) = (let made : Chunk = record d { entries = d.entries ++ entries } in
            let is : d.stage ≡ Staged = (subst (λ (o : Option Chunk). IsSomeAnd o (λ chunk. (chunk.stage ≡ Staged) × (chunk.tag ≡ tag))) there here).0 in
            not_queued (sym is ∙ ap (λ (x : Chunk). x.stage) (same_Some made c (sym (set s.chunks d made there) ∙ at)) ∙ stage))
        by (Some d) there at (inr new) = (let lt = found_below n 0 s.chunks s.next d rising there in let a = new.0 in omega (arith, lt, a))
back_one staged n s (Queue serial) c lost allowed rising at stage = absurd lost
back_one staged n s (Purge serial) c lost allowed rising at stage =
    elim (one_or_two n serial) [
      | inl is ↦ absurd (let none = lookup_gone n 0 s.chunks s.next rising in let found = subst (λ (q : ℕ). chunk_at (removed q s) n ≡ Some c) (sym is) at in cc (none, found))
      | inr differs ↦ sym (lookup_removed n serial s.chunks differs) ∙ at
    ]

back_all : (staged : Bool) (n : ℕ) (s : State) (items : List Record) (c : Chunk) → AllByRecursion (MayBeLost staged) items → Each Allows s items → Rising s → chunk_at (after_all s items) n ≡ Some c → c.stage ≡ Queued → chunk_at s n ≡ Some c
back_all staged n s [] c lost each rising at stage = at
back_all staged n s (x ∷ xs) c lost each rising at stage =
    back_one staged n s x c lost.0 each.0 rising (back_all staged n (after s x) xs c lost.1 each.1 (rising_after s x each.0 rising) at stage) stage

back_steps : (staged : Bool) (n : ℕ) (s : State) (items : List Record) (k : ℕ) (c : Chunk) → AllByRecursion (MayBeLost staged) (drop k items) → Each Allows s items → Rising s → chunk_at (after_all s items) n ≡ Some c → c.stage ≡ Queued
    → chunk_at (after_all s (take k items)) n ≡ Some c
back_steps staged n s [] zero c lost each rising at stage = at
back_steps staged n s [] (suc k) c lost each rising at stage = at
back_steps staged n s (x ∷ xs) zero c lost each rising at stage = back_all staged n s (x ∷ xs) c lost each rising at stage
back_steps staged n s (x ∷ xs) (suc k) c lost each rising at stage = back_steps staged n (after s x) xs k c lost each.1 (rising_after s x each.0 rising) at stage

-- what is queued now is queued durably
pub queued_durably : (staged : Bool) (n : ℕ) (t : JournalLog) (c : Chunk) → IsJournalLog t → LosesOnly staged t → chunk_at (state_of t) n ≡ Some c → c.stage ≡ Queued → chunk_at (durably t) n ≡ Some c
queued_durably staged n t c is lost at stage = back_steps staged n (state_at_seal t) t.steps t.durable c lost is.allowed (rising_seal t is) at stage

-- ---- of a buffer

-- a chunk that counts as queued lasts, whatever a stop leaves
pub lasts_of : (path : List ℕ) (disk : Disk) (staged : Bool) (t told : JournalLog) (c : State) (serial : ℕ) (chunk : Chunk) → IsJournalLog t → IsJournalLog told → t.durable ≡ told.durable → durably told ≡ durably t → LosesOnly staged t
    → Recovers path disk told → settled (state_of t) ≡ reopened c → chunk_at c serial ≡ Some chunk → unclaimed chunk.stage ≡ Queued → (folder : Folder) → StopLeaves disk folder → Lasts path serial chunk folder
lasts_of path disk staged t told c serial chunk is told_is durable same_durable lost recovers means there counts folder left =
    let queued : Chunk = record chunk { stage = Queued } in
    let same = same_from (state_of t) c means in
    let at : chunk_at (state_of t) serial ≡ Some queued =
    chunk_same (state_of t) c same serial ∙ ap (option_map free) there ∙ ap (λ (s : Stage). Some (record chunk { stage = s })) counts in
    let durably_at : chunk_at (durably told) serial ≡ Some queued = ap (λ (s : State). chunk_at s serial) same_durable ∙ queued_durably staged serial t queued is lost at refl in
    let w = recovers folder left in
    record { state = reopened_at told w.steps; opens = w.opens; named = (keeps_queued_at told w.steps told_is w.enough).1 serial queued durably_at refl }

durably_more : (item : Record) (t : JournalLog) → IsJournalLog t → durably (begun item t) ≡ durably t
durably_more item t is = ap (λ (z : List Record). settled (after_all (state_at_seal t) z)) (take-append-le t.durable t.steps (item ∷ []) is.few)

-- a claimed chunk of a durable buffer
pub lasts_now : {D : Type 0} (is_honest : D → Type 0) (history : D → History) (buffer : Held D) (serial : ℕ) → IsDurable is_honest history buffer → IsAt Claimed buffer.chunks serial → LastsNow history buffer serial
lasts_now {D} is_honest history buffer serial durable claimed = by (chunk_at buffer.chunks serial) refl claimed
  where
    at : (chunk : Chunk) → chunk_at buffer.chunks serial ≡ Some chunk → chunk.stage ≡ Claimed → (b : Bool) → buffer.failed ≡ b → (folder : Folder) → StopLeaves (now (history buffer.dir)) folder → Lasts buffer.journal.path serial chunk folder
    at chunk there is false going =
        lasts_of buffer.journal.path (now (history buffer.dir)) buffer.staged durable.logged durable.logged buffer.chunks serial chunk durable.told durable.told refl refl durable.loses
        (recovers buffer.journal (now (history buffer.dir)) durable.logged (durable.going going).keeps) durable.means there (ap unclaimed is)
    at chunk there is true fails = left durable.more durable.could (durable.recovers fails)
      where
        left : (more : Option Record) → IsJournalLog (with_more more durable.logged) → Recovers buffer.journal.path (now (history buffer.dir)) (with_more more durable.logged) → (folder : Folder) → StopLeaves (now (history buffer.dir)) folder
            → Lasts buffer.journal.path serial chunk folder
        left None could each =
            lasts_of buffer.journal.path (now (history buffer.dir)) buffer.staged durable.logged durable.logged buffer.chunks serial chunk durable.told durable.told refl refl durable.loses each durable.means there (ap unclaimed is)
        left (Some item) could each =
            lasts_of buffer.journal.path (now (history buffer.dir)) buffer.staged durable.logged (with_more (Some item) durable.logged) buffer.chunks serial chunk durable.told could refl (durably_more item durable.logged durable.told) durable.loses each durable.means there (ap unclaimed is)

    by : (o : Option Chunk) → chunk_at buffer.chunks serial ≡ o → IsSomeAnd o (λ chunk. chunk.stage ≡ Claimed) → IfSome o (λ chunk. (folder : Folder) → StopLeaves (now (history buffer.dir)) folder → Lasts buffer.journal.path serial chunk folder)
    by None there is = absurd is
    by (Some chunk) there is = at chunk there is buffer.failed refl

pub lasts_each : {D : Type 0} (is_honest : D → Type 0) (history : D → History) (buffer : Held D) (result : Option ℕ) → IsDurable is_honest history buffer → IfSome result (IsAt Claimed buffer.chunks) → IfSome result (LastsNow history buffer)
lasts_each is_honest history buffer None durable taken = tt
lasts_each is_honest history buffer (Some serial) durable taken = lasts_now is_honest history buffer serial durable taken

-- ---- a chunk that was ever claimed

-- behind more of the steps
named_on : (t : JournalLog) (serial : ℕ) (chunk : Chunk) (k : ℕ) → Each Allows (state_at_seal t) t.steps → Rising (state_at_seal t) → t.durable ≤ k → IsNamed serial chunk (durably t) → IsNamed serial chunk (reopened_at t k)
named_on t serial chunk k allowed rising le named =
    let f = follows_steps serial (state_at_seal t) t.steps t.durable k le allowed rising in (
      (let lt = named.0 in let more = f.next in omega (arith, lt, more)),
      ⊎_elim (λ at. f.queued (record chunk { stage = Queued }) at refl) (λ none. inr (f.gone named.0 none)) named.1,
    )

lasts_at : (path : List ℕ) (t : JournalLog) (serial : ℕ) (chunk : Chunk) → Each Allows (state_at_seal t) t.steps → Rising (state_at_seal t) → IsNamed serial chunk (durably t) → (folder : Folder) → OpensWithin path t folder → Lasts path serial chunk folder
lasts_at path t serial chunk allowed rising named folder w =
    record { state = reopened_at t w.steps; opens = w.opens; named = named_on t serial chunk w.steps allowed rising w.enough named }

pub lasts_within : (path : List ℕ) (t : JournalLog) (serial : ℕ) (chunk : Chunk) → IsJournalLog t → IsNamed serial chunk (durably t) → (folder : Folder) → OpensWithin path t folder → Lasts path serial chunk folder
lasts_within path t serial chunk is named = lasts_at path t serial chunk is.allowed (rising_seal t is) named

-- one step more
module _ (item : Record) (t : JournalLog) (serial : ℕ) (chunk : Chunk) (is : IsJournalLog t) (allowed : Allows (state_of t) item) (named : IsNamed serial chunk (durably t)) where
  each_begun : Each Allows (state_at_seal t) (t.steps ++ item ∷ [])
  each_begun = each_more Allows (state_at_seal t) t.steps (item ∷ []) is.allowed (allowed, tt)

  pub named_begun : IsNamed serial chunk (durably (begun item t))
  named_begun = subst (IsNamed serial chunk) (sym (durably_more item t is)) named

  pub lasts_begun : (path : List ℕ) (folder : Folder) → OpensWithin path (begun item t) folder → Lasts path serial chunk folder
  lasts_begun path = lasts_at path (begun item t) serial chunk each_begun (rising_seal t is) named_begun

  pub named_told : (synced : Bool) → IsNamed serial chunk (durably (durable_if synced (begun item t)))
  named_told false = named_begun
  named_told true = named_on (begun item t) serial chunk (length (t.steps ++ item ∷ [])) each_begun (rising_seal t is) (omega (arith, is.few, length-append t.steps (item ∷ []))) named_begun

-- all steps are durable
pub named_all : (t : JournalLog) (serial : ℕ) (chunk : Chunk) → IsJournalLog t → IsNamed serial chunk (durably t) → IsNamed serial chunk (durably (all_durable t))
named_all t serial chunk is named = named_on t serial chunk (length t.steps) is.allowed (rising_seal t is) is.few named

-- a new generation tells what is live
pub named_new : (t : JournalLog) (chunks : State) (serial : ℕ) (chunk : Chunk) → IsJournalLog t → settled (state_of t) ≡ reopened chunks → settled (state_of (new_generation chunks)) ≡ reopened chunks → IsNamed serial chunk (durably t)
    → IsNamed serial chunk (durably (new_generation chunks))
named_new t chunks serial chunk is means starts named =
    subst (IsNamed serial chunk) (ap (λ (z : List Record). settled (after_all (state_at_seal t) z)) (take_all (length t.steps) t.steps (omega arith)) ∙ means ∙ sym starts) (named_all t serial chunk is named)

-- what each stop leaves now
module _ {D : Type 0} (history : D → History) (buffer : Held D) (serial : ℕ) (chunk : Chunk) where
  pub endures_now : Endures history buffer serial chunk → (folder : Folder) → StopLeaves (now (history buffer.dir)) folder → Lasts buffer.journal.path serial chunk folder
  endures_now e folder leaves = by buffer.failed refl
    where
      by : (b : Bool) → buffer.failed ≡ b → Lasts buffer.journal.path serial chunk folder
      by false is = lasts_within buffer.journal.path e.logged serial chunk e.told e.named folder (recovers buffer.journal (now (history buffer.dir)) e.logged (e.going is).keeps folder leaves)
      by true is = lasts_within buffer.journal.path e.logged serial chunk e.told e.named folder (e.failed is folder leaves)

-- a claimed chunk of a durable buffer
named_now : (staged : Bool) (t : JournalLog) (c : State) (serial : ℕ) (chunk : Chunk) → IsJournalLog t → LosesOnly staged t → settled (state_of t) ≡ reopened c → chunk_at c serial ≡ Some chunk → unclaimed chunk.stage ≡ Queued
    → IsNamed serial chunk (durably t)
named_now staged t c serial chunk is lost means there counts =
    let same = same_from (state_of t) c means in
    let at : chunk_at (state_of t) serial ≡ Some (record chunk { stage = Queued }) =
    chunk_same (state_of t) c same serial ∙ ap (option_map free) there ∙ ap (λ (s : Stage). Some (record chunk { stage = s })) counts in
    let durably_at = queued_durably staged serial t (record chunk { stage = Queued }) is lost at refl in
    let rising = rising_steps (state_at_seal t) t.steps t.durable is.allowed (rising_seal t is) in
    (found_below serial 0 (after_all (state_at_seal t) (take t.durable t.steps)).chunks (after_all (state_at_seal t) (take t.durable t.steps)).next (record chunk { stage = Queued }) rising durably_at, inl durably_at)

endures_at : {D : Type 0} (is_honest : D → Type 0) (history : D → History) (buffer : Held D) (serial : ℕ) (chunk : Chunk) → IsDurable is_honest history buffer → chunk_at buffer.chunks serial ≡ Some chunk → chunk.stage ≡ Claimed → (b : Bool) → buffer.failed ≡ b
    → Endures history buffer serial chunk
endures_at is_honest history buffer serial chunk durable there is false going =
    record {
      logged = durable.logged;
      told = durable.told;
      named = named_now buffer.staged durable.logged buffer.chunks serial chunk durable.told durable.loses durable.means there (ap unclaimed is);
      going = durable.going;
      failed = λ fails. absurd (false≢true (sym going ∙ fails));
    }
endures_at is_honest history buffer serial chunk durable there is true fails = left durable.more durable.could (durable.recovers fails)
  where
    named : IsNamed serial chunk (durably durable.logged)
    named = named_now buffer.staged durable.logged buffer.chunks serial chunk durable.told durable.loses durable.means there (ap unclaimed is)

    left : (more : Option Record) → IsJournalLog (with_more more durable.logged) → Recovers buffer.journal.path (now (history buffer.dir)) (with_more more durable.logged) → Endures history buffer serial chunk
    left None could each = record { logged = durable.logged; told = could; named = named; going = λ going. absurd (false≢true (sym going ∙ fails)); failed = λ _. each }
    left (Some item) could each = record {
      logged = begun item durable.logged;
      told = could;
      named = subst (IsNamed serial chunk) (sym (durably_more item durable.logged durable.told)) named;
      going = λ going. absurd (false≢true (sym going ∙ fails));
      failed = λ _. each;
    }

pub endures_each : {D : Type 0} (is_honest : D → Type 0) (history : D → History) (buffer : Held D) (result : Option ℕ) → IsDurable is_honest history buffer → IfSome result (IsAt Claimed buffer.chunks)
    → IfSome result (λ serial. IfSome (chunk_at buffer.chunks serial) (Endures history buffer serial))
endures_each is_honest history buffer None durable taken = tt
endures_each {D} is_honest history buffer (Some serial) durable taken = by (chunk_at buffer.chunks serial) refl taken
  where
    by : (o : Option Chunk) → chunk_at buffer.chunks serial ≡ o → IsSomeAnd o (λ chunk. chunk.stage ≡ Claimed) → IfSome o (Endures history buffer serial)
    by None there is = absurd is
    by (Some chunk) there is = endures_at is_honest history buffer serial chunk durable there is buffer.failed refl
