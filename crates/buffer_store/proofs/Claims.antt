-- Chunks with claims forgotten: what each step does to them.
use Rattle.std.proofs.Common.{◌≡◌, ◌⊎◌, inl, inr, ℕ, ◌≤◌, Bool, true, false, cond, List, [], ◌∷◌, ◌++◌, Option, Some, None, option_map, refl, sym, ap, subst, ◌∙◌, arith}
use Rattle.std.specs.Prelude.{IsSomeAnd, IfSome, filter, drop, slice_get}
use Rattle.std.specs.Option.{option_map_or}
use Rattle.std.specs.Ordering.{nat_cmp}
use Rattle.std.specs.BTreeMap.{is_at}
use Rattle.std.specs.Map.{lookup, set_value, remove_entry, keys_of}
use Rattle.std.proofs.lemmas.List.{map-append}
use Rattle.std.proofs.lemmas.Option.{same_Some}
use Rattle.buffer_state.specs.declared.chunk.Stage.{Stage}
use Rattle.buffer_state.specs.declared.chunk.Stage.TheVariants.{Staged, Queued, Claimed}
use Rattle.buffer_state.specs.State.{State, Chunk, Numbered, chunk_at, is_queued, size, size_at, IsAt}
use Rattle.buffer_state.specs.Steps.{CanAppend, with_chunk, added, appended, restaged, queued_last, claimed, removed, settled, reopened, unclaimed, unclaimed_chunks}
use Rattle.buffer_state.proofs.Serials.{at_itself}
use Rattle.chunk_journal.specs.Records.{Append, Queue, Purge}
use Rattle.chunk_journal.specs.Meaning.{Allows}

-- a chunk whose claim is forgotten
abbrev pub free : Chunk → Chunk
free chunk = record chunk { stage = unclaimed chunk.stage }

-- The chunks of both are the same, claims forgotten, and the next serial is.
pub record Same (a c : State) : Type 0 where
  pub chunks : a.chunks ≡ unclaimed_chunks c.chunks
  pub next : a.next ≡ c.next

pub same_from : (a c : State) → settled a ≡ reopened c → Same a c
same_from a c e = record { chunks = ap (λ (s : State). s.chunks) e; next = ap (λ (s : State). s.next) e }

-- a state whose queue goes by rising serial
abbrev pub rising : List Numbered → ℕ → State
rising chunks next = record { chunks = chunks; next = next; queue = keys_of (filter (λ (numbered : Numbered). is_queued numbered.1.stage) chunks) }

pub same_to : (a c : State) → Same a c → settled a ≡ reopened c
same_to a c same = ap (λ chunks. rising chunks a.next) same.chunks ∙ ap (rising (unclaimed_chunks c.chunks)) same.next

-- The changes of chunks

pub free_at : (test : ℕ → Bool) (chunks : List Numbered) → lookup test (unclaimed_chunks chunks) ≡ option_map free (lookup test chunks)
free_at test [] = refl
free_at test (e ∷ es) = by (test e.0) (free_at test es)
  where
    by : (b : Bool) → lookup test (unclaimed_chunks es) ≡ option_map free (lookup test es)
        → cond b (Some (free e.1)) (lookup test (unclaimed_chunks es)) ≡ option_map free (cond b (Some e.1) (lookup test es))
    by true rest = refl
    by false rest = rest

pub free_set : (test : ℕ → Bool) (chunks : List Numbered) (w : Chunk) → unclaimed_chunks (set_value test chunks w) ≡ set_value test (unclaimed_chunks chunks) (free w)
free_set test [] w = refl
free_set test (e ∷ es) w = by (test e.0) (free_set test es w)
  where
    by : (b : Bool) → unclaimed_chunks (set_value test es w) ≡ set_value test (unclaimed_chunks es) (free w)
        → unclaimed_chunks (cond b ((e.0, w) ∷ es) (e ∷ set_value test es w)) ≡ cond b ((e.0, free w) ∷ unclaimed_chunks es) ((e.0, free e.1) ∷ set_value test (unclaimed_chunks es) (free w))
    by true rest = refl
    by false rest = ap (λ r. (e.0, free e.1) ∷ r) rest

pub free_removed : (test : ℕ → Bool) (chunks : List Numbered) → unclaimed_chunks (remove_entry test chunks) ≡ remove_entry test (unclaimed_chunks chunks)
free_removed test [] = refl
free_removed test (e ∷ es) = by (test e.0) (free_removed test es)
  where
    by : (b : Bool) → unclaimed_chunks (remove_entry test es) ≡ remove_entry test (unclaimed_chunks es)
        → unclaimed_chunks (cond b es (e ∷ remove_entry test es)) ≡ cond b (unclaimed_chunks es) ((e.0, free e.1) ∷ remove_entry test (unclaimed_chunks es))
    by true rest = refl
    by false rest = ap (λ r. (e.0, free e.1) ∷ r) rest

-- a chunk set to what it is
set_same : (test : ℕ → Bool) (es : List Numbered) (v : Chunk) → lookup test es ≡ Some v → set_value test es v ≡ es
set_same test [] v at = refl
set_same test (e ∷ es) v at = by (test e.0) at (set_same test es v)
  where
    by : (b : Bool) → cond b (Some e.1) (lookup test es) ≡ Some v → (lookup test es ≡ Some v → set_value test es v ≡ es) → cond b ((e.0, v) ∷ es) (e ∷ set_value test es v) ≡ e ∷ es
    by true at rest = ap (λ (x : Chunk). (e.0, x) ∷ es) (sym (same_Some e.1 v at))
    by false at rest = ap (λ r. e ∷ r) (rest at)

module _ (a c : State) (same : Same a c) (s : ℕ) where
  -- the chunk of a serial
  pub chunk_same : chunk_at a s ≡ option_map free (chunk_at c s)
  chunk_same = ap (lookup (is_at (nat_cmp s))) same.chunks ∙ free_at (is_at (nat_cmp s)) c.chunks

  size_same : size_at a s ≡ size_at c s
  size_same = ap (λ o. option_map_or (λ (chunk : Chunk). size chunk.entries) o 0) chunk_same ∙ by (chunk_at c s)
    where
      by : (o : Option Chunk) → option_map_or (λ (chunk : Chunk). size chunk.entries) (option_map free o) 0 ≡ option_map_or (λ (chunk : Chunk). size chunk.entries) o 0
      by None = refl
      by (Some chunk) = refl

  -- what holds of a chunk, where it doesn't turn on claims
  pub there_same : (P Q : Chunk → Type 0) → ((chunk : Chunk) → P chunk → Q (free chunk)) → IsSomeAnd (chunk_at c s) P → IsSomeAnd (chunk_at a s) Q
  there_same P Q turns h = subst (λ o. IsSomeAnd o Q) (sym chunk_same) (by (chunk_at c s) h)
    where
      by : (o : Option Chunk) → IsSomeAnd o P → IsSomeAnd (option_map free o) Q
      by None h = absurd h
      by (Some chunk) h = turns chunk h

  pub append_allowed : (tag : List ℕ) (entries : List (List ℕ)) → CanAppend c s tag entries → s ≤ c.next → Allows a (Append s tag entries)
  append_allowed tag entries can near = (
    record {
      place = elim can.place [
        | inl here ↦ inl (there_same (λ chunk. (chunk.stage ≡ Staged) × (chunk.tag ≡ tag)) (λ chunk. (chunk.stage ≡ Staged) × (chunk.tag ≡ tag)) (λ chunk h. (ap unclaimed h.0, h.1)) here)
        | inr new ↦ inr (let le = new.0 in let e = same.next in omega (arith, le, e), new.1)
      ];
      small = (let h = can.small in let e = size_same in omega (arith, h, e));
    },
    let e = same.next in omega (arith, near, e),
  )

  pub queue_allowed : IsAt Staged c s → Allows a (Queue s)
  queue_allowed here = there_same (λ chunk. chunk.stage ≡ Staged) (λ chunk. chunk.stage ≡ Staged) (λ chunk h. ap unclaimed h) here

  pub purge_allowed : IsAt Queued c s ⊎ IsAt Claimed c s → Allows a (Purge s)
  purge_allowed h = elim h [
    | inl queued ↦ there_same (λ chunk. chunk.stage ≡ Queued) (λ chunk. chunk.stage ≡ Queued) (λ chunk h. ap unclaimed h) queued
    | inr taken ↦ there_same (λ chunk. chunk.stage ≡ Claimed) (λ chunk. chunk.stage ≡ Queued) (λ chunk h. ap unclaimed h) taken
  ]

  pub append_same : (tag : List ℕ) (entries : List (List ℕ)) → Same (appended s tag entries a) (appended s tag entries c)
  append_same tag entries = subst (λ o. Same (option_map_or (λ chunk. with_chunk s (record chunk { entries = chunk.entries ++ entries }) a) o (added s tag entries a)) (appended s tag entries c)) (sym chunk_same) (by (chunk_at c s))
    where
      by : (o : Option Chunk) → Same (option_map_or (λ chunk. with_chunk s (record chunk { entries = chunk.entries ++ entries }) a) (option_map free o) (added s tag entries a))
          (option_map_or (λ chunk. with_chunk s (record chunk { entries = chunk.entries ++ entries }) c) o (added s tag entries c))
      by None = record {
        chunks = ap (λ chunks. chunks ++ (s, record { tag = tag; entries = entries; stage = Staged }) ∷ []) same.chunks ∙ sym (map-append {B = Numbered} (λ (e : Numbered). (e.0, free e.1)) c.chunks ((s, record { tag = tag; entries = entries; stage = Staged }) ∷ []));
        next = refl;
      }
      by (Some chunk) = record {
        chunks = ap (λ chunks. set_value (is_at (nat_cmp s)) chunks (free (record chunk { entries = chunk.entries ++ entries }))) same.chunks ∙ sym (free_set (is_at (nat_cmp s)) c.chunks (record chunk { entries = chunk.entries ++ entries }));
        next = same.next;
      }

  pub queue_same : Same (queued_last s a) (queued_last s c)
  queue_same = subst (λ o. Same (record (option_map_or (λ chunk. with_chunk s (record chunk { stage = Queued }) a) o a) { queue = a.queue ++ s ∷ [] }) (queued_last s c)) (sym chunk_same) (by (chunk_at c s))
    where
      by : (o : Option Chunk) → Same (record (option_map_or (λ chunk. with_chunk s (record chunk { stage = Queued }) a) (option_map free o) a) { queue = a.queue ++ s ∷ [] })
          (record (option_map_or (λ chunk. with_chunk s (record chunk { stage = Queued }) c) o c) { queue = c.queue ++ s ∷ [] })
      by None = record { chunks = same.chunks; next = same.next }
      by (Some chunk) = record {
        chunks = ap (λ chunks. set_value (is_at (nat_cmp s)) chunks (free (record chunk { stage = Queued }))) same.chunks ∙ sym (free_set (is_at (nat_cmp s)) c.chunks (record chunk { stage = Queued }));
        next = same.next;
      }

  pub purge_same : Same (removed s a) (removed s c)
  purge_same = record { chunks = ap (remove_entry (is_at (nat_cmp s))) same.chunks ∙ sym (free_removed (is_at (nat_cmp s)) c.chunks); next = same.next }

-- The chunk of a serial comes into a stage that counts as its own.
restage_same : (c : State) (s : ℕ) (stage was : Stage) → unclaimed stage ≡ unclaimed was → IsAt was c s → (queue : List ℕ) → reopened (record (restaged s stage c) { queue = queue }) ≡ reopened c
restage_same c s stage was counts here queue = by (chunk_at c s) refl here
  where
    by : (o : Option Chunk) → chunk_at c s ≡ o → IsSomeAnd o (λ chunk. chunk.stage ≡ was)
        → reopened (record (option_map_or (λ chunk. with_chunk s (record chunk { stage = stage }) c) o c) { queue = queue }) ≡ reopened c
    by None at h = absurd h
    by (Some chunk) at h = ap (λ chunks. rising chunks c.next) (
        free_set (is_at (nat_cmp s)) c.chunks (record chunk { stage = stage })
        ∙ ap (λ (stage : Stage). set_value (is_at (nat_cmp s)) (unclaimed_chunks c.chunks) (record chunk { stage = stage })) (counts ∙ ap unclaimed (sym h))
        ∙ set_same (is_at (nat_cmp s)) (unclaimed_chunks c.chunks) (free chunk) (free_at (is_at (nat_cmp s)) c.chunks ∙ ap (option_map free) at))

-- a chunk that was set is what it was set to
set_found : (test : ℕ → Bool) (es : List Numbered) (v w : Chunk) → lookup test es ≡ Some v → lookup test (set_value test es w) ≡ Some w
set_found test [] v w at = absurd (cc at)
set_found test (e ∷ es) v w at = by (test e.0) refl at (set_found test es v w)
  where
    by : (b : Bool) → test e.0 ≡ b → cond b (Some e.1) (lookup test es) ≡ Some v → (lookup test es ≡ Some v → lookup test (set_value test es w) ≡ Some w)
        → lookup test (cond b ((e.0, w) ∷ es) (e ∷ set_value test es w)) ≡ Some w
    by true is at rest = rw is refl
    by false is at rest = rw is (rest at)

-- the first of the queue is claimed then
restaged_at : (c : State) (s : ℕ) (rest : List ℕ) → IsAt Queued c s → IsAt Claimed (restaged s Claimed (record c { queue = rest })) s
restaged_at c s rest here = by (chunk_at c s) refl here
  where
    by : (o : Option Chunk) → chunk_at c s ≡ o → IsSomeAnd o (λ chunk. chunk.stage ≡ Queued)
        → IsAt Claimed (option_map_or (λ chunk. with_chunk s (record chunk { stage = Claimed }) (record c { queue = rest })) o (record c { queue = rest })) s
    by None at h = absurd h
    by (Some chunk) at h = subst (λ o. IsSomeAnd o (λ chunk. chunk.stage ≡ Claimed)) (sym (set_found (is_at (nat_cmp s)) c.chunks chunk (record chunk { stage = Claimed }) at)) refl

claims_first : (c : State) (s : ℕ) → slice_get c.queue 0 ≡ Some s → IsAt Queued c s → IsAt Claimed (claimed c) s
claims_first c s first here = by c.queue refl first
  where
    by : (queue : List ℕ) → c.queue ≡ queue → slice_get queue 0 ≡ Some s → IsAt Claimed (option_map_or (λ serial. restaged serial Claimed (record c { queue = drop 1 queue })) (slice_get queue 0) c) s
    by [] e f = absurd (cc f)
    by (x ∷ rest) e f = rw (same_Some x s f) (restaged_at c s rest here)

pub claim_takes : (c : State) (result : Option ℕ) → result ≡ slice_get c.queue 0 → IfSome result (IsAt Queued c) → IfSome result (IsAt Claimed (claimed c))
claim_takes c None first queued = tt
claim_takes c (Some s) first queued = claims_first c s (sym first) queued

-- a chunk that is claimed counts as queued
pub claim_counts : (c : State) (result : Option ℕ) → result ≡ slice_get c.queue 0 → ((s : ℕ) → result ≡ Some s → IsAt Queued c s) → reopened (claimed c) ≡ reopened c
claim_counts c result first queued = by c.queue refl
  where
    by : (queue : List ℕ) → c.queue ≡ queue → reopened (claimed c) ≡ reopened c
    by [] e = rw e refl
    by (s ∷ rest) e = rw e (restage_same (record c { queue = rest }) s Claimed Queued refl (queued s (first ∙ ap (λ (queue : List ℕ). slice_get queue 0) e)) rest)

-- a chunk that is given back counted as queued
pub back_counts : (c : State) (s : ℕ) → IsAt Claimed c s → reopened (queued_last s c) ≡ reopened c
back_counts c s here = restage_same c s Queued Claimed refl here (c.queue ++ s ∷ [])

-- a new chunk is staged

lookup_last : (chunks : List Numbered) (s : ℕ) (w : Chunk) → lookup (is_at (nat_cmp s)) chunks ≡ None → lookup (is_at (nat_cmp s)) (chunks ++ (s, w) ∷ []) ≡ Some w
lookup_last [] s w none = rw (at_itself s) refl
lookup_last (e ∷ es) s w none = by (is_at (nat_cmp s) e.0) none (lookup_last es s w)
  where
    by : (b : Bool) → cond b (Some e.1) (lookup (is_at (nat_cmp s)) es) ≡ None → (lookup (is_at (nat_cmp s)) es ≡ None → lookup (is_at (nat_cmp s)) (es ++ (s, w) ∷ []) ≡ Some w)
        → cond b (Some e.1) (lookup (is_at (nat_cmp s)) (es ++ (s, w) ∷ [])) ≡ Some w
    by true none rest = absurd (cc none)
    by false none rest = rest none

pub new_staged : (c new : State) (s : ℕ) (tag : List ℕ) (entries : List (List ℕ)) → chunk_at c s ≡ None → new ≡ appended s tag entries c → IsAt Staged new s
new_staged c new s tag entries none is =
    let old : appended s tag entries c ≡ added s tag entries c = rw none refl in
    let at : chunk_at new s ≡ Some (record { tag = tag; entries = entries; stage = Staged }) = ap (λ (state : State). chunk_at state s) (is ∙ old) ∙ lookup_last c.chunks s (record { tag = tag; entries = entries; stage = Staged }) none in
    subst (λ o. IsSomeAnd o (λ chunk. chunk.stage ≡ Staged)) (sym at) refl
