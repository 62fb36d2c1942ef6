-- What holds of each chunk that a journal told: its tag isn't too long, and it isn't claimed.
use Rattle.std.proofs.Common.{◌≡◌, ℕ, ◌≤◌, Bool, true, false, cond, List, [], ◌∷◌, ◌++◌, length, Option, Some, None, refl, sym, ap, subst, ◌∙◌}
use Rattle.std.specs.Option.{option_map_or}
use Rattle.std.specs.List.{AllByRecursion}
use Rattle.std.specs.Map.{lookup, set_value, remove_entry}
use Rattle.std.specs.Ordering.{nat_cmp}
use Rattle.std.specs.BTreeMap.{is_at}
use Rattle.std.proofs.lemmas.Option.{same_Some}
use Rattle.event_modes.specs.Message.{longest_tag}
use Rattle.buffer_state.specs.declared.chunk.Stage.{Stage}
use Rattle.buffer_state.specs.declared.chunk.Stage.TheVariants.{Staged, Queued}
use Rattle.buffer_state.specs.State.{Chunk, Numbered, State, chunk_at, empty}
use Rattle.buffer_state.specs.Steps.{with_chunk, added, settled, reopened, unclaimed, unclaimed_chunks}
use Rattle.chunk_journal.specs.Records.{Record, Seal, Append, Queue, Purge, IsRecord}
use Rattle.chunk_journal.specs.Meaning.{IsReplayed, after, after_all}
use Rattle.journal_files.specs.Views.{HasShortTags}

-- ---- what steps keep of each chunk

in_front : (front back : List Record) → AllByRecursion IsRecord (front ++ back) → AllByRecursion IsRecord front
in_front [] back each = tt
in_front (x ∷ front) back each = (each.0, in_front front back each.1)

in_back : (front back : List Record) → AllByRecursion IsRecord (front ++ back) → AllByRecursion IsRecord back
in_back [] back each = each
in_back (x ∷ front) back each = in_back front back each.1

module _ (Fits : Chunk → Type 0) where
  abbrev AllFit : List Numbered → Type 0
  AllFit chunks = AllByRecursion (λ (numbered : Numbered). Fits numbered.1) chunks

  set_first : (b : Bool) (at : ℕ → Bool) (x : Numbered) (chunks : List Numbered) (c : Chunk) → Fits c → AllFit (x ∷ chunks) → AllFit (set_value at chunks c) → AllFit (cond b ((x.0, c) ∷ chunks) (x ∷ set_value at chunks c))
  set_first true at x chunks c fits each more = (fits, each.1)
  set_first false at x chunks c fits each more = (each.0, more)

  set_all : (at : ℕ → Bool) (chunks : List Numbered) (c : Chunk) → Fits c → AllFit chunks → AllFit (set_value at chunks c)
  set_all at [] c fits each = tt
  set_all at (x ∷ chunks) c fits each = set_first (at x.0) at x chunks c fits each (set_all at chunks c fits each.1)

  removed_first : (b : Bool) (at : ℕ → Bool) (x : Numbered) (chunks : List Numbered) → AllFit (x ∷ chunks) → AllFit (remove_entry at chunks) → AllFit (cond b chunks (x ∷ remove_entry at chunks))
  removed_first true at x chunks each more = each.1
  removed_first false at x chunks each more = (each.0, more)

  removed_all : (at : ℕ → Bool) (chunks : List Numbered) → AllFit chunks → AllFit (remove_entry at chunks)
  removed_all at [] each = tt
  removed_all at (x ∷ chunks) each = removed_first (at x.0) at x chunks each (removed_all at chunks each.1)

  found_first : (b : Bool) (at : ℕ → Bool) (x : Numbered) (chunks : List Numbered) (c : Chunk) → cond b (Some x.1) (lookup at chunks) ≡ Some c → AllFit (x ∷ chunks) → (lookup at chunks ≡ Some c → Fits c) → Fits c
  found_first true at x chunks c is each more = subst Fits (same_Some _ _ is) each.0
  found_first false at x chunks c is each more = more is

  found_fits : (at : ℕ → Bool) (chunks : List Numbered) (c : Chunk) → lookup at chunks ≡ Some c → AllFit chunks → Fits c
  found_fits at [] c is each = absurd (cc is)
  found_fits at (x ∷ chunks) c is each = found_first (at x.0) at x chunks c is each (λ there. found_fits at chunks c there each.1)

  last_all : (chunks : List Numbered) (x : Numbered) → AllFit chunks → Fits x.1 → AllFit (chunks ++ x ∷ [])
  last_all [] x each fits = (fits, tt)
  last_all (y ∷ chunks) x each fits = (each.0, last_all chunks x each.1 fits)

  module _ (new : (serial : ℕ) (tag : List ℕ) (entries : List (List ℕ)) → IsRecord (Append serial tag entries) → Fits (record { tag = tag; entries = entries; stage = Staged }))
      (more : (c : Chunk) (entries : List (List ℕ)) → Fits c → Fits (record c { entries = c.entries ++ entries })) (waits : (c : Chunk) → Fits c → Fits (record c { stage = Queued })) where
    appended_all : (serial : ℕ) (tag : List ℕ) (entries : List (List ℕ)) (state : State) (o : Option Chunk) → chunk_at state serial ≡ o → IsRecord (Append serial tag entries) → AllFit state.chunks
        → AllFit (option_map_or (λ chunk. with_chunk serial (record chunk { entries = chunk.entries ++ entries }) state) o (added serial tag entries state)).chunks
    appended_all serial tag entries state None is one each = last_all state.chunks _ each (new serial tag entries one)
    appended_all serial tag entries state (Some c) is one each =
        set_all (is_at (nat_cmp serial)) state.chunks _ (more c entries (found_fits (is_at (nat_cmp serial)) state.chunks c is each)) each

    queued_all : (serial : ℕ) (state : State) (o : Option Chunk) → chunk_at state serial ≡ o → AllFit state.chunks
        → AllFit (option_map_or (λ chunk. with_chunk serial (record chunk { stage = Queued }) state) o state).chunks
    queued_all serial state None is each = each
    queued_all serial state (Some c) is each =
        set_all (is_at (nat_cmp serial)) state.chunks _ (waits c (found_fits (is_at (nat_cmp serial)) state.chunks c is each)) each

    after_one : (state : State) (item : Record) → IsRecord item → AllFit state.chunks → AllFit (after state item).chunks
    after_one state (Seal next) is each = each
    after_one state (Append serial tag entries) is each = appended_all serial tag entries state (chunk_at state serial) refl is each
    after_one state (Queue serial) is each = queued_all serial state (chunk_at state serial) refl each
    after_one state (Purge serial) is each = removed_all (is_at (nat_cmp serial)) state.chunks each

    after_each : (state : State) (items : List Record) → AllByRecursion IsRecord items → AllFit state.chunks → AllFit (after_all state items).chunks
    after_each state [] each all = all
    after_each state (item ∷ items) each all = after_each (after state item) items each.1 (after_one state item each.0 all)

    replayed_all : (bytes : List ℕ) (state : State) (used : ℕ) → IsReplayed bytes state used → AllFit state.chunks
    replayed_all bytes state used r =
        let l = r.generation.leads in
        let each = subst (AllByRecursion IsRecord) l.whole r.journal.each in
        let told = after_each empty l.told (in_front l.told (Seal l.next ∷ l.steps) each) tt in
        let last = after_each (after (after_all empty l.told) (Seal l.next)) l.steps (in_back l.told (Seal l.next ∷ l.steps) each).1 told in
        subst (λ (s : State). AllFit s.chunks) (sym (r.generation.means ∙ ap settled l.here)) last

-- ---- tags that aren't too long

abbrev pub Short : List Numbered → Type 0
Short chunks = AllByRecursion (λ (numbered : Numbered). length numbered.1.tag ≤ longest_tag) chunks

pub replayed_short : (bytes : List ℕ) (state : State) (used : ℕ) → IsReplayed bytes state used → HasShortTags state
replayed_short bytes state used r =
    replayed_all (λ c. length c.tag ≤ longest_tag) (λ serial tag entries one. one.fields.tag_fits) (λ c entries short. short) (λ c short. short) bytes state used r

-- ---- no claims

abbrev IsFree : Chunk → Type 0
IsFree c = unclaimed c.stage ≡ c.stage

free_same : (chunks : List Numbered) → AllByRecursion (λ (numbered : Numbered). IsFree numbered.1) chunks → unclaimed_chunks chunks ≡ chunks
free_same [] each = refl
free_same (x ∷ chunks) each =
    ap (λ (g : Stage). (x.0, record x.1 { stage = g }) ∷ unclaimed_chunks chunks) each.0 ∙ ap (λ (rest : List Numbered). x ∷ rest) (free_same chunks each.1)

pub replayed_unclaimed : (bytes : List ℕ) (state : State) (used : ℕ) → IsReplayed bytes state used → reopened state ≡ state
replayed_unclaimed bytes state used r =
    ap (λ (chunks : List Numbered). settled (record state { chunks = chunks }))
    (free_same state.chunks (replayed_all IsFree (λ serial tag entries one. refl) (λ c entries free. free) (λ c free. refl) bytes state used r))
    ∙ ap settled r.generation.means ∙ sym r.generation.means
