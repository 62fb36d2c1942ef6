-- No tag grows in any step.
use Rattle.std.proofs.Common.{◌≡◌, ℕ, ◌≤◌, Bool, true, false, cond, List, [], ◌∷◌, ◌++◌, length, Option, Some, None, refl, subst}
use Rattle.std.specs.Prelude.{drop, slice_get}
use Rattle.std.specs.Ordering.{nat_cmp}
use Rattle.std.specs.BTreeMap.{is_at}
use Rattle.std.specs.Map.{lookup, set_value, remove_entry}
use Rattle.std.proofs.lemmas.Option.{same_Some}
use Rattle.std.specs.Option.{option_map_or}
use Rattle.event_modes.specs.Message.{longest_tag}
use Rattle.buffer_state.specs.declared.chunk.Stage.{Stage}
use Rattle.buffer_state.specs.declared.chunk.Stage.TheVariants.{Staged, Queued, Claimed}
use Rattle.buffer_state.specs.State.{State, Chunk, Numbered, chunk_at}
use Rattle.buffer_state.specs.Steps.{with_chunk, added, appended, restaged, queued_last, claimed, removed}
use Rattle.journal_files.specs.Views.{HasShortTags}
use Rattle.journal_files.proofs.Tags.{Short}

short_at : (test : ℕ → Bool) (chunks : List Numbered) (chunk : Chunk) → Short chunks → lookup test chunks ≡ Some chunk → length chunk.tag ≤ longest_tag
short_at test [] chunk h at = absurd (cc at)
short_at test (e ∷ es) chunk h at = by (test e.0) at (short_at test es chunk h.1)
  where
    by : (b : Bool) → cond b (Some e.1) (lookup test es) ≡ Some chunk → (lookup test es ≡ Some chunk → length chunk.tag ≤ longest_tag) → length chunk.tag ≤ longest_tag
    by true at rest = subst (λ (c : Chunk). length c.tag ≤ longest_tag) (same_Some e.1 chunk at) h.0
    by false at rest = rest at

short_set : (test : ℕ → Bool) (chunks : List Numbered) (w : Chunk) → Short chunks → length w.tag ≤ longest_tag → Short (set_value test chunks w)
short_set test [] w h fits = tt
short_set test (e ∷ es) w h fits = by (test e.0) (short_set test es w h.1 fits)
  where
    by : (b : Bool) → Short (set_value test es w) → Short (cond b ((e.0, w) ∷ es) (e ∷ set_value test es w))
    by true rest = (fits, h.1)
    by false rest = (h.0, rest)

short_removed : (test : ℕ → Bool) (chunks : List Numbered) → Short chunks → Short (remove_entry test chunks)
short_removed test [] h = tt
short_removed test (e ∷ es) h = by (test e.0) (short_removed test es h.1)
  where
    by : (b : Bool) → Short (remove_entry test es) → Short (cond b es (e ∷ remove_entry test es))
    by true rest = h.1
    by false rest = (h.0, rest)

short_last : (chunks : List Numbered) (e : Numbered) → Short chunks → length e.1.tag ≤ longest_tag → Short (chunks ++ e ∷ [])
short_last [] e h fits = (fits, tt)
short_last (x ∷ xs) e h fits = (h.0, short_last xs e h.1 fits)

pub tags_appended : (c : State) (s : ℕ) (tag : List ℕ) (entries : List (List ℕ)) → HasShortTags c → length tag ≤ longest_tag → HasShortTags (appended s tag entries c)
tags_appended c s tag entries h fits = by (chunk_at c s) refl
  where
    by : (o : Option Chunk) → chunk_at c s ≡ o → HasShortTags (option_map_or (λ chunk. with_chunk s (record chunk { entries = chunk.entries ++ entries }) c) o (added s tag entries c))
    by None at = short_last c.chunks (s, record { tag = tag; entries = entries; stage = Staged }) h fits
    by (Some chunk) at = short_set (is_at (nat_cmp s)) c.chunks (record chunk { entries = chunk.entries ++ entries }) h (short_at (is_at (nat_cmp s)) c.chunks chunk h at)

pub tags_restaged : (c : State) (s : ℕ) (stage : Stage) → HasShortTags c → HasShortTags (restaged s stage c)
tags_restaged c s stage h = by (chunk_at c s) refl
  where
    by : (o : Option Chunk) → chunk_at c s ≡ o → HasShortTags (option_map_or (λ chunk. with_chunk s (record chunk { stage = stage }) c) o c)
    by None at = h
    by (Some chunk) at = short_set (is_at (nat_cmp s)) c.chunks (record chunk { stage = stage }) h (short_at (is_at (nat_cmp s)) c.chunks chunk h at)

pub tags_queued : (c : State) (s : ℕ) → HasShortTags c → HasShortTags (queued_last s c)
tags_queued c s h = tags_restaged c s Queued h

pub tags_claimed : (c : State) → HasShortTags c → HasShortTags (claimed c)
tags_claimed c h = by c.queue
  where
    by : (queue : List ℕ) → HasShortTags (option_map_or (λ serial. restaged serial Claimed (record c { queue = drop 1 queue })) (slice_get queue 0) c)
    by [] = h
    by (s ∷ rest) = tags_restaged (record c { queue = rest }) s Claimed h

pub tags_removed : (c : State) (s : ℕ) → HasShortTags c → HasShortTags (removed s c)
tags_removed c s h = short_removed (is_at (nat_cmp s)) c.chunks h
