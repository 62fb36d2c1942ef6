-- The entries of chunks are the same where claims are forgotten.
use Rattle.std.proofs.Common.{◌≡◌, ℕ, Bool, true, false, cond, List, [], ◌∷◌, Option, Some, refl, ap, subst, ◌∙◌}
use Rattle.std.specs.Option.{option_map_or}
use Rattle.std.specs.List.{concat}
use Rattle.std.specs.Ordering.{nat_cmp}
use Rattle.std.specs.BTreeMap.{is_at}
use Rattle.std.specs.Map.{lookup}
use Rattle.buffer_state.specs.State.{State, Chunk, Numbered}
use Rattle.buffer_state.specs.Steps.{settled, reopened, unclaimed, unclaimed_chunks}
use Rattle.chunk_journal.specs.Places.{Spots, ArePlaced, LieAt, entries_at, places_at}

abbrev bytes_of : Option Chunk → List ℕ
bytes_of o = option_map_or (λ chunk. concat chunk.entries) o []

unclaimed_at : (test : ℕ → Bool) (chunks : List Numbered) → bytes_of (lookup test (unclaimed_chunks chunks)) ≡ bytes_of (lookup test chunks)
unclaimed_at test [] = refl
unclaimed_at test (e ∷ es) = by (test e.0) (unclaimed_at test es)
  where
    by : (b : Bool) → bytes_of (lookup test (unclaimed_chunks es)) ≡ bytes_of (lookup test es)
        → bytes_of (cond b (Some (record e.1 { stage = unclaimed e.1.stage })) (lookup test (unclaimed_chunks es))) ≡ bytes_of (cond b (Some e.1) (lookup test es))
    by true rest = refl
    by false rest = rest

entries_same : (a c : State) → settled a ≡ reopened c → (serial : ℕ) → entries_at a serial ≡ entries_at c serial
entries_same a c means serial = ap (λ (s : State). entries_at s serial) means ∙ unclaimed_at (is_at (nat_cmp serial)) c.chunks

-- they lie at the same places
pub placed_same : (seen : List ℕ) (spots : Spots) (a c : State) → settled a ≡ reopened c → ArePlaced seen spots a → ArePlaced seen spots c
placed_same seen spots a c means placed serial = subst (LieAt seen (places_at spots serial)) (entries_same a c means serial) (placed serial)
