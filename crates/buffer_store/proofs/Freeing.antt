-- Queued chunks, one after another.
use Rattle.std.proofs.Common.{ℕ, ◌≡◌, ◌∙◌, ◌+◌, ◌-◌, ◌≤◌, ◌↔◌, List, [], ◌∷◌, arith, ap, map, refl, sym}
use Rattle.std.specs.Prelude.{cond, sum_by}
use Rattle.std.specs.Map.{values_of}
use Rattle.std.proofs.lemmas.List.Sums.{sum_by-cons}
use Rattle.buffer_state.specs.Shown.{Facts, numbered_facts}
use Rattle.buffer_state.specs.State.{Chunk, Numbered, is_queued, size}
use Rattle.buffer_store.specs.Room.{queued_in}

-- one more is looked at
pub goes_on : (bytes left more left' : ℕ) (first : Facts) (all chunks rest : List Facts) → ((bytes ≤ queued_in all) ↔ (left ≤ queued_in chunks)) → chunks ≡ first ∷ rest
    → more ≡ cond (is_queued first.stage) first.size 0 → left' ≡ left - more → (bytes ≤ queued_in all) ↔ (left' ≤ queued_in rest)
goes_on bytes left more left' first all chunks rest same is adds less =
    let q : queued_in chunks ≡ more + queued_in rest =
    ap queued_in is ∙ ap (λ (m : ℕ). m + queued_in rest) (sym adds) in
    (λ all_fit. let was = same.0 all_fit in omega (arith, was, q, less), λ fits. same.1 (let was : left ≤ queued_in chunks = omega (arith, fits, q, less) in was))

-- what is shown of chunks tells how many bytes the queued ones have
pub shown_size : (chunks : List Numbered) → queued_in (map numbered_facts chunks) ≡ sum_by (λ chunk. cond (is_queued chunk.stage) (size chunk.entries) 0) (values_of chunks)
shown_size [] = refl
shown_size (chunk ∷ chunks) =
    ap (λ (n : ℕ). cond (is_queued chunk.1.stage) (size chunk.1.entries) 0 + n) (shown_size chunks)
    ∙ sym (sum_by-cons (λ (c : Chunk). cond (is_queued c.stage) (size c.entries) 0) chunk.1 (values_of chunks))
