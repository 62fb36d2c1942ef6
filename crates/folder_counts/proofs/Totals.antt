-- Chunks that are counted one after another.
use Rattle.std.proofs.Common.{ℕ, ◌≡◌, Bool, true, false, cond, not, List, [], ◌∷◌, refl, sym, ap, ◌∙◌, arith}
use Rattle.std.specs.Prelude.{if◌then◌else◌}
use Rattle.std.proofs.lemmas.List.Sums.{sum_by-cons}
use Rattle.buffer_state.specs.Shown.{Facts}
use Rattle.buffer_state.specs.State.{is_staged}
use Rattle.folder_counts.specs.Counts.{chunk_counts, chunks_sum, one_chunk}
use Rattle.folder_counts.specs.Limits.{no_chunks}
use Rattle.folder_counts.specs.declared.counts.ChunkCounts.{ChunkCounts}

same_counts : (a b : ChunkCounts) → a.staged ≡ b.staged → a.queued ≡ b.queued → a.entries ≡ b.entries → a.bytes ≡ b.bytes → a ≡ b
same_counts a b staged queued entries bytes =
    ap (λ (n : ℕ). record { staged = n; queued = a.queued; entries = a.entries; bytes = a.bytes }) staged
    ∙ ap (λ (n : ℕ). record { staged = b.staged; queued = n; entries = a.entries; bytes = a.bytes }) queued
    ∙ ap (λ (n : ℕ). record { staged = b.staged; queued = b.queued; entries = n; bytes = a.bytes }) entries
    ∙ ap (λ (n : ℕ). record { staged = b.staged; queued = b.queued; entries = b.entries; bytes = n }) bytes

one_staged : (b : Bool) → ◌≡◌ {A = ℕ} (if b then 1 else 0) (cond b 1 0)
one_staged true = refl
one_staged false = refl

one_queued : (b : Bool) → ◌≡◌ {A = ℕ} (if b then 0 else 1) (cond (not b) 1 0)
one_queued true = refl
one_queued false = refl

-- none is counted yet
pub counts_start : (counts : ChunkCounts) (left chunks : List Facts) → counts ≡ no_chunks → left ≡ chunks → chunks_sum counts (chunk_counts left) ≡ chunk_counts chunks
counts_start counts left chunks none all =
    ap (λ z. chunks_sum z (chunk_counts left)) none ∙ same_counts (chunks_sum no_chunks (chunk_counts left)) (chunk_counts left) (omega arith) (omega arith) (omega arith) (omega arith) ∙ ap chunk_counts all

first_counted : (counts : ChunkCounts) (first : Facts) (rest : List Facts) → chunks_sum (chunks_sum counts (one_chunk first)) (chunk_counts rest) ≡ chunks_sum counts (chunk_counts (first ∷ rest))
first_counted counts first rest =
    let staged = is_staged first.stage in
    same_counts (chunks_sum (chunks_sum counts (one_chunk first)) (chunk_counts rest)) (chunks_sum counts (chunk_counts (first ∷ rest)))
    (omega (arith, one_staged staged, sum_by-cons (λ (facts : Facts). cond (is_staged facts.stage) 1 0) first rest))
    (omega (arith, one_queued staged, sum_by-cons (λ (facts : Facts). cond (not (is_staged facts.stage)) 1 0) first rest))
    (omega (arith, sum_by-cons (λ (facts : Facts). facts.count) first rest))
    (omega (arith, sum_by-cons (λ (facts : Facts). facts.size) first rest))

-- one chunk more
pub counts_more : (counts new whole : ChunkCounts) (first : Facts) (left rest : List Facts) → chunks_sum counts (chunk_counts left) ≡ whole → left ≡ first ∷ rest → new ≡ chunks_sum counts (one_chunk first)
    → chunks_sum new (chunk_counts rest) ≡ whole
counts_more counts new whole first left rest so_far is added =
    ap (λ z. chunks_sum z (chunk_counts rest)) added ∙ first_counted counts first rest ∙ ap (λ z. chunks_sum counts (chunk_counts z)) (sym is) ∙ so_far

-- no chunk is left
pub counts_end : (counts whole : ChunkCounts) (left : List Facts) → chunks_sum counts (chunk_counts left) ≡ whole → left ≡ [] → counts ≡ whole
counts_end counts whole left so_far none =
    same_counts counts (chunks_sum counts (chunk_counts [])) (omega arith) (omega arith) (omega arith) (omega arith) ∙ ap (λ z. chunks_sum counts (chunk_counts z)) (sym none) ∙ so_far
