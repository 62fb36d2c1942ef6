-- The chunk at a serial, of lists that change.
use Rattle.std.proofs.Common.{◌≡◌, ℕ, zero, suc, ◌<◌, ◌≤◌, ◌==◌, cond, List, [], ◌∷◌, ◌++◌, set, length, Option, Some, None, refl, ap, arith, inl, inr, IsSomeAnd}
use Rattle.std.specs.Option.{option_and_then}
use Rattle.std.proofs.lemmas.List.{length-set}
use Rattle.std.proofs.lemmas.Bool.{eq-eqb, ne_eqb, cases_eq}
use Rattle.custody_store.specs.Buffers.{Chunk, with_chunk}
use Rattle.custody_store.specs.declared.chunk.Stage.TheVariants.{Claimed}
use Rattle.custody_store.specs.Contents.{Contents, chunk_at, changed, buffer_of}

chunk_at-set_same : (chunks : List (Option Chunk)) (k : ℕ) (slot : Option Chunk) → k < length chunks → chunk_at (set chunks k slot) k ≡ slot
chunk_at-set_same [] k slot h = absurd (omega arith)
chunk_at-set_same (c ∷ chunks) zero slot h = refl
chunk_at-set_same (c ∷ chunks) (suc k) slot h = chunk_at-set_same chunks k slot (omega arith)

chunk_at-set_other : (chunks : List (Option Chunk)) (k : ℕ) (slot : Option Chunk) (serial : ℕ) → (serial ≡ k → ⊥) → chunk_at (set chunks k slot) serial ≡ chunk_at chunks serial
chunk_at-set_other [] k slot serial apart = refl
chunk_at-set_other (c ∷ chunks) zero slot zero apart = absurd (apart refl)
chunk_at-set_other (c ∷ chunks) zero slot (suc serial) apart = refl
chunk_at-set_other (c ∷ chunks) (suc k) slot zero apart = refl
chunk_at-set_other (c ∷ chunks) (suc k) slot (suc serial) apart = chunk_at-set_other chunks k slot serial (λ e. apart (ap suc e))

pub chunk_at-set : (chunks : List (Option Chunk)) (k : ℕ) (slot : Option Chunk) (serial : ℕ) → k < length chunks → chunk_at (set chunks k slot) serial ≡ cond (serial == k) slot (chunk_at chunks serial)
chunk_at-set chunks k slot serial h = elim (cases_eq serial k) as (λ _. chunk_at (set chunks k slot) serial ≡ cond (serial == k) slot (chunk_at chunks serial)) [
  | inl e ↦ rw (e, eq-eqb k k refl) (chunk_at-set_same chunks k slot h)
  | inr apart ↦ rw (ne_eqb serial k apart) (chunk_at-set_other chunks k slot serial apart)
]

chunk_at-push_same : (chunks : List (Option Chunk)) (slot : Option Chunk) → chunk_at (chunks ++ slot ∷ []) (length chunks) ≡ slot
chunk_at-push_same [] slot = refl
chunk_at-push_same (c ∷ chunks) slot = chunk_at-push_same chunks slot

chunk_at-push_other : (chunks : List (Option Chunk)) (slot : Option Chunk) (serial : ℕ) → (serial ≡ length chunks → ⊥) → chunk_at (chunks ++ slot ∷ []) serial ≡ chunk_at chunks serial
chunk_at-push_other [] slot zero apart = absurd (apart refl)
chunk_at-push_other [] slot (suc serial) apart = refl
chunk_at-push_other (c ∷ chunks) slot zero apart = refl
chunk_at-push_other (c ∷ chunks) slot (suc serial) apart = chunk_at-push_other chunks slot serial (λ e. apart (ap suc e))

pub chunk_at-push : (chunks : List (Option Chunk)) (slot : Option Chunk) (serial : ℕ) → chunk_at (chunks ++ slot ∷ []) serial ≡ cond (serial == length chunks) slot (chunk_at chunks serial)
chunk_at-push chunks slot serial = elim (cases_eq serial (length chunks)) as (λ _. chunk_at (chunks ++ slot ∷ []) serial ≡ cond (serial == length chunks) slot (chunk_at chunks serial)) [
  | inl e ↦ rw (e, eq-eqb (length chunks) (length chunks) refl) (chunk_at-push_same chunks slot)
  | inr apart ↦ rw (ne_eqb serial (length chunks) apart) (chunk_at-push_other chunks slot serial apart)
]

pub chunk_at_past : (chunks : List (Option Chunk)) (serial : ℕ) → length chunks ≤ serial → chunk_at chunks serial ≡ None
chunk_at_past [] serial h = refl
chunk_at_past (c ∷ chunks) zero h = absurd (omega arith)
chunk_at_past (c ∷ chunks) (suc serial) h = chunk_at_past chunks serial (omega arith)

pub chunk_at_within : (chunks : List (Option Chunk)) (serial : ℕ) (chunk : Chunk) → chunk_at chunks serial ≡ Some chunk → serial < length chunks
chunk_at_within [] serial chunk h = cc
chunk_at_within (c ∷ chunks) zero chunk h = omega arith
chunk_at_within (c ∷ chunks) (suc serial) chunk h = let w = chunk_at_within chunks serial chunk h in omega arith

pub buffer_of-changed : (contents : Contents) (serial : ℕ) (change : Chunk → Option Chunk) → serial < length contents.chunks
    → buffer_of (record contents { chunks = changed contents.chunks serial change }) ≡ with_chunk serial (option_and_then change (chunk_at contents.chunks serial)) (buffer_of contents)
buffer_of-changed contents serial change h = λ i. record {
  chunks = λ s. chunk_at-set contents.chunks serial (option_and_then change (chunk_at contents.chunks serial)) s h i;
  next = length-set contents.chunks serial (option_and_then change (chunk_at contents.chunks serial)) i;
  sink = contents.sink;
}

-- a claimed chunk is there
pub claimed_within : (chunks : List (Option Chunk)) (serial : ℕ) → IsSomeAnd (chunk_at chunks serial) (λ chunk. chunk.stage ≡ Claimed) → serial < length chunks
claimed_within [] serial h = absurd h
claimed_within (c ∷ chunks) zero h = omega arith
claimed_within (c ∷ chunks) (suc serial) h = let w = claimed_within chunks serial h in omega arith
