-- The oldest queued chunk of a buffer goes.
use Rattle.std.proofs.Common.{◌≡◌, ℕ, zero, suc, ◌<◌, ◌==◌, ◌&&◌, not, Bool, true, false, cond, length, Option, Some, None, refl, sym, ap, ◌∙◌, inl, inr, arith, IsSomeAnd, IsTrue, ◌↔◌}
use Rattle.std.specs.Option.{option_and_then}
use Rattle.std.proofs.lemmas.Bool.{and_parts, eq-eqb, ne_eqb, cases_eq, cases_lt, not-true, false≢true}
use Rattle.custody_store.specs.Buffers.{Chunk, is_queued, is_queued_at, none_queued_below, without_oldest}
use Rattle.custody_store.specs.Contents.{Contents, chunk_at, changed, buffer_of}
use Rattle.custody_store.specs.Places.{contents_at, IsChangedAt, AreSame}
use Rattle.custody_store.specs.declared.chunk.Stage.{Stage}
use Rattle.custody_store.specs.declared.chunk.Stage.TheVariants.{Staged, Queued, Claimed}
use Rattle.custody_store.specs.declared.places.Places.{Places}
use Rattle.custody_store.proofs.ChunksAt.{buffer_of-changed}
use Rattle.custody_store.specs.Book.{Book}
use Rattle.custody_steps.specs.Steps.{HasQueued}
use Rattle.custody_steps.specs.World.{World, with_buffer}
use Rattle.custody_steps.specs.WorldFrom.{world_from}
use Rattle.custody_steps.proofs.Views.{changed_world, same_world}

-- where none below is queued, one below isn't
below_not : (chunks : ℕ → Option Chunk) (n s : ℕ) → s < n → none_queued_below n chunks ≡ true → is_queued (chunks s) ≡ false
below_not chunks zero s less none = absurd (omega arith)
below_not chunks (suc n) s less none =
    let parts = and_parts (not (is_queued (chunks n))) (none_queued_below n chunks) none in
    elim (cases_eq s n) as (λ _. is_queued (chunks s) ≡ false) [
      | inl e ↦ rw e (not-true (is_queued (chunks n)) parts.0)
      | inr apart ↦ below_not chunks n s (omega (arith, apart)) parts.1
    ]

-- where one below is queued, it isn't that none is
above_not : (chunks : ℕ → Option Chunk) (n serial : ℕ) → serial < n → is_queued (chunks serial) ≡ true → none_queued_below n chunks ≡ false
above_not chunks zero serial less queued = absurd (omega arith)
above_not chunks (suc n) serial less queued = elim (cases_eq serial n) as (λ _. (not (is_queued (chunks n)) && none_queued_below n chunks) ≡ false) [
  | inl e ↦ rw (← e) (rw queued refl)
  | inr apart ↦ rw (above_not chunks n serial (omega (arith, apart)) queued) (off (not (is_queued (chunks n))))
]
  where
    off : (b : Bool) → (b && false) ≡ false
    off true = refl
    off false = refl

not_oldest : (chunks : ℕ → Option Chunk) (serial s : ℕ) → is_queued (chunks serial) ≡ true → none_queued_below serial chunks ≡ true → (s ≡ serial → ⊥) → (is_queued (chunks s) && none_queued_below s chunks) ≡ false
not_oldest chunks serial s queued none apart = elim (cases_lt s serial) as (λ _. (is_queued (chunks s) && none_queued_below s chunks) ≡ false) [
  | inl less ↦ rw (below_not chunks serial s less none) refl
  | inr most ↦ rw (above_not chunks s serial (omega (arith, apart)) queued) (off (is_queued (chunks s)))
]
  where
    off : (b : Bool) → (b && false) ≡ false
    off true = refl
    off false = refl

-- a chunk goes
abbrev gone : Chunk → Option Chunk
gone chunk = None

goes : (o : Option Chunk) → option_and_then gone o ≡ None
goes None = refl
goes (Some chunk) = refl

oldest_at : (chunks : ℕ → Option Chunk) (serial s : ℕ) → is_queued (chunks serial) ≡ true → none_queued_below serial chunks ≡ true
    → cond (s == serial) (option_and_then gone (chunks serial)) (chunks s) ≡ cond (is_queued (chunks s) && none_queued_below s chunks) None (chunks s)
oldest_at chunks serial s queued none = elim (cases_eq s serial) as (λ _. cond (s == serial) (option_and_then gone (chunks serial)) (chunks s) ≡ cond (is_queued (chunks s) && none_queued_below s chunks) None (chunks s)) [
  | inl e ↦ rw (e, eq-eqb serial serial refl, queued, none) (goes (chunks serial))
  | inr apart ↦ rw (ne_eqb s serial apart, not_oldest chunks serial s queued none apart) refl
]

oldest_buffer : (contents : Contents) (serial : ℕ) → serial < length contents.chunks → is_queued (chunk_at contents.chunks serial) ≡ true → none_queued_below serial (chunk_at contents.chunks) ≡ true
    → buffer_of (record contents { chunks = changed contents.chunks serial gone }) ≡ without_oldest (buffer_of contents)
oldest_buffer contents serial less queued none = buffer_of-changed contents serial gone less
    ∙ (λ i. record (buffer_of contents) { chunks = λ s. oldest_at (chunk_at contents.chunks) serial s queued none i })

pub oldest_world : {A : Type 0} (before mid after : Places A) (book : Book) (place buffer serial : ℕ) → AreSame before mid
    → serial < length (contents_at before place buffer).chunks → is_queued (chunk_at (contents_at before place buffer).chunks serial) ≡ true → none_queued_below serial (chunk_at (contents_at before place buffer).chunks) ≡ true
    → IsChangedAt mid after place buffer (record (contents_at mid place buffer) { chunks = changed (contents_at mid place buffer).chunks serial gone })
    → world_from after book ≡ with_buffer (world_from before book) place buffer without_oldest
oldest_world before mid after book place buffer serial same less queued none is =
    let e = same.contents place buffer in
    changed_world mid after place buffer _ is book without_oldest
    (oldest_buffer (contents_at mid place buffer) serial (rw e less) (rw e queued) (rw e none))
    ∙ ap (λ (w : World). with_buffer w place buffer without_oldest) (same_world before mid same book)

-- Whether one is queued.

never_queued : (o : Option Chunk) → is_queued o ≡ false → ¬ IsSomeAnd o (λ chunk. chunk.stage ≡ Queued)
never_queued None e h = h
never_queued (Some chunk) e h = let on = rw h at e in false≢true (sym on)

queued_stage : (o : Option Chunk) → is_queued o ≡ true → IsSomeAnd o (λ chunk. chunk.stage ≡ Queued)
queued_stage None e = absurd (false≢true e)
queued_stage (Some chunk) e = by chunk.stage e
  where
    by : (stage : Stage) → is_queued_at stage ≡ true → stage ≡ Queued
    by Staged e = absurd (false≢true e)
    by Queued e = refl
    by Claimed e = absurd (false≢true e)

pub no_queued : (contents : Contents) → ((serial : ℕ) → is_queued (chunk_at contents.chunks serial) ≡ false) → IsTrue false ↔ HasQueued (buffer_of contents)
no_queued contents none = (λ e. absurd (false≢true e), λ h. absurd (never_queued (chunk_at contents.chunks h.0) (none h.0) h.1))

pub one_queued : (contents : Contents) (serial : ℕ) → is_queued (chunk_at contents.chunks serial) ≡ true → IsTrue true ↔ HasQueued (buffer_of contents)
one_queued contents serial queued = (λ _. (serial, queued_stage (chunk_at contents.chunks serial) queued), λ _. refl)
