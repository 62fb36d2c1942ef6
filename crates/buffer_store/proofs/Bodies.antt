-- The entries of a chunk, as they are read from the journal.
use Rattle.std.proofs.Common.{◌≡◌, ℕ, false, List, [], Option, Some, option_map, sym, ap, subst, ◌∙◌}
use Rattle.std.specs.Prelude.{IsSomeAnd, IfOk, Result, Ok, Err}
use Rattle.std.specs.Option.{option_map_or}
use Rattle.std.specs.List.{concat}
use Rattle.std.proofs.lemmas.Bool.{false≢true}
use Rattle.disk_files.specs.Disk.{SameDisk}
use Rattle.disk_files.specs.Moments.{History, now}
use Rattle.buffer_state.specs.State.{State, Chunk, chunk_at}
use Rattle.buffer_state.specs.Steps.{settled, reopened}
use Rattle.chunk_journal.specs.Places.{entries_at}
use Rattle.journal_files.specs.JournalLogs.{JournalLog, state_of}
use Rattle.journal_files.proofs.Steps.{kept}
use Rattle.buffer_store.specs.Durability.{IsSound}
use Rattle.buffer_store.specs.Logs.{Logged, held_of}
use Rattle.buffer_store.specs.declared.settings.Settings.{Settings}
use Rattle.buffer_store.specs.declared.fault.BufferFault.{BufferFault}
use Rattle.buffer_store.proofs.Claims.{same_from, chunk_same, free}

-- the folder was read, and its disk is the same
module _ {D : Type 0} (is_honest : D → Type 0) (history : D → History) (log : Logged D) (chunks : State) (settings : Settings) (going : log.failed ≡ false) (sound : IsSound is_honest history (held_of log chunks settings)) where
  read_at : (dir : D) → (is_honest log.dir → is_honest dir) → (is_honest log.dir → SameDisk (now (history dir)) (now (history log.dir)))
      → IsSound is_honest history (held_of (record log { dir = dir }) chunks settings)
  read_at dir honest same = record {
    tags = sound.tags;
    durable = λ began. (let k = sound.durable began in record {
      honest = honest k.honest;
      logged = k.logged;
      more = k.more;
      told = k.told;
      could = k.could;
      means = k.means;
      loses = k.loses;
      going = λ on. record { keeps = kept log.journal (now (history log.dir)) (now (history dir)) k.logged (k.going on).keeps (same k.honest); means = k.means };
      recovers = λ fails. absurd (false≢true (sym going ∙ fails));
      gap = λ fails. absurd (false≢true (sym going ∙ fails));
    });
  }

  pub sound_read : (next : Logged D) → next ≡ record log { dir = next.dir } → (is_honest log.dir → is_honest next.dir)
      → (is_honest log.dir → SameDisk (now (history next.dir)) (now (history log.dir))) → IsSound is_honest history (held_of next chunks settings)
  sound_read next rest honest same = subst (λ (l : Logged D). IsSound is_honest history (held_of l chunks settings)) (sym rest) (read_at next.dir honest same)

-- the entries that a journal has of a chunk are those of the chunk in memory
pub entries_same : (t : JournalLog) (chunks : State) (serial : ℕ) (chunk : Chunk) → chunk_at chunks serial ≡ Some chunk → settled (state_of t) ≡ reopened chunks → entries_at (state_of t) serial ≡ concat chunk.entries
entries_same t chunks serial chunk at means = ap (λ (o : Option Chunk). option_map_or (λ c. concat c.entries) o [])
    (chunk_same (state_of t) chunks (same_from (state_of t) chunks means) serial ∙ ap (option_map free) at)

-- what the entries are to the chunk that is there
pub of_chunk : (P : Chunk → List (List ℕ) → Type 0) (r : Result (List (List ℕ)) BufferFault) (o : Option Chunk) (chunk : Chunk) → o ≡ Some chunk → IfOk r (λ entries. P chunk entries)
    → IfOk r (λ entries. IsSomeAnd o (λ there. P there entries))
of_chunk P (Ok entries) o chunk at is = subst (λ (x : Option Chunk). IsSomeAnd x (λ there. P there entries)) (sym at) is
of_chunk P (Err e) o chunk at is = tt
