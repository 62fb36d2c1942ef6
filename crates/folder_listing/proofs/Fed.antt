-- A file that is fed piece by piece.
use Rattle.std.proofs.Common.{ℕ, List, [], ◌++◌, length, sym, subst, append_assoc, append-nil, Option, Some, None, Result, Ok, Err}
use Rattle.std.specs.Prelude.{IfOk, IfSome}
use Rattle.std.specs.Io.KnownBytes.{Consumes, IsAtEnd, Keeps}
use Rattle.std.proofs.KnownBytes.{Consumes-nil, Consumes-trans, Consumes-kept, Consumes-whole}
use Rattle.std.proofs.Math.Seq.{take-append_seam}
use Rattle.chunk_journal.specs.Meaning.{IsDamaged}
use Rattle.journal_files.proofs.Heard.{damaged_front}

-- what holds of what was read, whatever follows, holds of the bytes where they are known
pub known_is : (known now : Option (List ℕ)) (read : List ℕ) (P : List ℕ → Type 0) → Consumes known now read → ((more : List ℕ) → P (read ++ more)) → IfSome known P
known_is None now read P consumed holds = tt
known_is (Some bytes) None read P consumed holds = absurd consumed
known_is (Some bytes) (Some more) read P consumed holds = subst P (sym consumed) (holds more)

-- what was read so far was fed
pub record FedOn {S : Type 0} (after : S → List ℕ → Type 0) (known now : Option (List ℕ)) (fed : S) : Type 0 where
  pub read : List ℕ
  pub consumed : Consumes known now read
  pub so_far : after fed read

module _ {S : Type 0} (after : S → List ℕ → Type 0) (known : Option (List ℕ)) where
  pub fed_start : (fed : S) → after fed [] → FedOn after known known fed
  fed_start fed start = record { read = []; consumed = Consumes-nil known; so_far = start }

  -- a piece more
  pub fed_more : (now later : Option (List ℕ)) (fed new : S) (piece : List ℕ) → FedOn after known now fed → Consumes now later piece
      → ((seen : List ℕ) → after fed seen → after new (seen ++ piece)) → FedOn after known later new
  fed_more now later fed new piece on consumes feeds = record {
    read = on.read ++ piece;
    consumed = Consumes-trans known now later on.read piece on.consumed consumes;
    so_far = feeds on.read on.so_far;
  }

  -- nothing was read
  pub fed_kept : (now later : Option (List ℕ)) (fed : S) → FedOn after known now fed → Keeps now later → FedOn after known later fed
  fed_kept now later fed on kept = record { read = on.read; consumed = Consumes-kept known now later on.read on.consumed kept; so_far = on.so_far }

  -- nothing is left to read
  pub fed_whole : (now later : Option (List ℕ)) (fed : S) → FedOn after known now fed → Consumes now later [] → IsAtEnd later → IfSome known (after fed)
  fed_whole now later fed on nothing end =
      Consumes-whole known later on.read (after fed) (subst (Consumes known later) (append-nil on.read) (Consumes-trans known now later on.read [] on.consumed nothing)) end on.so_far

-- the piece shows that the file is damaged
pub fed_damaged : {S : Type 0} (after : S → List ℕ → Type 0) (damaged : List ℕ → Type 0) (known now later : Option (List ℕ)) (fed : S) (piece : List ℕ) → FedOn after known now fed → Consumes now later piece
    → ((seen more : List ℕ) → after fed seen → damaged ((seen ++ piece) ++ more)) → IfSome known damaged
fed_damaged after damaged known now later fed piece on consumes shows =
    known_is known later (on.read ++ piece) damaged (Consumes-trans known now later on.read piece on.consumed consumes) (λ more. shows on.read more on.so_far)

-- a journal that is damaged so far is damaged, whatever follows
pub damaged_on : (seen piece more : List ℕ) → IsDamaged seen → IsDamaged ((seen ++ piece) ++ more)
damaged_on seen piece more damaged =
    subst IsDamaged (sym (append_assoc seen piece more))
    (damaged_front (length seen) (seen ++ (piece ++ more)) (subst IsDamaged (sym (take-append_seam seen (piece ++ more))) damaged))

-- what follows of bytes that are known
pub if_known : (P Q : List ℕ → Type 0) (known : Option (List ℕ)) → IfSome known P → ((bytes : List ℕ) → P bytes → Q bytes) → IfSome known Q
if_known P Q None is follows = tt
if_known P Q (Some bytes) is follows = follows bytes is

-- what holds of all bytes holds of those that are known
pub each_known : (P : List ℕ → Type 0) (known : Option (List ℕ)) → ((bytes : List ℕ) → P bytes) → IfSome known P
each_known P None holds = tt
each_known P (Some bytes) holds = holds bytes

-- what is found behind all that was fed is found in the bytes where they are known
pub finished_so : {S E : Type 0} (is_in : List ℕ → S → Type 0) (after : List ℕ → Type 0) (known : Option (List ℕ)) (result : Result S E) → IfSome known after
    → ((bytes : List ℕ) → after bytes → IfOk result (λ found. is_in bytes found)) → IfOk result (λ found. IfSome known (λ bytes. is_in bytes found))
finished_so is_in after None (Ok found) all finds = tt
finished_so is_in after None (Err e) all finds = tt
finished_so is_in after (Some bytes) (Ok found) all finds = finds bytes all
finished_so is_in after (Some bytes) (Err e) all finds = tt
