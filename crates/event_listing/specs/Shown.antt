-- What is written of the lines that are printed.
use Rattle.std.specs.Prelude.{ℕ, ◌≡◌, List, [], Option, Some, None, Result, Ok, Err}
use Rattle.std.specs.Io.KnownBytes.{Appends}
use Rattle.program_text.specs.Output.{TakesPart}
use Rattle.recent_lines.specs.Recent.{Recent, Keeps}
use Rattle.event_listing.specs.declared.stop.Stop.{Stop}
use Rattle.event_listing.specs.declared.stop.Stop.TheVariants.{Memory, Read, Output}

-- what an output's writer was given, where that is known, and the lines written last, where those
-- that repeat one of them are left out
pub record Shown : Type 0 where
  pub written : Option (List ℕ)
  pub recent : Option Recent

-- what is to be written of a text, and the lines written last then: all of it, or the lines that
-- repeat none
abbrev pub IsKept : Option Recent → List ℕ → List ℕ → Option Recent → Type 0
IsKept None text kept now = (kept ≡ text) × (now ≡ None)
IsKept (Some recent) text kept now = (last : Recent) × Keeps recent text kept last
    × (now ≡ Some last)

-- what is to be written of a text was written
pub record ShowsAll (old new : Shown) (text : List ℕ) : Type 0 where
  pub kept : List ℕ
  pub is_kept : IsKept old.recent text kept new.recent
  pub appends : Appends old.written new.written kept

-- it was, but for these bytes at its end
pub record ShowsPart (old new : Shown) (text unseen : List ℕ) : Type 0 where
  pub kept : List ℕ
  pub last : Option Recent
  pub is_kept : IsKept old.recent text kept last
  pub takes : TakesPart old.written new.written kept unseen

-- it was, behind which nothing more is printed for this reason; or the writer failed
abbrev pub IsShown : Shown → Shown → List ℕ → Stop → Type 0
IsShown old new text Read = ShowsAll old new text
IsShown old new text Memory = ShowsPart old new text []
IsShown old new text Output = (unseen : List ℕ) × ShowsPart old new text unseen

-- all of the bytes are written, or the writer failed
abbrev pub IsWritten : Option (List ℕ) → Option (List ℕ) → List ℕ → Result (Unit {0}) Stop → Type 0
IsWritten old new bytes (Ok done) = TakesPart old new bytes []
IsWritten old new bytes (Err Output) = (unseen : List ℕ) × TakesPart old new bytes unseen
IsWritten old new bytes (Err Read) = ⊥
IsWritten old new bytes (Err Memory) = ⊥

-- a text is written, or nothing for want of memory, or the writer failed
abbrev pub IsPut : Shown → Shown → List ℕ → Result (Unit {0}) Stop → Type 0
IsPut old new text (Ok done) = ShowsAll old new text
IsPut old new text (Err Memory) = new.written ≡ old.written
IsPut old new text (Err Output) = (unseen : List ℕ) × ShowsPart old new text unseen
IsPut old new text (Err Read) = ⊥
