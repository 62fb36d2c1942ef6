-- What is said of a file beside its events.
use Rattle.std.specs.Prelude.{ℕ, ◌≡◌, ◌<◌, ◌⊎◌, List, [], ◌++◌, codes, decimal}
use Rattle.program_text.specs.Lines.{line, memory_line}
use Rattle.event_listing.specs.declared.sink.End.{End}
use Rattle.event_listing.specs.declared.sink.End.TheVariants.{Ended, Damaged}
use Rattle.event_listing.specs.declared.journal.JournalEnd.{JournalEnd}
use Rattle.event_listing.specs.declared.journal.JournalEnd.TheVariants as journal

-- the line of a file whose events have so many bytes, and which has so many behind them
abbrev pub torn_line : List ℕ → ℕ → ℕ → List ℕ
torn_line name at behind =
    line (name ++ codes ": torn at byte " ++ decimal at ++ codes ": " ++ decimal behind
    ++ codes " bytes stand behind the last whole event")

-- the line of a file that is read no further than behind its events, which have so many bytes
abbrev pub damaged_line : List ℕ → ℕ → List ℕ
damaged_line name at =
    line (name ++ codes ": damaged at byte " ++ decimal at
    ++ codes ": no event begins there, and what follows is not read")

-- the line of a journal whose whole records have so many bytes, and which has so many behind them
abbrev pub torn_journal_line : List ℕ → ℕ → ℕ → List ℕ
torn_journal_line name at behind =
    line (name ++ codes ": torn at byte " ++ decimal at ++ codes ": " ++ decimal behind
    ++ codes " bytes stand behind the last whole record")

-- the line of a journal whose whole records end before a Seal
abbrev pub unsealed_line : List ℕ → List ℕ
unsealed_line name = line (name ++ codes ": unsealed: a generation that was begun and isn't whole")

-- the line of a journal in which something stands that no buffer writes
abbrev pub damaged_journal_line : List ℕ → List ℕ
damaged_journal_line name =
    line
    (name
    ++ codes
    ": damaged: something stands there that no buffer writes, and none of its events is printed")

-- the line; or where there was no memory for it, the one that says so
abbrev pub IsNote : List ℕ → List ℕ → Type 0
IsNote wanted text = (text ≡ wanted) ⊎ (text ≡ memory_line)

-- what is said of the end of a file: nothing where nothing stands behind its events
abbrev pub IsEndNote : List ℕ → End → List ℕ → Type 0
IsEndNote name (Ended at behind) text = ((behind ≡ 0) × (text ≡ []))
    ⊎ ((0 < behind) × IsNote (torn_line name at behind) text)
IsEndNote name (Damaged at) text = IsNote (damaged_line name at) text

-- what is said of the end of a journal: nothing where it is sealed and nothing stands behind its
-- records
abbrev pub IsJournalNote : List ℕ → JournalEnd → List ℕ → Type 0
IsJournalNote name (journal.Sealed at behind) text = ((behind ≡ 0) × (text ≡ []))
    ⊎ ((0 < behind) × IsNote (torn_journal_line name at behind) text)
IsJournalNote name journal.Unsealed text = IsNote (unsealed_line name) text
IsJournalNote name journal.Damaged text = IsNote (damaged_journal_line name) text
