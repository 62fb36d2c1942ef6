-- The lines that are printed of a configuration.
use Rattle.std.specs.Prelude.{◌≡◌, Bool, true, false, ℕ, List, [], ◌++◌, codes}
use Rattle.conf_listing.specs.declared.adapted.Entry.{Entry}
use Rattle.conf_listing.specs.Printed.{printed_text}
use Rattle.program_text.specs.Lines.{line}

-- what is said of a byte order mark
abbrev pub mark_note : Bool → List ℕ
mark_note true = line (codes "# line 1: its byte order mark is left out")
mark_note false = []

-- Where all is accepted: the entries, and what is said of a byte order mark. Else the lines say
-- what isn't accepted, in words that nothing is stated of.
abbrev pub AreLines : {A : Type 0} → Bool → List (Entry A) → List ℕ → Type 0
AreLines true entries lines = (has_mark : Bool)
    × (lines ≡ printed_text entries ++ mark_note has_mark)
AreLines false entries lines = Unit {0}
