-- Lines, and those that say why something isn't read.
use Rattle.std.specs.Prelude.{ℕ, List, [], ◌∷◌, ◌++◌, codes}
use Rattle.program_text.specs.declared.reading.ReadFault.{ReadFault}
use Rattle.program_text.specs.declared.reading.ReadFault.TheVariants as unread

-- a line: its text and the line feed that ends it
abbrev pub line : List ℕ → List ℕ
line text = text ++ 10 ∷ []

-- where memory was wanted
abbrev pub memory_line : List ℕ
memory_line = line (codes "fault memory")

-- where a reader failed
abbrev pub read_line : List ℕ
read_line = line (codes "fault read")

-- of a text that isn't read
abbrev pub unread_line : ReadFault → List ℕ
unread_line unread.Memory = memory_line
unread_line unread.Read = read_line
