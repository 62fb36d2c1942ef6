-- Which file of a folder in memory was written to last, by what its files were before each change.
use Rattle.std.specs.Prelude.{ℕ, ◌+◌, ◌==◌, List, [], ◌∷◌, length, Option, Some, None, cond, option_map}
use Rattle.std.specs.Option.{option_or}
use Rattle.disk_files.specs.Entry.{Entry}

-- the place of the file that a change wrote to: the first one that has more bytes or fewer after it
abbrev pub place_written : List Entry → List Entry → Option ℕ
place_written [] after = None
place_written (b ∷ before) [] = None
place_written (b ∷ before) (a ∷ after) = cond (length a.state.written == length b.state.written)
    (option_map (λ n. n + 1) (place_written before after)) (Some 0)

-- the place of the file that was written to last, with the files as they are and what they were
-- before each change, the last change first
abbrev pub last_place : List Entry → List (List Entry) → Option ℕ
last_place files [] = None
last_place files (before ∷ earlier) = option_or (place_written before files)
    (last_place before earlier)
