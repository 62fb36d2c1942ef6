-- What is printed of an adapted configuration, and what of it has to be accepted.
use Rattle.std.specs.Prelude.{ℕ, Bool, true, List}
use Rattle.std.specs.List.{flat_map, list_all, list_any}
use Rattle.std.specs.Str.{bytes_eq}
use Rattle.conf_listing.specs.declared.adapted.Entry.{Entry}
use Rattle.conf_listing.specs.declared.adapted.Entry.TheVariants as entry

-- the lines of an entry
abbrev pub entry_text : {A : Type 0} → Entry A → List ℕ
entry_text (entry.Of row) = row.text.items
entry_text (entry.End line text) = text.items

-- the text of all of them, one behind another
abbrev pub printed_text : {A : Type 0} → List (Entry A) → List ℕ
printed_text entries = flat_map entry_text entries

-- whether a name is among these
abbrev pub is_among : List (List ℕ) → List ℕ → Bool
is_among names name = list_any (λ one. bytes_eq one name) names

-- whether all that has to be accepted of an entry is, by these names
abbrev pub entry_accepted : {A : Type 0} → List (List ℕ) → Entry A → Bool
entry_accepted names (entry.Of row) =
    list_all (λ decision. is_among names decision.items) row.decisions.items
entry_accepted names (entry.End line text) = true

-- whether all that has to be accepted is, by these names
abbrev pub all_accepted : {A : Type 0} → List (List ℕ) → List (Entry A) → Bool
all_accepted names entries = list_all (entry_accepted names) entries
