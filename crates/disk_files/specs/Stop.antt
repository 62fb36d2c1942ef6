-- What the stop of a folder in memory keeps.
use Rattle.std.specs.Prelude.{ℕ, Bool, false, List, take, max, Option, Some, None, cond, option_map, option_and_then, slice_get}
use Rattle.std.specs.Str.{bytes_eq}
use Rattle.disk_files.specs.Disk.{File, Disk, Folder}
use Rattle.disk_files.specs.Entry.{Entry}
use Rattle.disk_files.specs.declared.keep.Keep.{Keep}
use Rattle.disk_files.specs.declared.keep.Keep.TheVariants.{Least, Greatest, Last}

-- what is left of a file that wasn't removed, where the last part of this test says whether it was
-- the last one written to
abbrev pub left_by : Keep → Bool → File → Option (List ℕ)
left_by Least is_last f = cond f.is_durable (Some (take f.synced f.written)) None
left_by Greatest is_last f = Some f.written
left_by (Last n) is_last f = Some (cond is_last (take (max n f.synced) f.written) f.written)

-- a removed file is gone
abbrev pub left_bytes : Keep → Bool → File → Option (List ℕ)
left_bytes keep is_last f = cond f.is_removed None (left_by keep is_last f)

-- whether there is a last file, and it has this name
abbrev pub is_named : Option (List ℕ) → List ℕ → Bool
is_named None name = false
is_named (Some last) name = bytes_eq last name

-- the folder that a stop leaves of a disk, where this is the name of the file written to last
abbrev pub left_of : Keep → Option (List ℕ) → Disk → Folder
left_of keep last disk name = option_and_then (left_bytes keep (is_named last name)) (disk name)

-- the name of the file at a place, if it stands there
abbrev pub name_at : List Entry → Option ℕ → Option (List ℕ)
name_at files place = option_map (λ e. e.name) (option_and_then (slice_get files) place)
