-- What contracts see of a folder in memory.
use Rattle.std.specs.Prelude.{◌≡◌, ℕ, List, Option}
use Rattle.disk_files.specs.declared.memory.MemoryDir.{MemoryDir}
use Rattle.disk_files.specs.Disk.{Disk}
use Rattle.disk_files.specs.Moments.{History, now}
use Rattle.disk_files.specs.Past.{history_of}
use Rattle.disk_files.specs.Stop.{name_at}
use Rattle.disk_files.specs.Table.{IsSound}
use Rattle.disk_files.specs.Written.{last_place}

-- no two of its files share a name, of none more is synced than was written, and it knows which one
-- was written to last
abbrev pub IsHonest : {A : Type 0} → MemoryDir A → Type 0
IsHonest d = IsSound d.files.items × (d.last ≡ last_place d.files.items d.past)

-- the disk at each moment
abbrev pub history : {A : Type 0} → MemoryDir A → History
history d = history_of d.files.items d.past

-- the disk as it is
abbrev pub disk : {A : Type 0} → MemoryDir A → Disk
disk d = now (history d)

-- the name of the file that was written to last
abbrev pub last_written : {A : Type 0} → MemoryDir A → Option (List ℕ)
last_written d = name_at d.files.items (last_place d.files.items d.past)
