-- The folders of a relay's buffers.
use Rattle.std.specs.Prelude.{ℕ, ◌≡◌, List, Option, None, Some}
use Rattle.disk_files.specs.declared.memory.MemoryDir.{MemoryDir}
use Rattle.disk_files.specs.declared.either.EitherDir.{EitherDir}
use Rattle.disk_files.specs.declared.either.EitherDir.TheVariants.{Left, Right}
use Rattle.disk_files.specs.Memory.{IsHonest, disk}
use Rattle.relay_conf.specs.declared.buffer.BufferKind.{BufferKind}
use Rattle.relay_conf.specs.declared.buffer.BufferKind.TheVariants.{Memory, File}

-- a folder in memory that has no file
abbrev pub IsEmptyFolder : {A : Type 0} → MemoryDir A → Type 0
IsEmptyFolder dir = IsHonest dir × ((name : List ℕ) → disk dir name ≡ None)

-- the folder of the system in which a buffer has its files, where that is this one, and none where
-- it is in memory
abbrev pub path_for : {A : Type 0} → (folder : List ℕ) → BufferKind A → Option (List ℕ)
path_for folder Memory = None
path_for folder (File path) = Some folder

-- A buffer in memory has an empty folder there, and one with files a folder of the first kind,
-- which is the system's.
abbrev pub IsForKind : {A S : Type 0} → BufferKind A → EitherDir S (MemoryDir A) → Type 0
IsForKind Memory (Left system) = ⊥
IsForKind Memory (Right dir) = IsEmptyFolder dir
IsForKind (File path) (Left system) = Unit {0}
IsForKind (File path) (Right dir) = ⊥
