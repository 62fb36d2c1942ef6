-- A data folder, counted.
use Rattle.std.specs.Prelude.{ℕ, ◌≡◌, List, [], Option, IfSome, map, fold}
use Rattle.std.specs.List.{AllByRecursion}
use Rattle.folder_listing.specs.Files.{Named}
use Rattle.folder_listing.specs.declared.kind.Kind.TheVariants.{Journal, Sink}
use Rattle.folder_counts.specs.Findings.{IsInJournal, IsInSink}
use Rattle.folder_counts.specs.Groups.{buffers_with, sinks_with}
use Rattle.folder_counts.specs.Names.{IsOwner}
use Rattle.folder_counts.specs.Views.{BufferView, FolderView, SinkView}

-- what one file adds: a generation of a buffer, or a file of a sink
pub data Counted : Type 0 where
  OfBuffer : BufferView → Counted
  OfSink : SinkView → Counted

-- the kind and the name of that file
abbrev pub name_of : Counted → Named
name_of (OfBuffer buffer) = (Journal, buffer.file)
name_of (OfSink sink) = (Sink, sink.newest)

-- A file is counted so: its path and its number are those that its name says, and what is found in
-- it is in its bytes, where `named` has these.
abbrev pub IsCounted : (List ℕ → Option (List ℕ)) → Counted → Type 0
IsCounted named (OfBuffer buffer) = IsOwner Journal buffer.file buffer.path buffer.number
    × IfSome (named buffer.file) (λ bytes. IsInJournal bytes buffer.found)
IsCounted named (OfSink sink) = IsOwner Sink sink.newest sink.path sink.number
    × IfSome (named sink.newest) (λ bytes. IsInSink bytes sink.counts)

-- a folder with what one file more adds
abbrev pub folder_with : FolderView → Counted → FolderView
folder_with held (OfBuffer buffer) =
    record { buffers = buffers_with held.buffers buffer; sinks = held.sinks }
folder_with held (OfSink sink) =
    record { buffers = held.buffers; sinks = sinks_with held.sinks sink }

-- a folder without files
abbrev pub no_folder : FolderView
no_folder = record { buffers = []; sinks = [] }

-- the file of this kind and name is counted, and the folder has what it adds
pub record Takes (named : List ℕ → Option (List ℕ)) (file : Named)
    (old new : FolderView) : Type 0 where
  pub one : Counted
  pub is : IsCounted named one
  pub file_is : name_of one ≡ file
  pub more : new ≡ folder_with old one

-- These files are counted, one after another, and make the folder.
pub record AreCounted (named : List ℕ → Option (List ℕ)) (files : List Named)
    (folder : FolderView) : Type 0 where
  pub counted : List Counted
  pub files_are : map name_of counted ≡ files
  pub each : AllByRecursion (IsCounted named) counted
  pub folder_is : folder ≡ fold folder_with no_folder counted
