use Rattle.std.proofs.Common.{map, take}
use Rattle.folder_listing.specs.Files.{named_of}
use Rattle.folder_counts.specs.Folders.{AreCounted}
use Rattle.folder_counts.proofs.folder.count_folder.Given as goal

abbrev pub invariant-loop-file : goal.invariant-loop-file
invariant-loop-file g l = AreCounted (g.O.Open.text_of l.files) (map named_of (take l.file-index l.listed)) l.folder
