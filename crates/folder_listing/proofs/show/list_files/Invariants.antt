use Rattle.std.proofs.Common.{map, take}
use Rattle.folder_listing.specs.Files.{AreShown, named_of}
use Rattle.folder_listing.proofs.show.list_files.Given as goal

abbrev pub invariant-loop-file : goal.invariant-loop-file
invariant-loop-file g l = AreShown (g.O.Open.text_of l.files) (map named_of (take l.file-index l.listed)) l.lines.items l.is_sound
