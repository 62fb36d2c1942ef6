use Rattle.std.proofs.Common.{map, take}
use Rattle.folder_listing.specs.Files.{named_of}
use Rattle.event_listing.proofs.Sequence.{SoFar}
use Rattle.event_listing.proofs.files.run_events.Given as goal

abbrev pub invariant-loop-file : goal.invariant-loop-file
invariant-loop-file g l =
    SoFar (g.O.Open.text_of l.files) l.choice (map named_of (take l.file-index l.listed)) (l.fn.out, l.out) (g.V.Write.contents l.fn.notes, g.V.Write.contents l.notes) l.is_sound
