use Rattle.folder_counts.proofs.Live.{LiveOn}
use Rattle.folder_counts.proofs.journal.oldest_live.Given as goal

abbrev pub invariant-loop-serial : goal.invariant-loop-serial
invariant-loop-serial g l = LiveOn l.outlined.places (g.R.ReadAt.bytes_of l.file) l.oldest l.serial-iterator l.outlined.chunks
