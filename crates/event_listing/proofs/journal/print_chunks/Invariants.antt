use Rattle.event_listing.proofs.Chunks.{LiveOn}
use Rattle.event_listing.proofs.journal.print_chunks.Given as goal

abbrev pub invariant-loop-serial : goal.invariant-loop-serial
invariant-loop-serial g l =
    LiveOn l.choice l.outlined.places (g.R.ReadAt.bytes_of l.file) l.fn.out l.out l.serial-iterator l.outlined.chunks
