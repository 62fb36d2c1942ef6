use Rattle.journal_files.proofs.Spelled.{StillTold}
use Rattle.journal_files.proofs.spelling.tell_chunks.Given as goal

abbrev pub invariant-loop-serial : goal.invariant-loop-serial
invariant-loop-serial g l = StillTold l.pieces.items l.len l.from l.places l.serial-iterator l.chunks
