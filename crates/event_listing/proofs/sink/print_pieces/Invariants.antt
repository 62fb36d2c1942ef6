use Rattle.event_listing.specs.Forms.{form_of}
use Rattle.event_listing.proofs.Pieces.{FileOn}
use Rattle.event_listing.proofs.sink.print_pieces.Given as goal

abbrev pub invariant-loop : goal.invariant-loop
invariant-loop g l =
    FileOn (form_of l.form) l.choice (g.R.CountedRead.remaining l.fn.input) (g.R.CountedRead.remaining l.input) l.fn.out l.out l.held.bytes.items l.held.at
