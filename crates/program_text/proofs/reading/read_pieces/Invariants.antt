use Rattle.std.proofs.Common.{◌≤◌, ◌+◌, length}
use Rattle.std.specs.Io.KnownBytes.{Consumes}
use Rattle.program_text.proofs.reading.read_pieces.Given as goal

abbrev pub invariant-loop : goal.invariant-loop
invariant-loop g l = record {
  reads : Consumes (g.R.CountedRead.remaining l.fn.input) (g.R.CountedRead.remaining l.input) l.text.items;
  bound : length l.text.items ≤ 1073741824;
  calls : g.R.CountedRead.calls l.input ≤ g.R.CountedRead.calls l.fn.input + l.counter;
}
