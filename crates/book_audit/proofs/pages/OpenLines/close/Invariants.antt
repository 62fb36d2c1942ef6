use Rattle.std.proofs.Common.{◌≤◌, take}
use Rattle.std.specs.HashMap.{spare}
use Rattle.book_audit.specs.Audits.{Closes, lines_of}
use Rattle.book_audit.proofs.pages.OpenLines.close.Given as goal

abbrev pub invariant-loop-part : goal.invariant-loop-part
invariant-loop-part g l = record {
  closed : Closes (lines_of l.leaf (take l.part-index l.parts)) l.fn.self (record { count = l.self-inside.count; lines = l.self-inside.lines.entries; room = spare l.self-inside.lines });
  room : l.fn.self.room ≤ spare l.self-inside.lines;
}
