use Rattle.std.proofs.Common.{◌≡◌, ◌+◌, length, drop}
use Rattle.std.specs.Str.Lines.{lines}
use Rattle.conf_text.specs.Grammar.{numbered, lines_of}
use Rattle.conf_text.specs.Reading.{steps, start}
use Rattle.conf_text.specs.Frames.{stack_of}
use Rattle.conf_text.proofs.reading.elements.Given as goal

abbrev pub invariant-loop-line : goal.invariant-loop-line
invariant-loop-line g l = record {
  counted : l.number ≡ length l.yielded;
  so_far : steps (numbered (l.number + 1) (drop l.number (lines l.text))) (stack_of l.reader) ≡ steps (lines_of l.text) start;
}
