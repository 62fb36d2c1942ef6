use Rattle.program_text.specs.Output.{TakesPart}
use Rattle.program_text.proofs.output.put_all.Given as goal

abbrev pub invariant-loop : goal.invariant-loop
invariant-loop g l = TakesPart (g.W.Write.contents l.fn.out) (g.W.Write.contents l.out) l.fn.bytes l.rest
