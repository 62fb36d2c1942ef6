use Rattle.std.specs.Prelude.{[]}
use Rattle.loss_rules.specs.Lines.{Adds, site_of, KeptInList, BrokenInList}
use Rattle.loss_rules.proofs.Lines.{KeptBelow, BrokenBelow}
use Rattle.loss_rules.proofs.requirement.relay_lines.Given as goal

abbrev pub invariant-loop-scope : goal.invariant-loop-scope
invariant-loop-scope g l = Adds (KeptBelow (λ scope found. KeptInList (λ rule m. g.R.Requirement.keeps l.asked (site_of l.place scope rule) m) found.matches.items) l.found-items l.scope)
    (BrokenBelow (λ scope found line. BrokenInList (λ rule m at. g.R.Requirement.breaks l.asked (site_of l.place scope rule) m at) found.matches.items line) l.found-items l.scope) [] l.lines.items
