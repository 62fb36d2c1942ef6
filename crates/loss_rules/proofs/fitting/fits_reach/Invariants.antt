use Rattle.std.proofs.Common.{ℕ, ◌<◌, get_or}
use Rattle.std.specs.Prelude.{Any}
use Rattle.tag_pattern.specs.Patterns.{Fits}
use Rattle.loss_rules.proofs.fitting.fits_reach.Given as goal

abbrev pub invariant-loop-patterns : goal.invariant-loop-patterns
invariant-loop-patterns g l = (k : ℕ) (d : _) → k < l.patterns-index → Any (Fits l.pattern) (get_or l.patterns-items k d).now → ⊥
