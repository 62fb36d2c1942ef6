use Rattle.std.proofs.Common.{ℕ, ◌<◌, get_or}
use Rattle.tag_pattern.specs.Items.{Item}
use Rattle.std.specs.Prelude.{List}
use Rattle.tag_pattern.specs.Patterns.{Fits}
use Rattle.loss_rules.proofs.fitting.fits_any.Given as goal

abbrev pub invariant-loop-other : goal.invariant-loop-other
invariant-loop-other g l = (k : ℕ) (d : List Item) → k < l.other-index → Fits l.pattern (get_or l.others k d) → ⊥
