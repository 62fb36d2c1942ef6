use Rattle.std.proofs.Common.{ℕ, ◌<◌, get_or}
use Rattle.std.specs.Prelude.{Any}
use Rattle.std.specs.Option.{option_copied}
use Rattle.tag_pattern.specs.Patterns.{Fits}
use Rattle.tag_pattern.specs.Prefixes.{entered_items}
use Rattle.loss_rules.proofs.fitting.fits_label.Given as goal

abbrev pub invariant-loop-patterns : goal.invariant-loop-patterns
invariant-loop-patterns g l = (k : ℕ) (d : _) → k < l.patterns-index → Any (Fits (entered_items (option_copied l.prefix) l.pattern)) (get_or l.patterns-items k d).now → ⊥
