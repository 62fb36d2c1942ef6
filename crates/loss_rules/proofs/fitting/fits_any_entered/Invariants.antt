use Rattle.std.proofs.Common.{ℕ, ◌<◌, get_or}
use Rattle.tag_pattern.specs.Items.{Item}
use Rattle.std.specs.Prelude.{List}
use Rattle.std.specs.Option.{option_copied}
use Rattle.tag_pattern.specs.Patterns.{Fits}
use Rattle.tag_pattern.specs.Prefixes.{entered_items}
use Rattle.loss_rules.proofs.fitting.fits_any_entered.Given as goal

abbrev pub invariant-loop-other : goal.invariant-loop-other
invariant-loop-other g l = (k : ℕ) (d : List Item) → k < l.other-index → Fits (entered_items (option_copied l.prefix) l.pattern) (get_or l.others k d) → ⊥
