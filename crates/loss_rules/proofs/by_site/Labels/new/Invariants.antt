use Rattle.std.proofs.Common.{◌≡◌, ◌↔◌, ℕ, List, Contains}
use Rattle.tag_pattern.specs.Items.{Item}
use Rattle.loss_rules.specs.BySite.{patterns_at}
use Rattle.loss_rules.specs.Lines.{HoldsBefore}
use Rattle.loss_rules.specs.Labels.{IsLabelOf}
use Rattle.loss_rules.proofs.by_site.Labels.new.Given as goal

abbrev pub invariant-loop-label : goal.invariant-loop-label
invariant-loop-label g l = (place scope : ℕ) (list : List (List Item)) → Contains (patterns_at l.by_scope ((place, scope), 0)) list ↔ HoldsBefore (λ label. IsLabelOf place scope label × (label.patterns.items ≡ list)) l.list l.label-index
