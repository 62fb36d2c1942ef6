use Rattle.std.proofs.Common.{◌≡◌, ◌↔◌, ℕ, List, Contains}
use Rattle.tag_pattern.specs.Items.{Item}
use Rattle.loss_rules.specs.BySite.{patterns_at}
use Rattle.loss_rules.specs.Lines.{HoldsBefore}
use Rattle.loss_rules.specs.Labels.{IsReachOf}
use Rattle.loss_rules.proofs.by_site.Reaches.new.Given as goal

abbrev pub invariant-loop-reach : goal.invariant-loop-reach
invariant-loop-reach g l = (place scope rule : ℕ) (list : List (List Item)) → Contains (patterns_at l.by_match ((place, scope), rule)) list ↔ HoldsBefore (λ reach. IsReachOf place scope rule reach × (reach.patterns.items ≡ list)) l.list l.reach-index
