-- Rules go by their numbers.
use Rattle.std.proofs.Common.{◌≡◌, List, ◌∷◌, [], Some, slice_get, refl, sym, ap, ◌∙◌}
use Rattle.loss_rules.specs.Breaks.{rule_number}
use Rattle.loss_rules.specs.declared.answer.Rule.{Rule}
use Rattle.loss_rules.specs.declared.answer.Rule.TheVariants as rule

-- the rules, each at its number; no rule has the number 0
abbrev numbered : List Rule
numbered = rule.AddressesAreDistinct ∷ rule.AddressesAreDistinct ∷ rule.ServersAreSources ∷ rule.ClientsAreLabelled ∷ rule.LabelsAreMatched ∷ rule.ReachesCover
    ∷ rule.ReachedMatchesKeep ∷ rule.RelabelsAreLabelled ∷ rule.ForwardsAreLabelled ∷ rule.PathsAreDistinct ∷ rule.NoRelabelCycle ∷ []

at_its_number : (r : Rule) → slice_get numbered (rule_number r) ≡ Some r
at_its_number rule.AddressesAreDistinct = refl
at_its_number rule.ServersAreSources = refl
at_its_number rule.ClientsAreLabelled = refl
at_its_number rule.LabelsAreMatched = refl
at_its_number rule.ReachesCover = refl
at_its_number rule.ReachedMatchesKeep = refl
at_its_number rule.RelabelsAreLabelled = refl
at_its_number rule.ForwardsAreLabelled = refl
at_its_number rule.PathsAreDistinct = refl
at_its_number rule.NoRelabelCycle = refl

-- two rules with one number are one
pub same_number : (one two : Rule) → rule_number one ≡ rule_number two → one ≡ two
same_number one two e =
    let found : Some one ≡ Some two = sym (at_its_number one) ∙ ap (slice_get numbered) e ∙ at_its_number two in cc
