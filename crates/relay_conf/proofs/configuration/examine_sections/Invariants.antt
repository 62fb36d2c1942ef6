use Rattle.std.proofs.Common.{drop, map}
use Rattle.conf_text.specs.Trees.{trees}
use Rattle.conf_text.specs.Views.{tree_of}
use Rattle.relay_conf.specs.declared.section.Section.TheVariants as sections
use Rattle.relay_conf.specs.Examined.{trees_found}
use Rattle.relay_conf.proofs.Findings.{Continues}
use Rattle.relay_conf.proofs.configuration.examine_sections.Given as goal

abbrev pub invariant-loop-element : goal.invariant-loop-element
invariant-loop-element g l = Continues (trees_found sections.Top (trees (map tree_of (drop l.element-index l.elements)))) (trees_found sections.Top (trees (map tree_of l.elements)))
