-- What is wrong with a whole configuration, and when it is refused.
use Rattle.std.specs.Prelude.{⊤, List, ◌++◌}
use Rattle.std.specs.List.{Any, AllByRecursion}
use Rattle.conf_text.specs.Trees.{Tree, trees}
use Rattle.relay_conf.specs.declared.fault.RelayFault.{RelayFault}
use Rattle.relay_conf.specs.declared.fault.RelayError.{RelayError}
use Rattle.relay_conf.specs.declared.fault.RelayError.TheVariants as errors
use Rattle.relay_conf.specs.declared.section.Section.TheVariants as sections
use Rattle.relay_conf.specs.Findings.{Finding, Passes, Stands, FirstStands}
use Rattle.relay_conf.specs.Examined.{trees_found}
use Rattle.relay_conf.specs.Labels.{labels_from}

-- what is found in a configuration: in its sections first, and then with its labels
abbrev pub all_found : List Tree → List Finding
all_found elements = trees_found sections.Top (trees elements) ++ labels_from elements 0 elements

-- something in the configuration is this fault
abbrev pub HasFault : List Tree → RelayFault → Type 0
HasFault elements f = Any (λ finding. Stands finding f) (all_found elements)

-- nothing in the configuration is a fault
abbrev pub HasNoFault : List Tree → Type 0
HasNoFault elements = AllByRecursion Passes (all_found elements)

-- an error is that memory ran out, or the first fault of the configuration
abbrev pub IsRefusal : List Tree → RelayError → Type 0
IsRefusal elements errors.Memory = ⊤
IsRefusal elements (errors.Fault f) = FirstStands (all_found elements) f
