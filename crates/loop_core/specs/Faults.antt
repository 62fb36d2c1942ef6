-- Why a relay that can't run as it was read isn't opened.
use Rattle.relay_ports.specs.declared.fault.SetupFault.{SetupFault}
use Rattle.relay_ports.specs.declared.fault.SetupFault.TheVariants as setup
use Rattle.loop_core.specs.declared.fault.LoopFault.{LoopFault}
use Rattle.loop_core.specs.declared.fault.LoopFault.TheVariants as ends

-- the same of a loop
abbrev pub of_setup : SetupFault → LoopFault
of_setup setup.Path = ends.Path
of_setup setup.Number = ends.NoNumber
of_setup setup.Memory = ends.Memory
