use Rattle.std.proofs.Common.{◌++◌, List, drop, map}
use Rattle.std.specs.Prelude.{filter, codes}
use Rattle.std.specs.List.{AllZip}
use Rattle.conf_text.specs.Views.{tree_of}
use Rattle.relay_conf.specs.Described.{IsServerOf}
use Rattle.relay_conf.specs.Elements.{is_named}
use Rattle.relay_conf.specs.declared.output.Server.{Server}
use Rattle.relay_conf.proofs.settings.servers.Given as goal

abbrev pub invariant-loop-child : goal.invariant-loop-child
invariant-loop-child g l = (rest : List (Server g.row.A.Denot)) → AllZip (λ t s. IsServerOf t s) (filter (is_named (codes "server")) (map tree_of (drop l.child-index l.children))) rest → AllZip (λ t s. IsServerOf t s) (filter (is_named (codes "server")) (map tree_of l.children)) (l.found.items ++ rest)
