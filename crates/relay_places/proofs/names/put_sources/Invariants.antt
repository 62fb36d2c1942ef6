use Rattle.std.proofs.Common.{◌≡◌, ◌++◌, map, take}
use Rattle.std.specs.Prelude.{string_bytes}
use Rattle.relay_places.specs.Names.{source_name}
use Rattle.relay_places.proofs.names.put_sources.Given as goal

abbrev pub invariant-loop-source : goal.invariant-loop-source
invariant-loop-source g l = map string_bytes l.names.items ≡ map string_bytes l.fn.names.items ++ map source_name (take l.source-index l.sources)
