use Rattle.std.proofs.Common.{◌++◌, List, map, ap, ◌∙◌}
use Rattle.std.specs.Prelude.{string_bytes}
use Rattle.std.proofs.lemmas.List.{take_all}
use Rattle.relay_conf.specs.declared.relay.Source.{Source}
use Rattle.relay_places.specs.Names.{source_name}
use Rattle.relay_places.proofs.Growing.{grown, map_step, pushed}
use Rattle.relay_places.proofs.names.put_sources.Goals as goal

pub loop-source-preserved : goal.loop-source-preserved
loop-source-preserved g c =
    grown _ _ _ _ _ _ c.loop-source.invariant
    (pushed string_bytes c.loop-source.names.items c.push.new.self.items c.in_ok-source_name.field-0 (source_name c.source-item.result) c.in_ok-push.ensures.items c.in_ok-source_name.ensures)
    (map_step source_name c.args.sources.now c.loop-source.source-index c.source-item.result c.loop-source-test.true c.source-item.is)

pub returns : goal.returns
returns g c =
    let all = take_all c.loop-source.source-index c.args.sources.now c.loop-source-test.false in
    c.loop-source.invariant ∙ ap (λ (sources : List (Source g.row.A.Denot)). map string_bytes c.args.names.now.items ++ map source_name sources) all
