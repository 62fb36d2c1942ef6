use Rattle.std.proofs.Common.{◌++◌, List, map, ap, ◌∙◌}
use Rattle.std.specs.Prelude.{string_bytes}
use Rattle.std.proofs.lemmas.List.{take_all}
use Rattle.relay_conf.specs.declared.output.Server.{Server}
use Rattle.relay_places.specs.Names.{server_name}
use Rattle.relay_places.proofs.Growing.{grown, map_step, pushed}
use Rattle.relay_places.proofs.names.put_servers.Goals as goal

pub loop-server-preserved : goal.loop-server-preserved
loop-server-preserved g c =
    grown _ _ _ _ _ _ c.loop-server.invariant
    (pushed string_bytes c.loop-server.names.items c.push.new.self.items c.in_ok-server_name.field-0 (server_name c.server-item.result) c.in_ok-push.ensures.items c.in_ok-server_name.ensures)
    (map_step server_name c.args.servers.now c.loop-server.server-index c.server-item.result c.loop-server-test.true c.server-item.is)

pub returns : goal.returns
returns g c =
    let all = take_all c.loop-server.server-index c.args.servers.now c.loop-server-test.false in
    c.loop-server.invariant ∙ ap (λ (servers : List (Server g.row.A.Denot)). map string_bytes c.args.names.now.items ++ map server_name servers) all
