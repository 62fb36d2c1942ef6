use Rattle.std.proofs.Common.{IsSome}
use Rattle.std.proofs.lemmas.Result.{IfOk-weaker}
use Rattle.relay_net.specs.Network.{entrance, address_of_server}
use Rattle.relay_net.specs.Outputs.{servers_of}
use Rattle.loss_rules.specs.Lines.{KeptInList}
use Rattle.loss_rules.proofs.Places.{server_places, each_output, each_server}
use Rattle.loss_rules.proofs.servers.servers_are_sources.Goals as goal

pub returns-clause-listed : goal.returns-clause-listed
returns-clause-listed g c = IfOk-weaker c.broken_places.result _ _ (λ places. server_places c.args.net.now (λ place scope rule server. IsSome (entrance c.args.net.now (address_of_server server))) places.items) c.broken_places.ensures.listed

pub returns-clause-kept : goal.returns-clause-kept
returns-clause-kept g c = IfOk-weaker c.broken_places.result _ _ (λ places kept none. each_server c.args.net.now (λ place scope rule server. IsSome (entrance c.args.net.now (address_of_server server)))
    (each_output c.args.net.now (λ place scope rule output other. KeptInList (λ number server. IsSome (entrance c.args.net.now (address_of_server server))) (servers_of other)) (kept none))) c.broken_places.ensures.kept
