use Rattle.std.proofs.Common.{sym, ap, ◌∙◌}
use Rattle.std.proofs.lemmas.Option.{same_Some}
use Rattle.std.proofs.lemmas.Result.{on_ok_weaker}
use Rattle.std.specs.Option.{option_copied}
use Rattle.relay_net.specs.Network.{address_of_server}
use Rattle.relay_net.specs.Arrivals.{Grows, Through, IsArrival, IsSentOn}
use Rattle.relay_net.proofs.Growing.{grows_as}
use Rattle.relay_net.proofs.Sending.{sent_by, by_server}
use Rattle.relay_net.proofs.following.follow_buffer.Goals as goal

pub returns-in-Some : goal.returns-in-Some
returns-in-Some g c =
    let there = sym c.in-Some.ensures in
    on_ok_weaker c.follow_servers.result (grows_as _ _ _ _
    (λ a. by_server c.args.net.now c.args.wanted.now c.args.place c.args.buffer c.args.tag.now c.in-Some.output.now there a)
    (λ a. sent_by c.args.net.now c.args.wanted.now c.args.place c.args.buffer c.args.tag.now c.in-Some.output.now there a)) (rw c.servers.ensures at c.follow_servers.ensures)
