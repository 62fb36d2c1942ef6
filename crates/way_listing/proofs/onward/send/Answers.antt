use Rattle.std.proofs.Common.{◌≡◌, sym, refl, subst, ap, ◌∙◌, List, ℕ, Contains}
use Rattle.std.proofs.lemmas.Option.{same_Some}
use Rattle.std.proofs.lemmas.Result.{on_ok_weaker}
use Rattle.relay_conf.specs.declared.output.Output.{Output}
use Rattle.relay_net.specs.Network.{address_of_server}
use Rattle.relay_net.specs.Outputs.{servers_of}
use Rattle.relay_net.specs.Routed.{SendsTo}
use Rattle.way_listing.specs.Sendings.{Sending, Through, sending}
use Rattle.way_listing.proofs.Adding.{adds_as, adds_never}
use Rattle.way_listing.proofs.Sending.{sent_by, by_server}
use Rattle.way_listing.proofs.onward.send.Goals as goal

pub returns-in-Some : goal.returns-in-Some
returns-in-Some g c =
    let there = sym c.in-Some.ensures in
    on_ok_weaker c.send_to.result (adds_as _ _ _ _
    (λ x. by_server c.args.net.now c.args.place c.args.buffer c.args.tag.now c.in-Some.output.now there x)
    (λ x. sent_by c.args.net.now c.args.place c.args.buffer c.args.tag.now c.in-Some.output.now there x)) (rw c.servers.ensures at c.send_to.ensures)
