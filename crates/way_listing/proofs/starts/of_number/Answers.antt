use Rattle.std.proofs.Common.{◌≡◌, ◌∙◌, ℕ, List, OnOk, ap, map, subst, slice_get}
use Rattle.std.specs.Prelude.{option_map, string_bytes}
use Rattle.std.proofs.lemmas.Option.{same_Some}
use Rattle.relay_net.specs.Network.{address_of_client}
use Rattle.relay_net.specs.declared.node.Client.{Client}
use Rattle.way_listing.specs.Sendings.{Adds, IsSentUnder, Through}
use Rattle.way_listing.proofs.starts.of_number.Goals as goal

pub returns-in-Some : goal.returns-in-Some
returns-in-Some g c =
    let client = c.args.client.now in
    let host = λ (other : Client g.row.A.Denot). (address_of_client c.args.net.now other).host in
    let same : c.in-Some.host.now ≡ host client = same_Some _ _ (c.in-Some.ensures ∙ ap (option_map host) c.requires) in
    subst (λ (h : List ℕ). OnOk c.of_client.result (Adds (Through (IsSentUnder client.patterns.items (record { host = h; port = client.port })) (map string_bytes c.args.tags.now)) c.args.found.now.items c.of_client.new.found.items)) same c.of_client.ensures
