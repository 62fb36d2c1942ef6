use Rattle.std.proofs.Common.{◌≡◌, List, Some, None, option_map, slice_get, sym, ap, ◌∙◌, refl}
use Rattle.std.specs.Option.{option_copied}
use Rattle.std.proofs.lemmas.Option.{same_Some, slice_get-map}
use Rattle.custody_steps.specs.Branches.{KeepsSo}
use Rattle.custody_store.specs.Book.{Told, told_of}
use Rattle.relay_net.specs.Addresses.{Address}
use Rattle.relay_net.specs.Network.{address_of_client}
use Rattle.relay_net.specs.declared.node.Client.{Client}
use Rattle.relay_net.proofs.Gets.{got}
use Rattle.custody_steps.specs.WorldOf.{world_of, net_of}
use Rattle.custody_steps.proofs.Tellings.{told_answer, told_by_none, none_is_some}
use Rattle.custody_steps.proofs.world.World.kept_so.Goals as goal

pub returns : goal.returns
returns g c =
    let net = net_of c.args.self.now in
    let w = world_of c.args.self.now in
    let told = c.in-Some.told.now in
    let client : Client g.row.A.Denot = c.in-Some-client.client.now in
    let found : slice_get c.acknowledged.result.now c.args.number ≡ Some told = sym (got _ _ c.args.number c.get.result refl c.get.ensures.lookup) ∙ ap option_copied c.in-Some.is in
    let at : slice_get w.acknowledged c.args.number ≡ Some (told_of told) =
    ap (λ (l : List Told). slice_get l c.args.number) (sym c.acknowledged.ensures) ∙ slice_get-map told_of c.acknowledged.result.now c.args.number ∙ ap (option_map told_of) found in
    let there : slice_get net.clients told.client ≡ Some client = sym c.client.ensures ∙ ap option_copied c.in-Some-client.is in
    let host : c.in-Some-client_host.host.now ≡ (address_of_client net client).host =
    same_Some c.in-Some-client_host.host.now (address_of_client net client).host
    (ap option_copied (sym c.in-Some-client_host.is) ∙ (c.client_host.ensures ∙ ap (option_map (λ (x : Client g.row.A.Denot). (address_of_client net x).host)) there)) in
    told_answer net w.acknowledged c.args.number (told_of told) client c.in-Some-client_host.host.now c.in_ok-yes.yes (λ (to : Address) (t : Told). KeepsSo c.args.every net w to t.event) at there host c.in_ok-yes.ensures

pub returns-in_default : goal.returns-in_default
returns-in_default g c =
    let none : slice_get c.acknowledged.result.now c.args.number ≡ None = sym (got _ _ c.args.number c.get.result refl c.get.ensures.lookup) ∙ ap option_copied c.in_default.is in
    ap (λ (l : List Told). slice_get l c.args.number) (sym c.acknowledged.ensures) ∙ slice_get-map told_of c.acknowledged.result.now c.args.number ∙ ap (option_map told_of) none

pub returns-in_default-client : goal.returns-in_default-client
returns-in_default-client g c =
    let net = net_of c.args.self.now in
    let w = world_of c.args.self.now in
    let told = c.in-Some.told.now in
    let found : slice_get c.acknowledged.result.now c.args.number ≡ Some told = sym (got _ _ c.args.number c.get.result refl c.get.ensures.lookup) ∙ ap option_copied c.in-Some.is in
    let at : slice_get w.acknowledged c.args.number ≡ Some (told_of told) =
    ap (λ (l : List Told). slice_get l c.args.number) (sym c.acknowledged.ensures) ∙ slice_get-map told_of c.acknowledged.result.now c.args.number ∙ ap (option_map told_of) found in
    let none : slice_get net.clients told.client ≡ None = sym c.client.ensures ∙ ap option_copied c.in_default-client.is in
    told_by_none net w.acknowledged c.args.number (told_of told) (λ (to : Address) (t : Told). KeepsSo c.args.every net w to t.event) at none

pub returns-in_default-client_host : goal.returns-in_default-client_host
returns-in_default-client_host g c =
    let net = net_of c.args.self.now in
    let client : Client g.row.A.Denot = c.in-Some-client.client.now in
    let there : slice_get net.clients c.in-Some.told.now.client ≡ Some client = sym c.client.ensures ∙ ap option_copied c.in-Some-client.is in
    absurd (none_is_some (address_of_client net client).host
    (ap option_copied (sym c.in_default-client_host.is) ∙ (c.client_host.ensures ∙ ap (option_map (λ (x : Client g.row.A.Denot). (address_of_client net x).host)) there)))
