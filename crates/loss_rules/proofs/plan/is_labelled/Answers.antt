use Rattle.std.proofs.Common.{◌≡◌, ◌↔◌, ℕ, All, IsTrue, Some, IsSomeAnd, slice_get, sym, ap, subst, ◌∙◌}
use Rattle.std.proofs.lemmas.Option.{same_Some}
use Rattle.std.specs.Option.{option_copied}
use Rattle.loss_rules.specs.Labels.{FitsLabelWith}
use Rattle.loss_rules.specs.Rules.{IsLabelledClient}
use Rattle.std.specs.Prelude.{Option, option_map, List}
use Rattle.relay_net.specs.Network.{entrance, prefix_at, address_of_client}
use Rattle.relay_net.specs.Addresses.{Address}
use Rattle.relay_net.specs.declared.address.Entrance.{Entrance}
use Rattle.relay_net.specs.declared.node.Client.{Client}
use Rattle.loss_rules.proofs.plan.is_labelled.Goals as goal

pub returns-in-Some : goal.returns-in-Some
returns-in-Some g c =
    let client : Client g.row.A.Denot = c.in-Some-Some.client.now in
    let net = c.args.net.now in
    let there : slice_get c.args.net.now.clients c.args.number ≡ Some c.in-Some-Some.client.now = sym c.client.ensures ∙ ap option_copied c.in-Some-Some.is-0 in
    let host : c.in-Some-Some.host.now ≡ (address_of_client c.args.net.now c.in-Some-Some.client.now).host =
    same_Some c.in-Some-Some.host.now (address_of_client c.args.net.now c.in-Some-Some.client.now).host (ap option_copied (sym c.in-Some-Some.is-1) ∙ (c.client_host.ensures ∙ ap (option_map (λ (x : Client g.row.A.Denot). (address_of_client c.args.net.now x).host)) there)) in
    let to : List ℕ → Address = λ h. record { host = h; port = c.in-Some-Some.client.now.port } in
    let at : entrance c.args.net.now (address_of_client c.args.net.now c.in-Some-Some.client.now) ≡ Some c.in-Some.scope =
    ap (λ h. entrance c.args.net.now (to h)) (sym host) ∙ (sym c.entrance.ensures ∙ c.in-Some.is) in
    let P : Option (Client g.row.A.Denot) → Type 0 = λ o. IsTrue c.all_fit_label.result ↔ IsSomeAnd o (IsLabelledClient c.args.net.now c.args.labels.now) in
    let Q : Option Entrance → Type 0 = λ o. IsTrue c.all_fit_label.result ↔ IsSomeAnd o (λ s. All (FitsLabelWith c.args.labels.now s.relay s.scope (prefix_at c.args.net.now (address_of_client c.args.net.now c.in-Some-Some.client.now))) c.in-Some-Some.client.now.patterns.items) in
    let front : option_copied c.prefix-prefix.result ≡ prefix_at c.args.net.now (address_of_client c.args.net.now c.in-Some-Some.client.now) =
    c.prefix-prefix.ensures ∙ ap (λ h. prefix_at c.args.net.now (to h)) host in
    subst P (sym there) (subst Q (sym at) (rw (c.deref.ensures.value, front) at c.all_fit_label.ensures))
