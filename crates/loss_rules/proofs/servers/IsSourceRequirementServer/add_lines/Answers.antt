use Rattle.std.proofs.Common.{◌≡◌, ◌↔◌, ℕ, IsTrue, IsSome, ap, subst, ◌∙◌}
use Rattle.std.specs.Prelude.{List, Option}
use Rattle.loss_rules.proofs.Lines.{added_unless, some_is_some}
use Rattle.relay_net.specs.Network.{entrance, address_of_server}
use Rattle.relay_net.specs.Addresses.{Address}
use Rattle.relay_net.specs.declared.address.Entrance.{Entrance}
use Rattle.loss_rules.proofs.servers.IsSourceRequirementServer.add_lines.Goals as goal

pub returns : goal.returns
returns g c =
    let to : List ℕ → Address = λ h. record { host = h; port = c.args.found.now.port } in
    let there : c.entrance.result ≡ entrance c.args.self.now.net.now (address_of_server c.args.found.now) = c.entrance.ensures ∙ ap (λ h. entrance c.args.self.now.net.now (to h)) c.as_bytes.ensures.value in
    let iff : IsTrue c.is_some-kept.result ↔ IsSome (entrance c.args.self.now.net.now (address_of_server c.args.found.now)) =
    subst (λ (o : Option Entrance). IsTrue c.is_some-kept.result ↔ IsSome o) there (some_is_some c.entrance.result c.is_some-kept.result c.is_some-kept.ensures) in
    added_unless c.add_unless.result (IsSome (entrance c.args.self.now.net.now (address_of_server c.args.found.now))) c.is_some-kept.result c.args.found.now.line _ _ iff c.add_unless.ensures
