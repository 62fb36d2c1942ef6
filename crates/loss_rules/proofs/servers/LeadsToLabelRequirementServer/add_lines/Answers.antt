use Rattle.std.proofs.Common.{◌≡◌, ◌↔◌, ℕ, IsTrue, Some, sym, ap, subst, ◌∙◌}
use Rattle.std.proofs.lemmas.Option.{same_Some}
use Rattle.loss_rules.proofs.Lines.{added_unless}
use Rattle.loss_rules.specs.Labels.{FitsLabelWith, EachReach}
use Rattle.loss_rules.specs.Rules.{IsLabelledServer}
use Rattle.relay_net.specs.Network.{entrance, prefix_at, address_of_server}
use Rattle.relay_net.specs.Addresses.{Address}
use Rattle.relay_net.specs.declared.address.Entrance.{Entrance}
use Rattle.std.specs.Prelude.{List}
use Rattle.std.specs.Option.{option_copied}
use Rattle.loss_rules.proofs.servers.LeadsToLabelRequirementServer.add_lines.Goals as goal

pub returns : goal.returns
returns g c =
    let to : List ℕ → Address = λ h. record { host = h; port = c.args.found.now.port } in
    let there : entrance c.args.self.now.net.now (address_of_server c.args.found.now) ≡ Some c.in-Some.scope =
    ap (λ h. entrance c.args.self.now.net.now (to h)) (sym c.as_bytes.ensures.value) ∙ (sym c.entrance.ensures ∙ c.in-Some.is) in
    let front : option_copied c.prefix-prefix.result ≡ prefix_at c.args.self.now.net.now (address_of_server c.args.found.now) =
    c.prefix-prefix.ensures ∙ ap (λ h. prefix_at c.args.self.now.net.now (to h)) c.as_bytes-2.ensures.value in
    let e = rw front at c.reaches_fit_label-kept.ensures in
    let iff : IsTrue c.reaches_fit_label-kept.result ↔ IsLabelledServer c.args.self.now.net.now c.args.self.now.labels.now c.args.self.now.reaches.now c.args.at.place c.args.at.scope c.args.at.rule (address_of_server c.args.found.now) =
    (λ t at is. subst (λ (s : Entrance). EachReach c.args.self.now.reaches.now c.args.at.place c.args.at.scope c.args.at.rule (FitsLabelWith c.args.self.now.labels.now s.relay s.scope (prefix_at c.args.self.now.net.now (address_of_server c.args.found.now)))) (same_Some c.in-Some.scope at (sym there ∙ is)) (e.0 t), λ h. e.1 (h c.in-Some.scope there)) in
    added_unless c.add_unless.result (IsLabelledServer c.args.self.now.net.now c.args.self.now.labels.now c.args.self.now.reaches.now c.args.at.place c.args.at.scope c.args.at.rule (address_of_server c.args.found.now)) c.reaches_fit_label-kept.result c.args.found.now.line _ _ iff c.add_unless.ensures
