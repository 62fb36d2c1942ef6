use Rattle.std.proofs.Common.{refl}
use Rattle.std.specs.Prelude.{◌≡◌, []}
use Rattle.loss_rules.specs.Breaks.{IsKept}
use Rattle.loss_rules.specs.Everywhere.{AreBrokenPlaces}
use Rattle.loss_rules.specs.Rules.{ServersAreSources, ClientsAreLabelled}
use Rattle.loss_rules.specs.declared.answer.Rule.TheVariants as rule
use Rattle.loss_rules.proofs.Keeping.{servers_kept, clients_kept}
use Rattle.loss_checker.proofs.RuleNumbers.{in_plan}
use Rattle.loss_checker.proofs.broken.ask_ends.Goals as goal

pub note-requires-2-clause-holds : goal.note-requires-2-clause-holds
note-requires-2-clause-holds g c none =
    servers_kept c.args.plan.now (in_plan c.args.plan.now c.net-net.result.now c.args.labels.now c.args.plan.now.reaches c.net-net.ensures.net c.requires.labels refl
    (λ s. ServersAreSources s.net) (c.in_ok-servers.ensures.kept none))

pub note-requires-2-clause-listed : goal.note-requires-2-clause-listed
note-requires-2-clause-listed g c =
    in_plan c.args.plan.now c.net-net.result.now c.args.labels.now c.args.plan.now.reaches c.net-net.ensures.net c.requires.labels refl
    (λ s. AreBrokenPlaces s rule.ServersAreSources c.in_ok-servers.servers.items) c.in_ok-servers.ensures.listed

pub note-requires-clause-holds : goal.note-requires-clause-holds
note-requires-clause-holds g c =
    in_plan c.args.plan.now c.net-net.result.now c.args.plan.now.labels c.args.plan.now.reaches c.net-net.ensures.net refl refl
    (λ s. c.in_ok-addresses.addresses.items ≡ [] → IsKept s rule.AddressesAreDistinct) (rw c.relay_lines.ensures.lines at c.in_ok-addresses.ensures.kept)

pub note-requires-clause-listed : goal.note-requires-clause-listed
note-requires-clause-listed g c =
    in_plan c.args.plan.now c.net-net.result.now c.args.plan.now.labels c.args.plan.now.reaches c.net-net.ensures.net refl refl
    (λ s. AreBrokenPlaces s rule.AddressesAreDistinct c.in_ok-addresses.addresses.items) (rw c.relay_lines.ensures.lines at c.in_ok-addresses.ensures.listed)

pub note-requires-3-clause-holds : goal.note-requires-3-clause-holds
note-requires-3-clause-holds g c none =
    clients_kept c.args.plan.now (in_plan c.args.plan.now c.net-net.result.now c.args.labels.now c.args.plan.now.reaches c.net-net.ensures.net c.requires.labels refl
    (λ s. ClientsAreLabelled s.net s.labels) (c.in_ok-clients.ensures.kept none))

pub note-requires-3-clause-listed : goal.note-requires-3-clause-listed
note-requires-3-clause-listed g c =
    in_plan c.args.plan.now c.net-net.result.now c.args.labels.now c.args.plan.now.reaches c.net-net.ensures.net c.requires.labels refl
    (λ s. AreBrokenPlaces s rule.ClientsAreLabelled c.in_ok-clients.clients.items) (rw c.client_lines.ensures.lines at c.in_ok-clients.ensures.listed)
