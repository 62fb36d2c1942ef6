-- That a line adds one thing.
use Rattle.std.proofs.Common.{◌≡◌, ◌∙◌, ℕ, List, [], ◌∷◌, ◌++◌, slice_get, sym, ap, subst}
use Rattle.std.proofs.lemmas.List.{map-append}
use Rattle.std.proofs.lemmas.Option.{same_Some}
use Rattle.relay_net.specs.Network.{place_among}
use Rattle.relay_net.specs.declared.node.Client.{Client}
use Rattle.relay_net.specs.declared.node.Node.{Node}
use Rattle.loss_rules.specs.Breaks.{Subject}
use Rattle.loss_rules.specs.declared.label.Label.{Label}
use Rattle.loss_rules.specs.declared.label.Reach.{Reach}
use Rattle.loss_rules.specs.declared.label.RelayLine.{RelayLine}
use Rattle.plan_lines.specs.Forms.{LineForm, nothing, a_relay, a_client, a_label, a_reach, a_duty, no_form}
use Rattle.plan_lines.specs.Meanings.{PlanMeaning, RelayMeaning, RelayLineMeaning, ClientMeaning, LabelMeaning, ReachMeaning, relay_view, relay_line_view, client_view, label_view, reach_view, plan_view}
use Rattle.plan_lines.specs.Plans.{network, scope_at, IsRelayOfText, Adds}
use Rattle.plan_lines.proofs.OneRelay.{of_words, one_relay}
use Rattle.plan_lines.proofs.SamePlans.{as_many, same_place, same_scope}

-- what each form adds to what is said

abbrev with_relay : PlanMeaning → RelayMeaning → RelayLineMeaning → PlanMeaning
with_relay plan relay entry = record plan { relays = plan.relays ++ relay ∷ []; relay_lines = plan.relay_lines ++ entry ∷ [] }

abbrev with_client : PlanMeaning → ClientMeaning → ℕ → PlanMeaning
with_client plan client line = record plan { clients = plan.clients ++ client ∷ []; client_lines = plan.client_lines ++ line ∷ [] }

abbrev with_label : PlanMeaning → LabelMeaning → PlanMeaning
with_label plan label = record plan { labels = plan.labels ++ label ∷ [] }

abbrev with_reach : PlanMeaning → ReachMeaning → PlanMeaning
with_reach plan reach = record plan { reaches = plan.reaches ++ reach ∷ [] }

module _ {A : Type 0} (plan after : Subject A) where
  relay_added : (node : Node A) (entry : RelayLine A) → after ≡ record plan { net = network (plan.net.relays ++ node ∷ []) plan.net.clients; relay_lines = plan.relay_lines ++ entry ∷ [] }
      → plan_view after ≡ with_relay (plan_view plan) (relay_view node) (relay_line_view entry)
  relay_added node entry is =
      let seen = plan_view plan in
      ap plan_view is ∙ (λ i. record seen { relays = map-append relay_view plan.net.relays (node ∷ []) i; relay_lines = map-append relay_line_view plan.relay_lines (entry ∷ []) i })

  client_added : (client : Client A) (line : ℕ) → after ≡ record plan { net = network plan.net.relays (plan.net.clients ++ client ∷ []); client_lines = plan.client_lines ++ line ∷ [] }
      → plan_view after ≡ with_client (plan_view plan) (client_view client) line
  client_added client line is =
      let seen = plan_view plan in
      ap plan_view is ∙ (λ i. record seen { clients = map-append client_view plan.net.clients (client ∷ []) i; client_lines = plan.client_lines ++ line ∷ [] })

  label_added : (label : Label A) → after ≡ record plan { labels = plan.labels ++ label ∷ [] } → plan_view after ≡ with_label (plan_view plan) (label_view label)
  label_added label is = (let seen = plan_view plan in ap plan_view is ∙ (λ i. record seen { labels = map-append label_view plan.labels (label ∷ []) i }))

  reach_added : (reach : Reach A) → after ≡ record plan { reaches = plan.reaches ++ reach ∷ [] } → plan_view after ≡ with_reach (plan_view plan) (reach_view reach)
  reach_added reach is = (let seen = plan_view plan in ap plan_view is ∙ (λ i. record seen { reaches = map-append reach_view plan.reaches (reach ∷ []) i }))

-- a line adds one thing
pub one_addition : {A B : Type 0} (confs : List (List ℕ)) (line : ℕ) (form : LineForm) (p p2 : Subject A) (q q2 : Subject B) → plan_view p ≡ plan_view q
    → Adds confs line form p p2 → Adds confs line form q q2 → plan_view p2 ≡ plan_view q2
one_addition confs line nothing p p2 q q2 same h k = ap plan_view h ∙ (same ∙ sym (ap plan_view k))
one_addition confs line (a_relay number host folder conf) p p2 q q2 same h k =
    let number_same = same_Some h.node.number k.node.number (sym h.number_is ∙ k.number_is) in
    let host_same = h.host_is ∙ sym k.host_is in
    let text_same = same_Some h.text k.text (sym h.text_is ∙ (ap (slice_get confs) (as_many p q same) ∙ k.text_is)) in
    let conf_same = one_relay k.text h.node.relay k.node.relay (subst (λ text. IsRelayOfText text h.node.relay) text_same h.relay_is) k.relay_is in
    let folder_same = h.folder_is ∙ sym k.folder_is in
    let line_same = h.line_is ∙ sym k.line_is in
    relay_added p p2 h.node h.entry h.after_is
    ∙ ((λ i. with_relay (same i) (record { number = number_same i; host = host_same i; conf = conf_same i }) (record { folder = folder_same i; line = line_same i }))
    ∙ sym (relay_added q q2 k.node k.entry k.after_is))
one_addition confs line (a_client number port patterns) p p2 q q2 same h k =
    let number_same = same_Some h.client.relay k.client.relay (sym h.number_is ∙ k.number_is) in
    let port_same = same_Some h.client.port k.client.port (sym h.port_is ∙ k.port_is) in
    let patterns_same = of_words patterns h.client.patterns.items k.client.patterns.items h.patterns_are k.patterns_are in
    client_added p p2 h.client line h.after_is
    ∙ ((λ i. with_client (same i) (record { relay = number_same i; port = port_same i; patterns = patterns_same i }) line)
    ∙ sym (client_added q q2 k.client line k.after_is))
one_addition confs line (a_label number scope patterns) p p2 q q2 same h k =
    let number_same = same_Some h.meant k.meant (sym h.number_is ∙ k.number_is) in
    let place_same = same_Some h.label.place k.label.place (sym h.place_is ∙ (same_place p q same h.meant ∙ (ap (place_among q.net.relays) number_same ∙ k.place_is))) in
    let scope_same = same_Some h.label.scope k.label.scope (sym h.scope_is ∙ (same_scope p q same h.label.place scope ∙ (ap (λ place. scope_at q.net.relays place scope) place_same ∙ k.scope_is))) in
    let patterns_same = of_words patterns h.label.patterns.items k.label.patterns.items h.patterns_are k.patterns_are in
    let line_same = h.line_is ∙ sym k.line_is in
    label_added p p2 h.label h.after_is
    ∙ ((λ i. with_label (same i) (record { place = place_same i; scope = scope_same i; patterns = patterns_same i; line = line_same i }))
    ∙ sym (label_added q q2 k.label k.after_is))
one_addition confs line (a_reach number scope index patterns) p p2 q q2 same h k =
    let number_same = same_Some h.meant k.meant (sym h.number_is ∙ k.number_is) in
    let place_same = same_Some h.reach.place k.reach.place (sym h.place_is ∙ (same_place p q same h.meant ∙ (ap (place_among q.net.relays) number_same ∙ k.place_is))) in
    let scope_same = same_Some h.reach.scope k.reach.scope (sym h.scope_is ∙ (same_scope p q same h.reach.place scope ∙ (ap (λ place. scope_at q.net.relays place scope) place_same ∙ k.scope_is))) in
    let rule_same = same_Some h.reach.rule k.reach.rule (sym h.rule_is ∙ k.rule_is) in
    let patterns_same = of_words patterns h.reach.patterns.items k.reach.patterns.items h.patterns_are k.patterns_are in
    let line_same = h.line_is ∙ sym k.line_is in
    reach_added p p2 h.reach h.after_is
    ∙ ((λ i. with_reach (same i) (record { place = place_same i; scope = scope_same i; rule = rule_same i; patterns = patterns_same i; line = line_same i }))
    ∙ sym (reach_added q q2 k.reach k.after_is))
one_addition confs line (a_duty asked) p p2 q q2 same h k = ap plan_view h ∙ ((λ i. (let seen = same i in record seen { duty = asked })) ∙ sym (ap plan_view k))
one_addition confs line no_form p p2 q q2 same h k = absurd h
