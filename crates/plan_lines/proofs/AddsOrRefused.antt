-- That a line that adds something isn't refused.
use Rattle.std.proofs.Common.{◌≡◌, ◌∙◌, ℕ, false, List, Option, Some, None, IsSome, inl, inr, refl, sym, ap, subst}
use Rattle.std.specs.Prelude.{is_some}
use Rattle.std.specs.Option.{option_and_then, option_map_or}
use Rattle.std.proofs.lemmas.Bool.{false≢true}
use Rattle.std.proofs.lemmas.Option.{same_Some}
use Rattle.relay_net.specs.Network.{place_among, node_of, source_of_port}
use Rattle.relay_net.specs.declared.node.Node.{Node}
use Rattle.loss_rules.specs.Breaks.{Subject}
use Rattle.loss_rules.specs.Sites.{rule_at}
use Rattle.plan_lines.specs.declared.error.PlanError.{PlanError}
use Rattle.plan_lines.specs.declared.error.PlanError.TheVariants as error
use Rattle.plan_lines.specs.Faults.{HasBadNumber, HasBadPattern, NamesNone, OfItsConf, Refuses}
use Rattle.plan_lines.specs.Forms.{LineForm, a_relay, a_client, a_label, a_reach}
use Rattle.plan_lines.specs.Plans.{scope_at, IsRelayOfText, Adds}
use Rattle.plan_lines.proofs.OneRefusal.{not_both, TextFault, ElementsFault}
use Rattle.plan_lines.proofs.OneRelay.{words_or_none, relay_or_text_fault, relay_or_fault}

module _ {A : Type 0} (confs : List (List ℕ)) (line : ℕ) (before after : Subject A) where
  numbers_are : (form : LineForm) → Adds confs line form before after → ¬ HasBadNumber form
  numbers_are (a_relay number host folder conf) h bad = not_both _ _ bad h.number_is
  numbers_are (a_client number port patterns) h (inl bad) = not_both _ _ bad h.number_is
  numbers_are (a_client number port patterns) h (inr bad) = not_both _ _ bad h.port_is
  numbers_are (a_label number scope patterns) h bad = not_both _ _ bad h.number_is
  numbers_are (a_reach number scope index patterns) h (inl bad) = not_both _ _ bad h.number_is
  numbers_are (a_reach number scope index patterns) h (inr bad) = not_both _ _ bad h.rule_is
  numbers_are _ h bad = bad

  patterns_are : (form : LineForm) → Adds confs line form before after → ¬ HasBadPattern form
  patterns_are (a_client number port patterns) h bad = words_or_none patterns h.client.patterns.items h.patterns_are bad
  patterns_are (a_label number scope patterns) h bad = words_or_none patterns h.label.patterns.items h.patterns_are bad
  patterns_are (a_reach number scope index patterns) h bad = words_or_none patterns h.reach.patterns.items h.patterns_are bad
  patterns_are _ h bad = bad

  conf_is : (form : LineForm) (P : List ℕ → Type 0) → Adds confs line form before after → OfItsConf confs before form P → ((text : List ℕ) (node : Node A) → IsRelayOfText text node.relay → ¬ P text) → ⊥
  conf_is (a_relay number host folder conf) P h (text, is, bad) none = none h.text h.node h.relay_is (subst P (same_Some text h.text (sym is ∙ h.text_is)) bad)
  conf_is _ P h bad none = bad

  -- a source that isn't found isn't there
  no_entry : (port : ℕ) (found : Option (Node A)) → option_and_then (λ node. source_of_port node.relay port) found ≡ None → option_map_or (λ node. is_some (source_of_port node.relay port)) found false ≡ false
  no_entry port None none = refl
  no_entry port (Some node) none = ap is_some none

  names_are : (form : LineForm) → Adds confs line form before after → ¬ NamesNone before form
  names_are (a_client number port patterns) h (n, m, n_is, m_is, none) =
      let nodes = before.net.relays in
      let number_same = same_Some n h.client.relay (sym n_is ∙ h.number_is) in
      let port_same = same_Some m h.client.port (sym m_is ∙ h.port_is) in
      let there : option_and_then (λ node. source_of_port node.relay h.client.port) (node_of nodes h.client.relay) ≡ None =
      (λ i. option_and_then (λ node. source_of_port node.relay (sym port_same i)) (node_of nodes (sym number_same i))) ∙ none in
      false≢true (sym (no_entry h.client.port (node_of nodes h.client.relay) there) ∙ h.source_is)
  names_are (a_label number scope patterns) h (n, n_is, none) =
      let nodes = before.net.relays in
      let number_same = same_Some h.meant n (sym h.number_is ∙ n_is) in
      let placed : place_among nodes n ≡ Some h.label.place = ap (place_among nodes) (sym number_same) ∙ h.place_is in
      not_both h.label.scope _ none (ap (option_and_then (λ place. scope_at nodes place scope)) placed ∙ h.scope_is)
  names_are (a_reach number scope index patterns) h (n, m, n_is, m_is, none) =
      let net = before.net in
      let number_same = same_Some h.meant n (sym h.number_is ∙ n_is) in
      let index_same = same_Some h.reach.rule m (sym h.rule_is ∙ m_is) in
      let placed : place_among net.relays n ≡ Some h.reach.place = ap (place_among net.relays) (sym number_same) ∙ h.place_is in
      let found = ap (option_and_then (λ place. option_and_then (λ s. rule_at net place s m) (scope_at net.relays place scope))) placed ∙ ap (option_and_then (λ s. rule_at net h.reach.place s m)) h.scope_is in
      let there : IsSome (rule_at net h.reach.place h.reach.scope m) = subst (λ x. IsSome (rule_at net h.reach.place h.reach.scope x)) index_same h.rule_there in
      let gone : rule_at net h.reach.place h.reach.scope m ≡ None = sym found ∙ none in
      false≢true (subst IsSome gone there)
  names_are _ h none = none

  -- a line that adds something is refused only for want of memory
  pub adds_or_refused : (form : LineForm) (fault : PlanError) → Adds confs line form before after → Refuses confs line form before fault → fault ≡ error.Memory
  adds_or_refused form (error.BadLine n) h k = absurd (subst (λ f. Adds confs line f before after) k.1 h)
  adds_or_refused form (error.BadNumber n) h k = absurd (numbers_are form h k.1)
  adds_or_refused form (error.BadPattern n) h k = absurd (patterns_are form h k.3)
  adds_or_refused form (error.NoSuch n) h k = absurd (names_are form h k.1)
  adds_or_refused form (error.BadText n x) h k = absurd (conf_is form (TextFault x) h k.2 (λ text node is. relay_or_text_fault text node.relay x is))
  adds_or_refused form (error.BadRelay n x) h k = absurd (conf_is form (ElementsFault x) h k.2 (λ text node is. relay_or_fault text node.relay x is))
  adds_or_refused form error.Memory h k = refl
