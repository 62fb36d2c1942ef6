-- What refuses a line behind one plan refuses it behind another that says the same.
use Rattle.std.proofs.Common.{◌≡◌, ◌∙◌, ℕ, List, length, map, slice_get, sym, ap}
use Rattle.std.specs.Option.{option_and_then}
use Rattle.std.proofs.lemmas.List.{length-map}
use Rattle.relay_net.specs.Network.{place_among}
use Rattle.loss_rules.specs.Breaks.{Subject}
use Rattle.plan_lines.specs.Faults.{NoSource, NoScope, NoMatch, NamesNone, OfItsConf, Refuses}
use Rattle.plan_lines.specs.Forms.{LineForm, a_relay, a_client, a_label, a_reach}
use Rattle.plan_lines.specs.Meanings.{source_view, match_view, relay_view, plan_view}
use Rattle.plan_lines.specs.Plans.{scope_at}
use Rattle.plan_lines.specs.declared.error.PlanError.{PlanError}
use Rattle.plan_lines.specs.declared.error.PlanError.TheVariants as error
use Rattle.plan_lines.proofs.Seen.{seen_place, seen_scope, seen_rule, seen_source, none_there, place_seen, scope_seen, source_named, scope_named, match_named}

module _ {A B : Type 0} (p : Subject A) (q : Subject B) (same : plan_view p ≡ plan_view q) where
  relays_same : map relay_view p.net.relays ≡ map relay_view q.net.relays
  relays_same = ap (λ plan. plan.relays) same

  pub as_many : length p.net.relays ≡ length q.net.relays
  as_many = sym (length-map p.net.relays relay_view) ∙ (ap length relays_same ∙ length-map q.net.relays relay_view)

  pub same_place : (number : ℕ) → place_among p.net.relays number ≡ place_among q.net.relays number
  same_place number = place_seen p.net.relays number ∙ (ap (λ relays. seen_place relays number) relays_same ∙ sym (place_seen q.net.relays number))

  pub same_scope : (place : ℕ) (word : List ℕ) → scope_at p.net.relays place word ≡ scope_at q.net.relays place word
  same_scope place word = scope_seen p.net.relays place word ∙ (ap (λ relays. seen_scope relays place word) relays_same ∙ sym (scope_seen q.net.relays place word))

  no_source : (number port : ℕ) → NoSource p.net.relays number port → NoSource q.net.relays number port
  no_source number port =
      none_there source_view source_view _ _ (source_named p.net.relays number port ∙ (ap (λ relays. seen_source relays number port) relays_same ∙ sym (source_named q.net.relays number port)))

  no_scope : (number : ℕ) (word : List ℕ) → NoScope p.net.relays number word → NoScope q.net.relays number word
  no_scope number word none =
      scope_named q.net.relays number word
      ∙ (ap (λ relays. option_and_then (λ place. seen_scope relays place word) (seen_place relays number)) (sym relays_same) ∙ (sym (scope_named p.net.relays number word) ∙ none))

  no_match : (number : ℕ) (word : List ℕ) (index : ℕ) → NoMatch p.net number word index → NoMatch q.net number word index
  no_match number word index =
      none_there match_view match_view _ _
      (match_named p.net number word index
      ∙ (ap (λ relays. option_and_then (λ place. option_and_then (λ scope. seen_rule relays place scope index) (seen_scope relays place word)) (seen_place relays number)) relays_same
      ∙ sym (match_named q.net number word index)))

  pub names_none : (form : LineForm) → NamesNone p form → NamesNone q form
  names_none (a_client number port patterns) (n, m, n_is, m_is, none) = (n, m, n_is, m_is, no_source n m none)
  names_none (a_label number scope patterns) (n, n_is, none) = (n, n_is, no_scope n scope none)
  names_none (a_reach number scope index patterns) (n, i, n_is, i_is, none) = (n, i, n_is, i_is, no_match n scope i none)
  names_none _ h = h

  of_its_conf : (confs : List (List ℕ)) (form : LineForm) (P : List ℕ → Type 0) → OfItsConf confs p form P → OfItsConf confs q form P
  of_its_conf confs (a_relay number host folder conf) P (text, is, holds) = (text, ap (slice_get confs) (sym as_many) ∙ is, holds)
  of_its_conf confs _ P h = h

-- the line is refused behind the other plan too
pub still_refused : {A B : Type 0} (confs : List (List ℕ)) (line : ℕ) (form : LineForm) (p : Subject A) (q : Subject B) → plan_view p ≡ plan_view q → (fault : PlanError) → Refuses confs line form p fault → Refuses confs line form q fault
still_refused confs line form p q same (error.BadLine n) h = h
still_refused confs line form p q same (error.BadNumber n) h = h
still_refused confs line form p q same (error.BadPattern n) (at, number, name, pattern) = (at, number, (λ none. name (names_none q p (sym same) form none)), pattern)
still_refused confs line form p q same (error.NoSuch n) (at, none) = (at, names_none p q same form none)
still_refused confs line form p q same (error.BadText n fault) (at, number, conf) = (at, number, of_its_conf p q same confs form _ conf)
still_refused confs line form p q same (error.BadRelay n fault) (at, number, conf) = (at, number, of_its_conf p q same confs form _ conf)
still_refused confs line form p q same error.Memory h = h
