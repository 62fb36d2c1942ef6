-- That a line is refused behind a plan for one reason.
use Rattle.std.proofs.Common.{◌≡◌, ◌≢◌, ◌∙◌, ℕ, List, Option, Some, None, inl, inr, refl, sym, ap, subst}
use Rattle.std.proofs.lemmas.Option.{none-some, same_Some}
use Rattle.conf_text.specs.Grammar.{HasFault as HasTextFault}
use Rattle.conf_text.proofs.Whole.{one_fault}
use Rattle.conf_text.specs.declared.fault.ConfFault.{ConfFault}
use Rattle.relay_conf.specs.declared.fault.RelayFault.{RelayFault}
use Rattle.loss_rules.specs.Breaks.{Subject}
use Rattle.plan_lines.specs.declared.error.PlanError.{PlanError}
use Rattle.plan_lines.specs.declared.error.PlanError.TheVariants as error
use Rattle.plan_lines.specs.Faults.{HasBadNumber, HasBadPattern, NamesNone, HasRelayFault, OfItsConf, Refuses}
use Rattle.plan_lines.specs.Forms.{LineForm, a_relay, a_client, a_label, a_reach, no_form}
use Rattle.plan_lines.proofs.OneRelay.{one_relay_fault, text_or_relay_fault}

pub not_both : {X : Type 0} (x : X) (o : Option X) → o ≡ None → ¬ (o ≡ Some x)
not_both x o none some = none-some x (sym none ∙ some)

module _ {A : Type 0} (plan : Subject A) where
  number_or_name : (form : LineForm) → HasBadNumber form → ¬ NamesNone plan form
  number_or_name (a_client number port patterns) (inl h) k = not_both k.0 _ h k.2
  number_or_name (a_client number port patterns) (inr h) k = not_both k.1 _ h k.3
  number_or_name (a_label number scope patterns) h k = not_both k.0 _ h k.1
  number_or_name (a_reach number scope index patterns) (inl h) k = not_both k.0 _ h k.2
  number_or_name (a_reach number scope index patterns) (inr h) k = not_both k.1 _ h k.3
  number_or_name _ h k = k

  conf_or_name : (confs : List (List ℕ)) (form : LineForm) (P : List ℕ → Type 0) → OfItsConf confs plan form P → ¬ NamesNone plan form
  conf_or_name confs (a_relay number host folder conf) P h k = k
  conf_or_name confs _ P h k = h

  conf_or_pattern : (confs : List (List ℕ)) (form : LineForm) (P : List ℕ → Type 0) → OfItsConf confs plan form P → ¬ HasBadPattern form
  conf_or_pattern confs (a_relay number host folder conf) P h k = k
  conf_or_pattern confs _ P h k = h

  -- a line has one configuration
  of_one_conf : (confs : List (List ℕ)) (form : LineForm) (P Q : List ℕ → Type 0) {R : Type 0} → OfItsConf confs plan form P → OfItsConf confs plan form Q → ((text : List ℕ) → P text → Q text → R) → R
  of_one_conf confs (a_relay number host folder conf) P Q (text, is, p) (other, are, q) r = r text p (subst Q (sym (same_Some text other (sym is ∙ are))) q)
  of_one_conf confs _ P Q h k r = absurd h

-- a configuration's fault: of its text, or of its elements
abbrev pub TextFault : ConfFault → List ℕ → Type 0
TextFault fault text = HasTextFault text fault.kind fault.line

abbrev pub ElementsFault : RelayFault → List ℕ → Type 0
ElementsFault fault text = HasRelayFault text fault

-- Each thing that may be wrong with a line is its only fault behind a plan, beside want of memory:
module _ {A : Type 0} (confs : List (List ℕ)) (line : ℕ) (form : LineForm) (plan : Subject A) where
  abbrev Only : PlanError → Type 0
  Only fault = (f : PlanError) → f ≢ error.Memory → Refuses confs line form plan f → f ≡ fault

  -- that it has no form
  no_form_alone : form ≡ no_form → Only (error.BadLine line)
  no_form_alone none (error.BadLine n) not h = ap (λ x. error.BadLine x) h.0
  no_form_alone none (error.BadNumber n) not h = absurd (subst HasBadNumber none h.1)
  no_form_alone none (error.BadPattern n) not h = absurd (subst HasBadPattern none h.3)
  no_form_alone none (error.NoSuch n) not h = absurd (subst (NamesNone plan) none h.1)
  no_form_alone none (error.BadText n x) not h = absurd (subst (λ f. OfItsConf confs plan f (TextFault x)) none h.2)
  no_form_alone none (error.BadRelay n x) not h = absurd (subst (λ f. OfItsConf confs plan f (ElementsFault x)) none h.2)
  no_form_alone none error.Memory not h = absurd (not refl)

  -- that one of its numbers is none
  number_alone : HasBadNumber form → Only (error.BadNumber line)
  number_alone bad (error.BadLine n) not h = absurd (subst HasBadNumber h.1 bad)
  number_alone bad (error.BadNumber n) not h = ap (λ x. error.BadNumber x) h.0
  number_alone bad (error.BadPattern n) not h = absurd (h.1 bad)
  number_alone bad (error.NoSuch n) not h = absurd (number_or_name plan form bad h.1)
  number_alone bad (error.BadText n x) not h = absurd (h.1 bad)
  number_alone bad (error.BadRelay n x) not h = absurd (h.1 bad)
  number_alone bad error.Memory not h = absurd (not refl)

  -- that what it names isn't there
  name_alone : NamesNone plan form → Only (error.NoSuch line)
  name_alone none (error.BadLine n) not h = absurd (subst (NamesNone plan) h.1 none)
  name_alone none (error.BadNumber n) not h = absurd (number_or_name plan form h.1 none)
  name_alone none (error.BadPattern n) not h = absurd (h.2 none)
  name_alone none (error.NoSuch n) not h = ap (λ x. error.NoSuch x) h.0
  name_alone none (error.BadText n x) not h = absurd (conf_or_name plan confs form (TextFault x) h.2 none)
  name_alone none (error.BadRelay n x) not h = absurd (conf_or_name plan confs form (ElementsFault x) h.2 none)
  name_alone none error.Memory not h = absurd (not refl)

  -- that one of its patterns is none, where its numbers and names are right
  pattern_alone : ¬ HasBadNumber form → ¬ NamesNone plan form → HasBadPattern form → Only (error.BadPattern line)
  pattern_alone number name bad (error.BadLine n) not h = absurd (subst HasBadPattern h.1 bad)
  pattern_alone number name bad (error.BadNumber n) not h = absurd (number h.1)
  pattern_alone number name bad (error.BadPattern n) not h = ap (λ x. error.BadPattern x) h.0
  pattern_alone number name bad (error.NoSuch n) not h = absurd (name h.1)
  pattern_alone number name bad (error.BadText n x) not h = absurd (conf_or_pattern plan confs form (TextFault x) h.2 bad)
  pattern_alone number name bad (error.BadRelay n x) not h = absurd (conf_or_pattern plan confs form (ElementsFault x) h.2 bad)
  pattern_alone number name bad error.Memory not h = absurd (not refl)

  -- a fault of its configuration's text
  text_alone : (fault : ConfFault) → ¬ HasBadNumber form → OfItsConf confs plan form (TextFault fault) → Only (error.BadText line fault)
  text_alone fault number bad (error.BadLine n) not h = absurd (subst (λ f. OfItsConf confs plan f (TextFault fault)) h.1 bad)
  text_alone fault number bad (error.BadNumber n) not h = absurd (number h.1)
  text_alone fault number bad (error.BadPattern n) not h = absurd (conf_or_pattern plan confs form (TextFault fault) bad h.3)
  text_alone fault number bad (error.NoSuch n) not h = absurd (conf_or_name plan confs form (TextFault fault) bad h.1)
  text_alone fault number bad (error.BadText n x) not h =
      ap (λ y. error.BadText y x) h.0 ∙ ap (λ y. error.BadText line y) (of_one_conf plan confs form (TextFault x) (TextFault fault) h.2 bad (λ text. one_fault text x fault))
  text_alone fault number bad (error.BadRelay n x) not h = absurd (of_one_conf plan confs form (TextFault fault) (ElementsFault x) bad h.2 (λ text. text_or_relay_fault text fault x))
  text_alone fault number bad error.Memory not h = absurd (not refl)

  -- a fault of its configuration's elements
  elements_alone : (fault : RelayFault) → ¬ HasBadNumber form → OfItsConf confs plan form (ElementsFault fault) → Only (error.BadRelay line fault)
  elements_alone fault number bad (error.BadLine n) not h = absurd (subst (λ f. OfItsConf confs plan f (ElementsFault fault)) h.1 bad)
  elements_alone fault number bad (error.BadNumber n) not h = absurd (number h.1)
  elements_alone fault number bad (error.BadPattern n) not h = absurd (conf_or_pattern plan confs form (ElementsFault fault) bad h.3)
  elements_alone fault number bad (error.NoSuch n) not h = absurd (conf_or_name plan confs form (ElementsFault fault) bad h.1)
  elements_alone fault number bad (error.BadText n x) not h = absurd (of_one_conf plan confs form (TextFault x) (ElementsFault fault) h.2 bad (λ text. text_or_relay_fault text x fault))
  elements_alone fault number bad (error.BadRelay n x) not h =
      ap (λ y. error.BadRelay y x) h.0 ∙ ap (λ y. error.BadRelay line y) (of_one_conf plan confs form (ElementsFault x) (ElementsFault fault) h.2 bad (λ text. one_relay_fault text x fault))
  elements_alone fault number bad error.Memory not h = absurd (not refl)

  -- so a line is refused for one reason
  pub one_refusal : (f g : PlanError) → f ≢ error.Memory → g ≢ error.Memory → Refuses confs line form plan f → Refuses confs line form plan g → f ≡ g
  one_refusal f (error.BadLine n) not other h k = no_form_alone k.1 f not h ∙ sym (ap (λ x. error.BadLine x) k.0)
  one_refusal f (error.BadNumber n) not other h k = number_alone k.1 f not h ∙ sym (ap (λ x. error.BadNumber x) k.0)
  one_refusal f (error.BadPattern n) not other h k = pattern_alone k.1 k.2 k.3 f not h ∙ sym (ap (λ x. error.BadPattern x) k.0)
  one_refusal f (error.NoSuch n) not other h k = name_alone k.1 f not h ∙ sym (ap (λ x. error.NoSuch x) k.0)
  one_refusal f (error.BadText n x) not other h k = text_alone x k.1 k.2 f not h ∙ sym (ap (λ y. error.BadText y x) k.0)
  one_refusal f (error.BadRelay n x) not other h k = elements_alone x k.1 k.2 f not h ∙ sym (ap (λ y. error.BadRelay y x) k.0)
  one_refusal f error.Memory not other h k = absurd (other refl)
