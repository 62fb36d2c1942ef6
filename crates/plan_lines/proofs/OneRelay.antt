-- That a text describes one relay, or has one first fault, and never both.
use Rattle.std.proofs.Common.{◌≡◌, ◌∙◌, ℕ, List, [], ◌∷◌, codes, filter, refl, sym, ap, subst, inl, inr}
use Rattle.std.specs.List.{AllZip, flat_map}
use Rattle.conf_text.specs.Trees.{Tree, tree, trees}
use Rattle.conf_text.specs.Grammar.{top, HasFault as HasTextFault}
use Rattle.conf_text.specs.declared.fault.ConfFault.{ConfFault}
use Rattle.conf_text.proofs.Whole.{one_reading, faultless}
use Rattle.tag_pattern.specs.Items.{Item}
use Rattle.tag_pattern.specs.Grammar.{Slot, IsPattern, plain_patterns}
use Rattle.tag_pattern.proofs.SlotCuts.{slots_unique}
use Rattle.relay_conf.specs.Elements.{heading_of, children_of, is_named}
use Rattle.relay_conf.specs.Examined.{words_of}
use Rattle.relay_conf.specs.Faults.{all_found}
use Rattle.relay_conf.specs.Findings.{Finding, a_fault, a_pattern, Passes, Stands, AllPass, FirstStands}
use Rattle.relay_conf.specs.declared.fault.RelayFault.{RelayFault}
use Rattle.relay_conf.specs.declared.relay.MatchRule.{MatchRule}
use Rattle.relay_conf.specs.declared.relay.Relay.{Relay}
use Rattle.relay_conf.specs.declared.relay.Scope.{Scope}
use Rattle.relay_conf.specs.Meaning.{numbered}
use Rattle.relay_conf.specs.Relays.{AreOfWords, IsMatchOf, IsScopeOf, IsRelayOf}
use Rattle.plan_lines.specs.Faults.{HasNoPattern, HasRelayFault}
use Rattle.plan_lines.specs.Plans.{IsRelayOfText}
use Rattle.plan_lines.specs.Meanings.{source_view, output_view, match_view, scope_view, conf_view}
use Rattle.plan_lines.proofs.OneOutput.{same_all, same_source, same_output}

-- words are spelled by one list of slots each
same_slots : (slots others : List (List Slot)) (words : List (List ℕ)) → AllZip IsPattern slots words → AllZip IsPattern others words → slots ≡ others
same_slots [] [] [] h k = refl
same_slots [] (o ∷ others) [] h k = absurd k
same_slots [] others (w ∷ words) h k = absurd h
same_slots (s ∷ slots) others [] h k = absurd h
same_slots (s ∷ slots) [] (w ∷ words) h k = absurd k
same_slots (s ∷ slots) (o ∷ others) (w ∷ words) h k =
    ap (λ x. x ∷ slots) (slots_unique s o w h.0.spelled k.0.spelled) ∙ ap (λ xs. o ∷ xs) (same_slots slots others words h.1 k.1)

-- words stand for one list of plain patterns
pub of_words : (words : List (List ℕ)) (ps qs : List (List Item)) → AreOfWords words ps → AreOfWords words qs → ps ≡ qs
of_words words ps qs (slots, are, plains) (others, are_too, others_plains) =
    plains ∙ (ap (flat_map plain_patterns) (same_slots slots others words are are_too) ∙ sym others_plains)

slots_or_none : (slots : List (List Slot)) (words : List (List ℕ)) → AllZip IsPattern slots words → ¬ HasNoPattern words
slots_or_none slots [] h none = none
slots_or_none [] (w ∷ words) h none = absurd h
slots_or_none (s ∷ slots) (w ∷ words) h (inl none) = none s h.0
slots_or_none (s ∷ slots) (w ∷ words) h (inr none) = slots_or_none slots words h.1 none

-- words that stand for patterns are patterns
pub words_or_none : (words : List (List ℕ)) (ps : List (List Item)) → AreOfWords words ps → ¬ HasNoPattern words
words_or_none words ps (slots, are, plains) = slots_or_none slots words are

module _ {A B : Type 0} (elements : List Tree) where
  same_match : (p : ℕ × Tree) (r : MatchRule A) (s : MatchRule B) → IsMatchOf elements p.0 p.1 r → IsMatchOf elements p.0 p.1 s → match_view r ≡ match_view s
  same_match p r s h k =
      let patterns = of_words (words_of (heading_of p.1).argument) r.patterns.items s.patterns.items h.patterns k.patterns in
      let outputs = same_all _ _ output_view output_view (same_output elements) _ r.outputs.items s.outputs.items h.outputs k.outputs in
      let line = h.line ∙ sym k.line in
      λ i. record { patterns = patterns i; outputs = outputs i; line = line i }

  same_scope : (p : ℕ × Tree) (x : Scope A) (y : Scope B) → IsScopeOf elements p.0 p.1 x → IsScopeOf elements p.0 p.1 y → scope_view x ≡ scope_view y
  same_scope p x y h k =
      let name = h.name ∙ sym k.name in
      let matches = same_all _ _ match_view match_view same_match (numbered (codes "match") p.0 (children_of p.1)) x.matches.items y.matches.items h.matches k.matches in
      λ i. record { name = name i; matches = matches i }

  -- elements describe one relay
  pub same_relay : (r : Relay A) (s : Relay B) → IsRelayOf elements r → IsRelayOf elements s → conf_view r ≡ conf_view s
  same_relay r s h k =
      let sources = same_all _ _ source_view source_view (same_source elements) (filter (is_named (codes "source")) elements) r.sources.items s.sources.items h.sources k.sources in
      let scopes = same_all _ _ scope_view scope_view same_scope ((0, tree top [] (trees elements)) ∷ numbered (codes "label") 0 elements) r.scopes.items s.scopes.items h.scopes k.scopes in
      λ i. record { sources = sources i; scopes = scopes i }

-- a finding is a fault, and one alone, where it doesn't pass

stands_once : (x : Finding) (f g : RelayFault) → Stands x f → Stands x g → f ≡ g
stands_once (a_fault kind line) f g h k = h ∙ sym k
stands_once (a_pattern text line) f g h k = h.1 ∙ sym k.1

passes_or_stands : (x : Finding) (f : RelayFault) → Passes x → ¬ Stands x f
passes_or_stands (a_fault kind line) f pass stands = pass
passes_or_stands (a_pattern text line) f (slots, is) stands = stands.0 slots is

first_once : (xs : List Finding) (f g : RelayFault) → FirstStands xs f → FirstStands xs g → f ≡ g
first_once [] f g h k = absurd h
first_once (x ∷ xs) f g (inl h) (inl k) = stands_once x f g h k
first_once (x ∷ xs) f g (inl h) (inr k) = absurd (passes_or_stands x f k.0 h)
first_once (x ∷ xs) f g (inr h) (inl k) = absurd (passes_or_stands x g h.0 k)
first_once (x ∷ xs) f g (inr h) (inr k) = first_once xs f g h.1 k.1

all_or_first : (xs : List Finding) (f : RelayFault) → AllPass xs → ¬ FirstStands xs f
all_or_first [] f h first = first
all_or_first (x ∷ xs) f h (inl first) = passes_or_stands x f h.0 first
all_or_first (x ∷ xs) f h (inr first) = all_or_first xs f h.1 first.1

-- a text describes one relay
pub one_relay : {A B : Type 0} (text : List ℕ) (r : Relay A) (s : Relay B) → IsRelayOfText text r → IsRelayOfText text s → conf_view r ≡ conf_view s
one_relay text r s h k =
    let same = one_reading text h.elements k.elements h.configured k.configured in
    same_relay k.elements r s (subst (λ elements. IsRelayOf elements r) same h.described) k.described

-- it has one first fault among its elements
pub one_relay_fault : (text : List ℕ) (f g : RelayFault) → HasRelayFault text f → HasRelayFault text g → f ≡ g
one_relay_fault text f g (elements, configured, refused) (others, configured2, refused2) =
    let same = one_reading text elements others configured configured2 in
    first_once (all_found others) f g (subst (λ es. FirstStands (all_found es) f) same refused) refused2

-- and never two of these
pub text_or_relay_fault : (text : List ℕ) (f : ConfFault) (g : RelayFault) → HasTextFault text f.kind f.line → ¬ HasRelayFault text g
text_or_relay_fault text f g fault (elements, configured, refused) = faultless text elements f configured fault

pub relay_or_text_fault : {A : Type 0} (text : List ℕ) (r : Relay A) (f : ConfFault) → IsRelayOfText text r → ¬ HasTextFault text f.kind f.line
relay_or_text_fault text r f h fault = faultless text h.elements f h.configured fault

pub relay_or_fault : {A : Type 0} (text : List ℕ) (r : Relay A) (f : RelayFault) → IsRelayOfText text r → ¬ HasRelayFault text f
relay_or_fault text r f h (elements, configured, refused) =
    let same = one_reading text elements h.elements configured h.configured in
    all_or_first (all_found h.elements) f h.faultless (subst (λ es. FirstStands (all_found es) f) same refused)
