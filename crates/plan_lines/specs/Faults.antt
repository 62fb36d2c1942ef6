-- Why a plan's text is refused.
use Rattle.std.specs.Prelude.{◌≡◌, ◌⊎◌, ℕ, ◌+◌, List, ◌∷◌, ◌++◌, length, slice_get, Some, None}
use Rattle.std.specs.Option.{option_and_then}
use Rattle.conf_text.specs.Grammar.{IsConfiguration}
use Rattle.conf_text.specs.Grammar.{HasFault as HasTextFault}
use Rattle.conf_text.specs.Trees.{Tree}
use Rattle.conf_values.specs.Numbers.{number_of}
use Rattle.relay_conf.specs.Faults.{IsRefusal as IsRelayRefusal}
use Rattle.relay_conf.specs.declared.fault.RelayError.TheVariants as relay_error
use Rattle.relay_conf.specs.declared.fault.RelayFault.{RelayFault}
use Rattle.relay_net.specs.Network.{Network, place_among, node_of, source_of_port}
use Rattle.relay_net.specs.declared.node.Node.{Node}
use Rattle.tag_pattern.specs.Grammar.{Slot, IsPattern, AnyByRecursion}
use Rattle.loss_rules.specs.Breaks.{Subject}
use Rattle.loss_rules.specs.Sites.{rule_at}
use Rattle.text_lines.specs.Lines.{text_lines}
use Rattle.plan_lines.specs.declared.error.PlanError.{PlanError}
use Rattle.plan_lines.specs.declared.error.PlanError.TheVariants as error
use Rattle.plan_lines.specs.Forms.{LineForm, a_relay, a_client, a_label, a_reach, no_form, line_form, relay_number}
use Rattle.plan_lines.specs.Plans.{Say, scope_at}

-- a field that should be a number is none: a relay's number, a port or an index
abbrev pub HasBadNumber : LineForm → Type 0
HasBadNumber (a_relay number host folder conf) = relay_number number ≡ None
HasBadNumber (a_client number port patterns) = (relay_number number ≡ None)
    ⊎ (number_of port ≡ None)
HasBadNumber (a_label number scope patterns) = relay_number number ≡ None
HasBadNumber (a_reach number scope index patterns) = (relay_number number ≡ None)
    ⊎ (number_of index ≡ None)
HasBadNumber _ = ⊥

-- some field that should be a pattern is none
abbrev pub HasNoPattern : List (List ℕ) → Type 0
HasNoPattern words = AnyByRecursion (λ word. (slots : List Slot) → ¬ (IsPattern slots word)) words

-- a fault of these patterns, in this line: one of them is none, or memory ran out
abbrev pub IsPatternFault : ℕ → List (List ℕ) → PlanError → Type 0
IsPatternFault line words (error.BadPattern n) = (n ≡ line) × HasNoPattern words
IsPatternFault line words error.Memory = Unit {0}
IsPatternFault line words _ = ⊥

-- the same by the form of the line
abbrev pub HasBadPattern : LineForm → Type 0
HasBadPattern (a_client number port patterns) = HasNoPattern patterns
HasBadPattern (a_label number scope patterns) = HasNoPattern patterns
HasBadPattern (a_reach number scope index patterns) = HasNoPattern patterns
HasBadPattern _ = ⊥

-- no source of the relay that the number means has the port, or it means none of these relays
abbrev pub NoSource : {A : Type 0} → List (Node A) → ℕ → ℕ → Type 0
NoSource nodes number port = option_and_then (λ node. source_of_port node.relay port)
    (node_of nodes number) ≡ None

-- none of these relays has the number, or the scope
abbrev pub NoScope : {A : Type 0} → List (Node A) → ℕ → List ℕ → Type 0
NoScope nodes number scope = option_and_then (λ place. scope_at nodes place scope)
    (place_among nodes number) ≡ None

-- none of these relays has the number, or the scope, or no match of that scope has the index
abbrev pub NoMatch : {A : Type 0} → Network A → ℕ → List ℕ → ℕ → Type 0
NoMatch net number scope index =
    option_and_then (λ place. option_and_then (λ s. rule_at net place s index)
    (scope_at net.relays place scope)) (place_among net.relays number) ≡ None

-- what the line names isn't in the plan of the lines before it
abbrev pub NamesNone : {A : Type 0} → Subject A → LineForm → Type 0
NamesNone plan (a_client number port patterns) = (n : ℕ) × (p : ℕ) × (relay_number number ≡ Some n)
    × (number_of port ≡ Some p) × NoSource plan.net.relays n p
NamesNone plan (a_label number scope patterns) = (n : ℕ) × (relay_number number ≡ Some n)
    × NoScope plan.net.relays n scope
NamesNone plan (a_reach number scope index patterns) = (n : ℕ) × (i : ℕ)
    × (relay_number number ≡ Some n) × (number_of index ≡ Some i) × NoMatch plan.net n scope i
NamesNone plan _ = ⊥

-- this is the first fault of the elements that a text describes
abbrev pub HasRelayFault : List ℕ → RelayFault → Type 0
HasRelayFault text fault = (elements : List Tree) × IsConfiguration text elements
    × IsRelayRefusal elements (relay_error.Fault fault)

-- a fault of a configuration, which this line names: of its text, of what its elements say, or that
-- memory ran out
abbrev pub IsTextFault : ℕ → List ℕ → PlanError → Type 0
IsTextFault line text (error.BadText n fault) = (n ≡ line) × HasTextFault text fault.kind fault.line
IsTextFault line text (error.BadRelay n fault) = (n ≡ line) × HasRelayFault text fault
IsTextFault line text error.Memory = Unit {0}
IsTextFault line text _ = ⊥

-- the line is a relay's, and this holds of its configuration
abbrev pub OfItsConf : {A : Type 0} → List (List ℕ) → Subject A → LineForm → (List ℕ → Type 0)
    → Type 0
OfItsConf confs plan (a_relay number host folder conf) P = (text : List ℕ)
    × (slice_get confs (length plan.net.relays) ≡ Some text) × P text
OfItsConf confs plan _ P = ⊥

-- A line of this number and form can't stand behind the lines that say this plan. Where more than
-- one thing is wrong with it, what counts is its form, then its numbers, its configuration, what
-- isn't there, and last its patterns.
abbrev pub Refuses : {A : Type 0} → List (List ℕ) → ℕ → LineForm → Subject A → PlanError → Type 0
Refuses confs line form plan (error.BadLine n) = (n ≡ line) × (form ≡ no_form)
Refuses confs line form plan (error.BadNumber n) = (n ≡ line) × HasBadNumber form
Refuses confs line form plan (error.BadPattern n) = (n ≡ line) × ¬ HasBadNumber form
    × ¬ NamesNone plan form × HasBadPattern form
Refuses confs line form plan (error.NoSuch n) = (n ≡ line) × NamesNone plan form
Refuses confs line form plan (error.BadText n fault) = (n ≡ line) × ¬ HasBadNumber form
    × OfItsConf confs plan form (λ text. HasTextFault text fault.kind fault.line)
Refuses confs line form plan (error.BadRelay n fault) = (n ≡ line) × ¬ HasBadNumber form
    × OfItsConf confs plan form (λ text. HasRelayFault text fault)
Refuses confs line form plan error.Memory = Unit {0}

-- Of the text's lines one can't stand where it does, and those before it say a plan: it is the
-- first such line.
pub record IsRefusedLine (A : Type 0) (text : List ℕ) (confs : List (List ℕ))
    (fault : PlanError) : Type 0 where
  pub before : List (List ℕ)
  pub refused : List ℕ
  pub others : List (List ℕ)
  pub lines_are : text_lines text ≡ before ++ refused ∷ others
  pub plan : Subject A
  pub said : Say confs before plan
  pub refuses : Refuses confs (length before + 1) (line_form refused) plan fault

-- why a plan isn't read: a line that can't stand where it does, or want of memory
abbrev pub IsRefusal : (A : Type 0) → List ℕ → List (List ℕ) → PlanError → Type 0
IsRefusal A text confs error.Memory = Unit {0}
IsRefusal A text confs fault = IsRefusedLine A text confs fault
