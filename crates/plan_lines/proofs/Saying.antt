-- What holds of each plan that lines say.
use Rattle.std.proofs.Common.{◌≡◌, ◌∙◌, ℕ, ◌+◌, ◌==◌, ◌&&◌, Bool, true, false, List, [], ◌∷◌, ◌++◌, length, Option, Some, None, refl, sym, ap, subst, arith}
use Rattle.std.specs.Prelude.{is_some}
use Rattle.std.specs.List.{filter_map}
use Rattle.std.specs.Option.{option_map_or, option_or}
use Rattle.std.proofs.lemmas.List.{length-append}
use Rattle.std.proofs.lemmas.List.Elements.{filter_map-append}
use Rattle.std.proofs.lemmas.List.Folds.{find-append, list_all-append}
use Rattle.loss_rules.specs.Breaks.{Subject}
use Rattle.relay_net.specs.Network.{node_of, source_of_port, enters, all_enter}
use Rattle.relay_net.specs.declared.node.Client.{Client}
use Rattle.relay_net.specs.declared.node.Node.{Node}
use Rattle.plan_lines.specs.declared.error.PlanError.{PlanError}
use Rattle.plan_lines.specs.declared.error.PlanError.TheVariants as error
use Rattle.plan_lines.specs.Faults.{IsRefusedLine, IsRefusal}
use Rattle.plan_lines.specs.Forms.{LineForm, nothing, a_relay, a_client, a_label, a_reach, a_duty, no_form, line_form, conf_named}
use Rattle.plan_lines.specs.Plans.{Adds, Say, none, one_more}
use Rattle.plan_lines.proofs.Counting.{confs_in, names_counted}

-- What each line keeps, each plan that lines say has.

abbrev pub Kept : (A : Type 0) → (Subject A → Type 0) → Type 0
Kept A P = (confs : List (List ℕ)) (line : ℕ) (form : LineForm) (before after : Subject A) → Adds confs line form before after → P before → P after

-- each relay has its line
abbrev pub HasRelayLines : {A : Type 0} → Subject A → Type 0
HasRelayLines plan = length plan.relay_lines ≡ length plan.net.relays

-- each client has its line
abbrev pub HasClientLines : {A : Type 0} → Subject A → Type 0
HasClientLines plan = length plan.client_lines ≡ length plan.net.clients

-- each client sends to a source
abbrev pub HasSources : {A : Type 0} → Subject A → Type 0
HasSources plan = all_enter plan.net.relays plan.net.clients ≡ true

one_longer : {X Y : Type 0} (xs : List X) (ys : List Y) (x : X) (y : Y) → length xs ≡ length ys → length (xs ++ x ∷ []) ≡ length (ys ++ y ∷ [])
one_longer xs ys x y e = let a = length-append xs (x ∷ []) in let b = length-append ys (y ∷ []) in omega (arith, a, b, e)

relay_lines_kept : {A : Type 0} → Kept A HasRelayLines
relay_lines_kept confs line nothing before after h e = subst HasRelayLines (sym h) e
relay_lines_kept confs line (a_relay number host folder conf) before after h e = subst HasRelayLines (sym h.after_is) (one_longer before.relay_lines before.net.relays h.entry h.node e)
relay_lines_kept confs line (a_client number port patterns) before after h e = subst HasRelayLines (sym h.after_is) e
relay_lines_kept confs line (a_label number scope patterns) before after h e = subst HasRelayLines (sym h.after_is) e
relay_lines_kept confs line (a_reach number scope index patterns) before after h e = subst HasRelayLines (sym h.after_is) e
relay_lines_kept confs line (a_duty asked) before after h e = subst HasRelayLines (sym h) e
relay_lines_kept confs line no_form before after h e = absurd h

client_lines_kept : {A : Type 0} → Kept A HasClientLines
client_lines_kept confs line nothing before after h e = subst HasClientLines (sym h) e
client_lines_kept confs line (a_relay number host folder conf) before after h e = subst HasClientLines (sym h.after_is) e
client_lines_kept confs line (a_client number port patterns) before after h e = subst HasClientLines (sym h.after_is) (one_longer before.client_lines before.net.clients line h.client e)
client_lines_kept confs line (a_label number scope patterns) before after h e = subst HasClientLines (sym h.after_is) e
client_lines_kept confs line (a_reach number scope index patterns) before after h e = subst HasClientLines (sym h.after_is) e
client_lines_kept confs line (a_duty asked) before after h e = subst HasClientLines (sym h) e
client_lines_kept confs line no_form before after h e = absurd h

-- a source of a relay is one still where more relays follow
abbrev has_source : {A : Type 0} → Option (Node A) → ℕ → Bool
has_source found port = option_map_or (λ node. is_some (source_of_port node.relay port)) found false

still_there : {A : Type 0} (found other : Option (Node A)) (port : ℕ) → has_source found port ≡ true → has_source (option_or found other) port ≡ true
still_there None other port e = absurd (cc e)
still_there (Some node) other port e = e

still_enters : {A : Type 0} (nodes more : List (Node A)) (client : Client A) → enters nodes client ≡ true → enters (nodes ++ more) client ≡ true
still_enters nodes more client e =
    ap (λ found. has_source found client.port) (find-append (λ node. node.number == client.relay) nodes more) ∙ still_there (node_of nodes client.relay) (node_of more client.relay) client.port e

both : (a b : Bool) → a ≡ true → b ≡ true → (a && b) ≡ true
both true b e f = f
both false b e f = absurd (cc e)

left_of : (a b : Bool) → (a && b) ≡ true → a ≡ true
left_of true b e = refl
left_of false b e = absurd (cc e)

right_of : (a b : Bool) → (a && b) ≡ true → b ≡ true
right_of true b e = e
right_of false b e = absurd (cc e)

all_still_enter : {A : Type 0} (nodes more : List (Node A)) (clients : List (Client A)) → all_enter nodes clients ≡ true → all_enter (nodes ++ more) clients ≡ true
all_still_enter nodes more [] e = refl
all_still_enter nodes more (client ∷ clients) e =
    both (enters (nodes ++ more) client) (all_enter (nodes ++ more) clients)
    (still_enters nodes more client (left_of (enters nodes client) (all_enter nodes clients) e))
    (all_still_enter nodes more clients (right_of (enters nodes client) (all_enter nodes clients) e))

sources_kept : {A : Type 0} → Kept A HasSources
sources_kept confs line nothing before after h e = subst HasSources (sym h) e
sources_kept confs line (a_relay number host folder conf) before after h e = subst HasSources (sym h.after_is) (all_still_enter before.net.relays (h.node ∷ []) before.net.clients e)
sources_kept confs line (a_client number port patterns) before after h e =
    subst HasSources (sym h.after_is) (list_all-append (enters before.net.relays) before.net.clients (h.client ∷ []) ∙ both (all_enter before.net.relays before.net.clients) (enters before.net.relays h.client && true) e (both (enters before.net.relays h.client) true h.source_is refl))
sources_kept confs line (a_label number scope patterns) before after h e = subst HasSources (sym h.after_is) e
sources_kept confs line (a_reach number scope index patterns) before after h e = subst HasSources (sym h.after_is) e
sources_kept confs line (a_duty asked) before after h e = subst HasSources (sym h) e
sources_kept confs line no_form before after h e = absurd h

pub relay_lines_said : {A : Type 0} {confs lines : List (List ℕ)} {plan : Subject A} → Say confs lines plan → HasRelayLines plan
relay_lines_said none = refl
relay_lines_said {A} {confs} (one_more {lines} {before} {after} line said adds) = relay_lines_kept confs (length lines + 1) (line_form line) before after adds (relay_lines_said said)

pub client_lines_said : {A : Type 0} {confs lines : List (List ℕ)} {plan : Subject A} → Say confs lines plan → HasClientLines plan
client_lines_said none = refl
client_lines_said {A} {confs} (one_more {lines} {before} {after} line said adds) = client_lines_kept confs (length lines + 1) (line_form line) before after adds (client_lines_said said)

pub sources_said : {A : Type 0} {confs lines : List (List ℕ)} {plan : Subject A} → Say confs lines plan → HasSources plan
sources_said none = refl
sources_said {A} {confs} (one_more {lines} {before} {after} line said adds) = sources_kept confs (length lines + 1) (line_form line) before after adds (sources_said said)

-- a line adds as many relays as its form says
relays_added : {A : Type 0} (confs : List (List ℕ)) (line : ℕ) (form : LineForm) (before after : Subject A) → Adds confs line form before after → length after.net.relays ≡ length before.net.relays + confs_in form
relays_added confs line nothing before after h = subst (λ x. length x.net.relays ≡ length before.net.relays + 0) (sym h) (omega arith)
relays_added confs line (a_relay number host folder conf) before after h = subst (λ x. length x.net.relays ≡ length before.net.relays + 1) (sym h.after_is) (length-append before.net.relays (h.node ∷ []))
relays_added confs line (a_client number port patterns) before after h = subst (λ x. length x.net.relays ≡ length before.net.relays + 0) (sym h.after_is) (omega arith)
relays_added confs line (a_label number scope patterns) before after h = subst (λ x. length x.net.relays ≡ length before.net.relays + 0) (sym h.after_is) (omega arith)
relays_added confs line (a_reach number scope index patterns) before after h = subst (λ x. length x.net.relays ≡ length before.net.relays + 0) (sym h.after_is) (omega arith)
relays_added confs line (a_duty asked) before after h = subst (λ x. length x.net.relays ≡ length before.net.relays + 0) (sym h) (omega arith)
relays_added confs line no_form before after h = absurd h

-- a line that adds something has a form
has_form : {A : Type 0} (confs : List (List ℕ)) (line : ℕ) (form : LineForm) (before after : Subject A) → Adds confs line form before after → form ≡ no_form → ⊥
has_form confs line form before after h e = subst (λ f. Adds confs line f before after) e h

-- as many relays are said as configurations are named
pub confs_said : {A : Type 0} {confs lines : List (List ℕ)} {plan : Subject A} → Say confs lines plan → length plan.net.relays ≡ length (filter_map conf_named lines)
confs_said none = refl
confs_said {A} {confs} (one_more {lines} {before} {after} line said adds) =
    let earlier = confs_said said in
    let added = relays_added confs (length lines + 1) (line_form line) before after adds in
    let own = names_counted line (has_form confs (length lines + 1) (line_form line) before after adds) in
    let parts = ap length (filter_map-append conf_named lines (line ∷ [])) ∙ length-append (filter_map conf_named lines) (filter_map conf_named (line ∷ [])) in
    omega (arith, earlier, added, own, parts)

-- a line that is refused refuses the text, whatever its fault
pub is_refusal : (A : Type 0) (text : List ℕ) (confs : List (List ℕ)) (fault : PlanError) → IsRefusedLine A text confs fault → IsRefusal A text confs fault
is_refusal A text confs (error.BadLine n) h = h
is_refusal A text confs (error.BadNumber n) h = h
is_refusal A text confs (error.BadPattern n) h = h
is_refusal A text confs (error.NoSuch n) h = h
is_refusal A text confs (error.BadText n fault) h = h
is_refusal A text confs (error.BadRelay n fault) h = h
is_refusal A text confs error.Memory h = tt
