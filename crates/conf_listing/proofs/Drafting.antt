-- From the draft of a configuration to what is said of it.
use Rattle.std.proofs.Common.{◌≡◌, ◌+◌, ◌<◌, ◌++◌, ◌∷◌, [], Bool, true, ℕ, List, Some, length, map, take, get_or, inr, ap, subst, sym, ◌∙◌, append-nil}
use Rattle.std.proofs.lemmas.Grind.{flat_map-append}
use Rattle.std.proofs.lemmas.List.{take_more}
use Rattle.conf_text.specs.Grammar.{IsConfiguration}
use Rattle.conf_text.specs.declared.element.Element.{Element}
use Rattle.conf_text.specs.Views.{tree_of}
use Rattle.plan_lines.specs.Plans.{IsRelayOfText}
use Rattle.relay_conf.specs.declared.relay.Relay.{Relay}
use Rattle.program_text.specs.Stops.{IsRelayRead}
use Rattle.program_text.specs.declared.relay_text.ConfStop.{ConfStop}
use Rattle.program_text.specs.declared.relay_text.ConfStop.TheVariants as stop
use Rattle.conf_listing.specs.declared.draft.Draft.{Draft}
use Rattle.conf_listing.specs.Adapting.{behind_mark, IsDraft, IsStopOfLines}
use Rattle.conf_listing.specs.declared.adapted.Entry.{Entry}
use Rattle.conf_listing.specs.Answers.{IsDraftOf, IsStopTo}
use Rattle.conf_listing.specs.Lines.{AreLines, mark_note}
use Rattle.conf_listing.specs.Printed.{entry_text, printed_text}

-- the relay that is read of known lines is theirs
pub relay_of_lines : {A : Type 0} (lines : List ℕ) (relay : Relay A) → IsRelayRead (Some lines) relay → IsRelayOfText lines relay
relay_of_lines lines relay read = subst (λ (t : List ℕ). IsRelayOfText t relay) read.text_is read.relay_is

-- the draft of the elements of a text is the text's
pub draft_of_text : {A : Type 0} (text rest : List ℕ) (names : List (List ℕ)) (elements shown : List (Element A)) (draft : Draft A) → rest ≡ behind_mark text
    → IsConfiguration rest (map tree_of elements) → shown ≡ elements → IsDraft (map tree_of shown) names draft → IsDraftOf text names draft
draft_of_text text rest names elements shown draft behind configured is drafted = record {
  elements = map tree_of elements;
  configured = subst (λ (t : List ℕ). IsConfiguration t (map tree_of elements)) behind configured;
  drafted = subst (λ (es : List (Element _)). IsDraft (map tree_of es) names draft) is drafted;
}

-- a draft that no relay reads
pub unread_draft : {A : Type 0} (text : List ℕ) (names : List (List ℕ)) (draft : Draft A) (stopped : ConfStop) → IsDraftOf text names draft → draft.is_accepted ≡ true
    → IsStopOfLines draft.lines.items stopped → IsStopTo A text names stopped
unread_draft text names draft (stop.Text fault) is accepted unread = inr (record { draft = draft; draft_is = is; accepted = accepted; unread = unread })
unread_draft text names draft (stop.Relay fault) is accepted unread = inr (record { draft = draft; draft_is = is; accepted = accepted; unread = unread })
unread_draft text names draft (stop.Unread fault) is accepted unread = tt

-- the lines of what is accepted
pub accepted_lines : {A : Type 0} (is_accepted has_mark : Bool) (entries : List (Entry A)) (text note lines : List ℕ) → is_accepted ≡ true → text ≡ printed_text entries → note ≡ mark_note has_mark
    → lines ≡ text ++ note → AreLines is_accepted entries lines
accepted_lines is_accepted has_mark entries text note lines is text_is note_is lines_are =
    subst (λ (b : Bool). AreLines b entries lines) (sym is)
    (has_mark, lines_are ∙ ap (λ (t : List ℕ). t ++ note) text_is ∙ ap (λ (n : List ℕ). printed_text entries ++ n) note_is)

-- the text of one entry more
pub text_more : {A : Type 0} (entries : List (Entry A)) (i : ℕ) (entry : Entry A) (before shown after : List ℕ) → i < length entries → entry ≡ get_or entries i entry
    → shown ≡ entry_text entry → before ≡ printed_text (take i entries) → after ≡ before ++ shown → after ≡ printed_text (take (i + 1) entries)
text_more {A} entries i entry before shown after less at shown_is before_is after_is =
    let front : List ℕ = printed_text (take i entries) in
    let whole : printed_text (take (i + 1) entries) ≡ front ++ entry_text entry =
    ap printed_text (take_more entries i entry less ∙ ap (λ (e : Entry A). take i entries ++ e ∷ []) (sym at))
    ∙ flat_map-append entry_text (take i entries) (entry ∷ []) ∙ ap (λ (t : List ℕ). front ++ t) (append-nil (entry_text entry)) in
    after_is ∙ ap (λ (t : List ℕ). t ++ shown) before_is ∙ ap (λ (t : List ℕ). front ++ t) shown_is ∙ sym whole
