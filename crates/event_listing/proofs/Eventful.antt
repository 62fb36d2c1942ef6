-- The tokens of an event's object, written one behind another.
use Rattle.std.proofs.Common.{ℕ, ◌≡◌, List, [], ◌∷◌, ◌++◌, Result, Ok, Err, OnOk, refl, ap, subst, ◌∙◌, append_assoc}
use Rattle.std.specs.Prelude.{codes}
use Rattle.json.specs.Print.{print}
use Rattle.json.specs.Token.{Token, begin_object, end_object, key}
use Rattle.json.specs.Written.{Written}
use Rattle.event_modes.specs.Rows.{IsStored}
use Rattle.event_listing.specs.Events.{IsEventJson, IsTimeJson, IsEventLine}
use Rattle.event_listing.specs.Json.{IsJsonWithin, IsTextJson}
use Rattle.event_listing.specs.Walking.{Adds}

-- tokens more
pub more : (old front behind mid new : List Token) → mid ≡ old ++ front → new ≡ mid ++ behind → new ≡ old ++ (front ++ behind)
more old front behind mid new e f = f ∙ ap (λ z. z ++ behind) e ∙ append_assoc old front behind

-- what comes before the end
abbrev pub open_event : List Token → List Token → List Token → List Token
open_event tag time fields =
    (((((begin_object ∷ key (codes "tag") ∷ []) ++ tag) ++ key (codes "time") ∷ []) ++ time) ++ key (codes "record") ∷ []) ++ fields

grouped : (front time fields : List Token) (second third last : Token)
    → ((((front ++ second ∷ []) ++ time) ++ third ∷ []) ++ fields) ++ last ∷ [] ≡ front ++ second ∷ (time ++ third ∷ (fields ++ last ∷ []))
grouped front time fields second third last =
    append_assoc (((front ++ second ∷ []) ++ time) ++ third ∷ []) fields (last ∷ [])
    ∙ append_assoc ((front ++ second ∷ []) ++ time) (third ∷ []) (fields ++ last ∷ [])
    ∙ append_assoc (front ++ second ∷ []) time (third ∷ (fields ++ last ∷ []))
    ∙ append_assoc front (second ∷ []) (time ++ third ∷ (fields ++ last ∷ []))

-- the object of an event, once its end is written
pub event_written : {E : Type 0} (r : Result (Unit {0}) E) (tag entry time fields : List ℕ) (depth : ℕ) (tags times values : List Token) (old mid new : Written) (s : IsStored entry)
    → time ≡ s.kept.time → fields ≡ s.kept.fields → IsTextJson tag tags → IsTimeJson time times → IsJsonWithin depth fields values
    → mid.tokens ≡ old.tokens ++ open_event tags times values → mid.before ≡ old.before → OnOk r (new.tokens ≡ mid.tokens ++ end_object ∷ []) → new.before ≡ mid.before
    → OnOk r (Adds (IsEventJson tag entry) old new)
event_written (Ok u) tag entry time fields depth tags times values old mid new s t f tag_is time_is value_is written b last still =
    let all = more old.tokens (open_event tags times values) (end_object ∷ []) mid.tokens new.tokens written last in record {
      tokens = open_event tags times values ++ end_object ∷ [];
      is = record {
        entry_is = s.kept;
        tag_value = tags;
        tag_is = tag_is;
        time_value = times;
        time_is = subst (λ z. IsTimeJson z times) t time_is;
        record_value = values;
        record_is = record { depth = depth; within = subst (λ z. IsJsonWithin depth z values) f value_is };
        whole = grouped ((begin_object ∷ key (codes "tag") ∷ []) ++ tags) times values (key (codes "time")) (key (codes "record")) end_object;
      };
      appends = record { before = still ∙ b; tokens_are = all };
    }
event_written (Err e) tag entry time fields depth tags times values old mid new s t f tag_is time_is value_is written b last still = tt

-- the line of an event behind others, from the tokens that are written behind none
pub lined : (tag entry lines all pushed : List ℕ) (old new : Written) → old.before ≡ lines → old.tokens ≡ [] → Adds (IsEventJson tag entry) old new → all ≡ new.before ++ print new.tokens → pushed ≡ all ++ 10 ∷ []
    → (line : List ℕ) × IsEventLine tag entry line × (pushed ≡ lines ++ line)
lined tag entry lines all pushed old new before none added printed ended =
    let tokens : new.tokens ≡ added.tokens = added.appends.tokens_are ∙ ap (λ z. z ++ added.tokens) none in (
      print added.tokens ++ 10 ∷ [],
      record { tokens = added.tokens; is = added.is; line_is = refl },
      ended ∙ ap (λ z. z ++ 10 ∷ []) (printed ∙ ap (λ z. z ++ print new.tokens) (added.appends.before ∙ before) ∙ ap (λ z. lines ++ print z) tokens) ∙ append_assoc lines (print added.tokens) (10 ∷ []),
    )
