-- Settings that are gone through, from the front.
use Rattle.std.proofs.Common.{◌≡◌, ℕ, ◌+◌, ◌<◌, ◌≤◌, List, [], length, get_or, drop, map, sym, ap, ◌∙◌, Option, None}
use Rattle.std.specs.Prelude.{string_bytes}
use Rattle.std.specs.List.{cons_option}
use Rattle.std.specs.Option.{option_map}
use Rattle.std.proofs.lemmas.List.{drop_all}
use Rattle.conf_text.specs.Views.{setting}
use Rattle.conf_text.specs.declared.element.Pair.{Pair}
use Rattle.relay_conf.specs.declared.section.Section.{Section}
use Rattle.relay_conf.specs.Sections.{setting_fault}
use Rattle.relay_conf.specs.Findings.{Finding, a_fault}
use Rattle.relay_conf.specs.Examined.{settings_found}
use Rattle.relay_conf.proofs.Drops.{drop_is}

-- a setting of which nothing is wrong is passed over
pub passed_setting : {A : Type 0} (section : Section) (pairs : List (Pair A)) (k : ℕ) (pair : Pair A) (name value : List ℕ) (whole : List Finding) → k < length pairs → pair ≡ get_or pairs k pair
    → name ≡ string_bytes pair.name → value ≡ string_bytes pair.value → None ≡ setting_fault section name value → settings_found section (map setting (drop k pairs)) ≡ whole
    → settings_found section (map setting (drop (k + 1) pairs)) ≡ whole
passed_setting {A} section pairs k pair name value whole lt is n v right so_far =
    let rest = settings_found section (map setting (drop (k + 1) pairs)) in
    let fine = right ∙ ap (λ (t : List ℕ). setting_fault section t value) n ∙ ap (λ (t : List ℕ). setting_fault section (string_bytes pair.name) t) v in
    ap (λ (f : Option _). cons_option (option_map (λ kind. a_fault kind pair.line) f) rest) fine ∙ sym (ap (λ (ps : List (Pair A)). settings_found section (map setting ps)) (drop_is pairs k pair lt is)) ∙ so_far

-- past the last setting nothing is wrong
pub no_more_settings : {A : Type 0} (section : Section) (pairs : List (Pair A)) (k : ℕ) (whole : List Finding) → length pairs ≤ k → settings_found section (map setting (drop k pairs)) ≡ whole → [] ≡ whole
no_more_settings {A} section pairs k whole past so_far = ap (λ (ps : List (Pair A)). settings_found section (map setting ps)) (sym (drop_all k pairs past)) ∙ so_far
