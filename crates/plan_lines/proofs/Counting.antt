-- That each relay's line names a configuration, and no other line that has a form does.
use Rattle.std.proofs.Common.{◌≡◌, ◌∙◌, ℕ, ◌+◌, Bool, true, false, List, [], ◌∷◌, ◌++◌, length, Option, Some, None, refl, sym, ap, codes, arith, if◌then◌else◌}
use Rattle.std.specs.List.{filter_map, list_all}
use Rattle.std.specs.Str.{bytes_eq, is_utf8}
use Rattle.std.proofs.lemmas.Bool.{false≢true, eqb-true}
use Rattle.std.proofs.lemmas.List.{length-append}
use Rattle.std.proofs.lemmas.List.Elements.{filter_map-append}
use Rattle.relay_conf.specs.Examined.{words_of}
use Rattle.loss_rules.specs.declared.label.Duty.TheVariants.{Any, Every}
use Rattle.plan_lines.specs.Drafts.{HasItsConf}
use Rattle.plan_lines.specs.Forms.{LineForm, nothing, a_relay, a_client, a_label, a_reach, a_duty, no_form, is_comment, relay_form, client_form, label_form, reach_form, duty_form, named_form, form_of, line_form, conf_field, conf_named, is_folder_byte}

-- how many configurations a line of this form names
abbrev pub confs_in : LineForm → ℕ
confs_in (a_relay number host folder conf) = 1
confs_in _ = 0

-- one where there is a name
abbrev one_name : Option (List ℕ) → ℕ
one_name None = 0
one_name (Some name) = 1

no_client : (fields : List (List ℕ)) → confs_in (client_form fields) ≡ 0
no_client [] = refl
no_client (a ∷ []) = refl
no_client (a ∷ b ∷ []) = refl
no_client (a ∷ b ∷ c ∷ more) = refl

no_label : (fields : List (List ℕ)) → confs_in (label_form fields) ≡ 0
no_label [] = refl
no_label (a ∷ []) = refl
no_label (a ∷ b ∷ []) = refl
no_label (a ∷ b ∷ c ∷ more) = refl

no_reach : (fields : List (List ℕ)) → confs_in (reach_form fields) ≡ 0
no_reach [] = refl
no_reach (a ∷ []) = refl
no_reach (a ∷ b ∷ []) = refl
no_reach (a ∷ b ∷ c ∷ []) = refl
no_reach (a ∷ b ∷ c ∷ d ∷ more) = refl

duty_by : (any every : Bool) → confs_in (if any then a_duty Any else (if every then a_duty Every else no_form)) ≡ 0
duty_by true every = refl
duty_by false true = refl
duty_by false false = refl

no_duty : (fields : List (List ℕ)) → confs_in (duty_form fields) ≡ 0
no_duty [] = refl
no_duty (a ∷ []) = duty_by (bytes_eq a (codes "any")) (bytes_eq a (codes "every"))
no_duty (a ∷ b ∷ more) = refl

-- what five fields name, where the first is a relay's or not
abbrev named_if : Bool → List (List ℕ) → Option (List ℕ)
named_if is_relay (number ∷ host ∷ folder ∷ conf ∷ []) = if is_relay then Some conf else None
named_if is_relay _ = None

named_so : (word : List ℕ) (fields : List (List ℕ)) → conf_field (word ∷ fields) ≡ named_if (bytes_eq word (codes "relay")) fields
named_so word [] = refl
named_so word (a ∷ []) = refl
named_so word (a ∷ b ∷ []) = refl
named_so word (a ∷ b ∷ c ∷ []) = refl
named_so word (a ∷ b ∷ c ∷ d ∷ []) = refl
named_so word (a ∷ b ∷ c ∷ d ∷ e ∷ more) = refl

none_named : (fields : List (List ℕ)) → one_name (named_if false fields) ≡ 0
none_named [] = refl
none_named (a ∷ []) = refl
none_named (a ∷ b ∷ []) = refl
none_named (a ∷ b ∷ c ∷ []) = refl
none_named (a ∷ b ∷ c ∷ d ∷ []) = refl
none_named (a ∷ b ∷ c ∷ d ∷ e ∷ more) = refl

folder_named : (b : Bool) (number host folder conf : List ℕ) → ((if b then a_relay number host folder conf else no_form) ≡ no_form → ⊥) → 1 ≡ confs_in (if b then a_relay number host folder conf else no_form)
folder_named true number host folder conf formed = refl
folder_named false number host folder conf formed = absurd (formed refl)

relay_named : (fields : List (List ℕ)) → (relay_form fields ≡ no_form → ⊥) → one_name (named_if true fields) ≡ confs_in (relay_form fields)
relay_named [] formed = absurd (formed refl)
relay_named (a ∷ []) formed = absurd (formed refl)
relay_named (a ∷ b ∷ []) formed = absurd (formed refl)
relay_named (a ∷ b ∷ c ∷ []) formed = absurd (formed refl)
relay_named (a ∷ b ∷ c ∷ d ∷ []) formed = folder_named (list_all is_folder_byte c) a b c d formed
relay_named (a ∷ b ∷ c ∷ d ∷ e ∷ more) formed = absurd (formed refl)

-- the form of a line by the tests of its first field
abbrev form_by : Bool → Bool → Bool → Bool → Bool → List (List ℕ) → LineForm
form_by is_relay is_client is_label is_reach is_duty fields =
    if is_relay then relay_form fields else (if is_client then client_form fields else (if is_label then label_form fields else (if is_reach then reach_form fields else (if is_duty then duty_form fields else no_form))))

by_tests : (a b c d e : Bool) (fields : List (List ℕ)) → (form_by a b c d e fields ≡ no_form → ⊥) → one_name (named_if a fields) ≡ confs_in (form_by a b c d e fields)
by_tests true b c d e fields formed = relay_named fields formed
by_tests false true c d e fields formed = none_named fields ∙ sym (no_client fields)
by_tests false false true d e fields formed = none_named fields ∙ sym (no_label fields)
by_tests false false false true e fields formed = none_named fields ∙ sym (no_reach fields)
by_tests false false false false true fields formed = none_named fields ∙ sym (no_duty fields)
by_tests false false false false false fields formed = absurd (formed refl)

-- a comment's first field isn't `relay`
remark : (word : List ℕ) → is_comment word ≡ true → bytes_eq word (codes "relay") ≡ false
remark [] e = absurd (false≢true e)
remark (b ∷ rest) e = rw (eqb-true b 35 e) refl

fields_count : (words : List (List ℕ)) → (form_of words ≡ no_form → ⊥) → one_name (conf_field words) ≡ confs_in (form_of words)
fields_count [] formed = refl
fields_count (word ∷ fields) formed = ap one_name (named_so word fields) ∙ by (is_comment word) refl formed
  where
    by : (b : Bool) → is_comment word ≡ b → ((if b then nothing else named_form word fields) ≡ no_form → ⊥)
        → one_name (named_if (bytes_eq word (codes "relay")) fields) ≡ confs_in (if b then nothing else named_form word fields)
    by true e formed = ap (λ r. one_name (named_if r fields)) (remark word e) ∙ none_named fields
    by false e formed = by_tests (bytes_eq word (codes "relay")) (bytes_eq word (codes "client")) (bytes_eq word (codes "label")) (bytes_eq word (codes "reach")) (bytes_eq word (codes "duty")) fields formed

one_line : (line : List ℕ) → (line_form line ≡ no_form → ⊥) → one_name (conf_named line) ≡ confs_in (line_form line)
one_line line formed = by (is_utf8 line) formed
  where
    by : (b : Bool) → ((if b then form_of (words_of line) else no_form) ≡ no_form → ⊥)
        → one_name (if b then conf_field (words_of line) else None) ≡ confs_in (if b then form_of (words_of line) else no_form)
    by true formed = fields_count (words_of line) formed
    by false formed = absurd (formed refl)

one_more_name : (line : List ℕ) → length (filter_map conf_named (line ∷ [])) ≡ one_name (conf_named line)
one_more_name line = by (conf_named line) refl
  where
    by : (name : Option (List ℕ)) → conf_named line ≡ name → length (filter_map conf_named (line ∷ [])) ≡ one_name name
    by None e = rw e refl
    by (Some name) e = rw e refl

-- a line that has a form names as many configurations as it adds relays
pub names_counted : (line : List ℕ) → (line_form line ≡ no_form → ⊥) → length (filter_map conf_named (line ∷ [])) ≡ confs_in (line_form line)
names_counted line formed = one_more_name line ∙ one_line line formed

-- where as many relays stand before the line as configurations are named there, a relay's line has
-- its own
pub has_its_conf : (line : List ℕ) (before others : List (List ℕ)) (relays : ℕ) → relays ≡ length (filter_map conf_named before)
    → HasItsConf (line_form line) relays (length (filter_map conf_named (before ++ line ∷ others)))
has_its_conf line before others relays e = by (line_form line) refl
  where
    lengths : length (filter_map conf_named (before ++ line ∷ others)) ≡ length (filter_map conf_named before) + (length (filter_map conf_named (line ∷ [])) + length (filter_map conf_named others))
    lengths =
        ap length (filter_map-append conf_named before (line ∷ others)) ∙ (length-append (filter_map conf_named before) (filter_map conf_named (line ∷ others))
        ∙ ap (λ n. length (filter_map conf_named before) + n) (ap length (filter_map-append conf_named (line ∷ []) others) ∙ length-append (filter_map conf_named (line ∷ [])) (filter_map conf_named others)))

    by : (form : LineForm) → line_form line ≡ form → HasItsConf form relays (length (filter_map conf_named (before ++ line ∷ others)))
    by nothing is = tt
    by (a_relay number host folder conf) is =
        let own : length (filter_map conf_named (line ∷ [])) ≡ 1 = names_counted line (λ none. (let clash : a_relay number host folder conf ≡ no_form = sym is ∙ none in absurd (cc))) ∙ ap confs_in is in
        omega (arith, lengths, own, e)
    by (a_client number port patterns) is = tt
    by (a_label number scope patterns) is = tt
    by (a_reach number scope index patterns) is = tt
    by (a_duty asked) is = tt
    by no_form is = tt
