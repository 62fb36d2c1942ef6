use Rattle.std.proofs.Common.{ℕ, List, map, ap, ◌∙◌, refl}
use Rattle.std.specs.Borrow.{Bor}
use Rattle.std.proofs.lemmas.Str.{is_utf8-from_IsUtf8}
use Rattle.relay_conf.specs.Examined.{words_of}
use Rattle.plan_lines.specs.Forms.{conf_field}
use Rattle.plan_lines.proofs.Texts.{not_utf8}
use Rattle.plan_lines.proofs.names.conf_named.Goals as goal

pub returns-in_ok-words-in-Ok : goal.returns-in_ok-words-in-Ok
returns-in_ok-words-in-Ok g c =
    rw (is_utf8-from_IsUtf8 c.args.line.now c.in-Ok.ensures.cases.1)
    (c.conf_field.ensures ∙ ap (λ (fields : List (Bor (List ℕ))). conf_field (map (λ field. field.now) fields)) c.deref.ensures.value
    ∙ ap conf_field c.in_ok-words-in-Ok.ensures ∙ ap (λ (line : List ℕ). conf_field (words_of line)) c.in-Ok.ensures.cases.0)

pub returns-in-Err : goal.returns-in-Err
returns-in-Err g c = rw (not_utf8 c.args.line.now c.in-Err.ensures.cases.0) refl
