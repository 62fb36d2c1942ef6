use Rattle.std.proofs.Common.{ℕ, List, map, ap, ◌∙◌, refl}
use Rattle.std.specs.Borrow.{Bor}
use Rattle.std.proofs.lemmas.Str.{is_utf8-from_IsUtf8}
use Rattle.relay_conf.specs.Examined.{words_of}
use Rattle.plan_lines.proofs.Texts.{not_utf8}
use Rattle.label_plan.specs.Lines.{say_else}
use Rattle.label_plan.proofs.fresh.is_kept.Goals as goal

pub returns-in_ok-words-in-Ok : goal.returns-in_ok-words-in-Ok
returns-in_ok-words-in-Ok g c =
    rw (is_utf8-from_IsUtf8 c.args.line.now c.in-Ok.ensures.cases.1)
    (c.say_else.ensures ∙ ap (λ (words : List (Bor (List ℕ))). say_else (map (λ word. word.now) words)) c.deref.ensures.value
    ∙ ap say_else c.in_ok-words-in-Ok.ensures ∙ ap (λ (line : List ℕ). say_else (words_of line)) c.in-Ok.ensures.cases.0)

pub returns-in-Err : goal.returns-in-Err
returns-in-Err g c = rw (not_utf8 c.args.line.now c.in-Err.ensures.cases.0) refl
