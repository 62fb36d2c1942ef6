use Rattle.std.proofs.Common.{◌∙◌, ℕ, List, map, ap, sym}
use Rattle.std.specs.Borrow.{Bor}
use Rattle.std.proofs.lemmas.Str.{is_utf8-from_IsUtf8}
use Rattle.relay_conf.specs.Examined.{words_of}
use Rattle.label_plan.specs.Lines.{are_label_words}
use Rattle.label_plan.proofs.certificate.is_label_line.Goals as goal

pub returns-in_ok-words-in-Ok : goal.returns-in_ok-words-in-Ok
returns-in_ok-words-in-Ok g c only = record {
  readable = is_utf8-from_IsUtf8 c.args.line.now c.in-Ok.ensures.cases.1;
  words =
      ap (λ (line : List ℕ). are_label_words (words_of line)) (sym c.in-Ok.ensures.cases.0)
      ∙ ap are_label_words (sym c.in_ok-words-in-Ok.ensures)
      ∙ ap (λ (words : List (Bor (List ℕ))). are_label_words (map (λ word. word.now) words)) (sym c.deref.ensures.value)
      ∙ sym c.are_label_words.ensures ∙ only;
}
