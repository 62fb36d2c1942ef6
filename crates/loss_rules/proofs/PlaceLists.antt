-- The places of lines, one after another.
use Rattle.std.proofs.Common.{◌≡◌, ◌∙◌, ℕ, ◌+◌, ◌<◌, List, [], ◌∷◌, ◌++◌, length, map, take, get_or, sym, ap, append_assoc}
use Rattle.std.proofs.lemmas.List.{map-append, take_more}
use Rattle.loss_rules.specs.declared.answer.Place.{Place}

-- a place behind those of the lines before it
pub one_more : (f : ℕ → Place) (old before after : List Place) (lines : List ℕ) (at : ℕ) → at < length lines → before ≡ old ++ map f (take at lines) → after ≡ before ++ f (get_or lines at 0) ∷ [] → after ≡ old ++ map f (take (at + 1) lines)
one_more f old before after lines at less b a =
    let line = get_or lines at 0 in
    a ∙ ap (λ ps. ps ++ f line ∷ []) b ∙ append_assoc old (map f (take at lines)) (f line ∷ [])
    ∙ ap (λ ps. old ++ ps) (sym (map-append f (take at lines) (line ∷ []))) ∙ ap (λ ls. old ++ map f ls) (sym (take_more lines at 0 less))
