-- The lines of a plan that say something else than labels and reaches.
use Rattle.std.proofs.Common.{◌≡◌, ◌+◌, ◌<◌, Bool, true, false, ℕ, List, [], ◌∷◌, ◌++◌, filter, flat_map, length, map, take, get_or, if◌then◌else◌, cond, sym, ap, ◌∙◌, append-nil}
use Rattle.std.specs.Borrow.{Bor}
use Rattle.std.proofs.lemmas.List.{map_more}
use Rattle.std.proofs.lemmas.List.Elements.{filter-append}
use Rattle.std.proofs.lemmas.Grind.{flat_map-append}
use Rattle.label_plan.specs.Lines.{ended, is_kept_line, kept_lines}

-- what is kept of a line
pub kept_one : (line : List ℕ) (kept : Bool) → kept ≡ is_kept_line line → kept_lines (line ∷ []) ≡ (if kept then ended line else [])
kept_one line true is = ap (λ (v : Bool). flat_map ended (cond v (line ∷ []) [])) (sym is) ∙ append-nil (ended line)
kept_one line false is = ap (λ (v : Bool). flat_map ended (cond v (line ∷ []) [])) (sym is)

-- one line more
pub kept_more : (lines : List (Bor (List ℕ))) (i : ℕ) (d : Bor (List ℕ)) (line text after : List ℕ) → i < length lines → line ≡ (get_or lines i d).now
    → text ≡ kept_lines (map (λ l. l.now) (take i lines)) → after ≡ text ++ kept_lines (line ∷ []) → after ≡ kept_lines (map (λ l. l.now) (take (i + 1) lines))
kept_more lines i d line text after less at is after_is =
    let before = map (λ (l : Bor (List ℕ)). l.now) (take i lines) in
    after_is ∙ ap (λ (t : List ℕ). t ++ kept_lines (line ∷ [])) is
    ∙ sym (flat_map-append ended (filter is_kept_line before) (filter is_kept_line (line ∷ [])))
    ∙ ap (λ (ls : List (List ℕ)). flat_map ended ls) (sym (filter-append is_kept_line before (line ∷ [])))
    ∙ ap (λ (l : List ℕ). kept_lines (before ++ l ∷ [])) at
    ∙ ap kept_lines (sym (map_more (λ (l : Bor (List ℕ)). l.now) lines i d less))
