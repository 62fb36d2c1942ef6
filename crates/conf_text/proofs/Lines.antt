-- Elements that are written, line by line, are read.
use Rattle.std.proofs.Common.{◌≡◌, ℕ, zero, suc, ◌+◌, true, List, [], ◌∷◌, ◌++◌, length, map, refl, sym, ap, subst, ◌∙◌, append_assoc, add-zero, arith}
use Rattle.std.specs.List.{AllByRecursion}
use Rattle.std.proofs.lemmas.List.{append-nil}
use Rattle.conf_text.specs.Text.{is_parameter_name}
use Rattle.conf_text.specs.Form.{LineForm, opens, ends, parameter, line_form}
use Rattle.conf_text.specs.Trees.{Setting, Tree, Trees, tree, no_trees, more_trees, trees}
use Rattle.conf_text.specs.Grammar.{Line, numbered, most_open, IsContents, nothing, set, section}
use Rattle.conf_text.specs.Reading.{headed, set_to}
use Rattle.conf_text.specs.Laws.{setting_line, opening_line, end_line, bare_setting, bare, bares, element_lines, elements_lines, CanStand, AllCanStand, ElementsAreRead}
use Rattle.conf_text.proofs.Contents.{IsContents-append}
use Rattle.conf_text.proofs.Written.{settings_read, openings_read, ends_read}

numbered-append : (n : ℕ) (xs ys : List (List ℕ)) → numbered n (xs ++ ys) ≡ numbered n xs ++ numbered (n + length xs) ys
numbered-append n [] ys = rw add-zero refl
numbered-append n (x ∷ xs) ys =
    let place : n + 1 + length xs ≡ n + suc (length xs) = omega arith in
    rw (numbered-append (n + 1) xs ys, place) refl

-- parameters, one after the other
settings_contents : (room n : ℕ) (settings : List Setting) → AllByRecursion (λ s. is_parameter_name s.name ≡ true) settings
    → (read : List Setting) × IsContents room (numbered n (map (λ s. setting_line s.name s.value) settings)) read [] × (map bare_setting read ≡ map bare_setting settings)
settings_contents room n [] named = ([], nothing, refl)
settings_contents room n (s ∷ settings) named =
    let rest = settings_contents room (n + 1) settings named.1 in
    let others = numbered (n + 1) (map (λ s. setting_line s.name s.value) settings) in
    let here : IsContents room ((n, parameter s.name s.value) ∷ others) (set_to s.name s.value n ∷ rest.0) [] = set rest.1 in (
      set_to s.name s.value n ∷ rest.0,
      subst (λ (f : LineForm). IsContents room ((n, f) ∷ others) (set_to s.name s.value n ∷ rest.0) []) (sym (settings_read s.name s.value named.0)) here,
      ap (λ (ss : List Setting). bare_setting s ∷ ss) rest.2,
    )

mutual
  element_read : (t : Tree) (room n : ℕ) → CanStand t room → (read : Tree) × IsContents room (numbered n (element_lines t)) [] (read ∷ []) × (bare read ≡ bare t)
  element_read (tree heading settings children) zero n can = absurd can
  element_read (tree heading settings children) (suc room) n can =
      let parameters = map (λ (s : Setting). setting_line s.name s.value) settings in
      let below = elements_lines children in
      let end = end_line heading.name in
      let m = n + 1 + length parameters in
      let k = m + length below in
      let s = settings_contents room (n + 1) settings can.3 in
      let c = elements_read children room m can.4 in
      let content : IsContents room (numbered (n + 1) parameters ++ numbered m below) s.0 c.0 = rw (append-nil s.0) at (IsContents-append s.1 c.1) in
      let whole : IsContents (suc room) (((n, opens heading.name heading.argument) ∷ (numbered (n + 1) parameters ++ numbered m below)) ++ ((k, ends heading.name) ∷ [])) [] (tree (headed heading.name heading.argument n) s.0 (trees c.0) ∷ []) = section k content nothing in
      let opening : line_form (opening_line heading.name heading.argument) ≡ opens heading.name heading.argument = openings_read heading.name heading.argument can.0 can.1 can.2 in
      let ending : line_form end ≡ ends heading.name = ends_read heading.name can.0 in
      let after : numbered (n + 1) (parameters ++ (below ++ (end ∷ []))) ≡ (numbered (n + 1) parameters ++ numbered m below) ++ ((k, line_form end) ∷ []) =
      numbered-append (n + 1) parameters (below ++ (end ∷ [])) ∙ ap (λ (ls : List Line). numbered (n + 1) parameters ++ ls) (numbered-append m below (end ∷ [])) ∙ sym (append_assoc (numbered (n + 1) parameters) (numbered m below) ((k, line_form end) ∷ [])) in (
        tree (headed heading.name heading.argument n) s.0 (trees c.0),
        rw (opening, after, ending) whole,
        ap (λ (ss : List Setting). tree (headed heading.name heading.argument 0) ss (bares (trees c.0))) s.2 ∙ ap (λ (cs : Trees). tree (headed heading.name heading.argument 0) (map bare_setting settings) cs) c.2,
      )

  elements_read : (ts : Trees) (room n : ℕ) → AllCanStand ts room → (read : List Tree) × IsContents room (numbered n (elements_lines ts)) [] read × (bares (trees read) ≡ bares ts)
  elements_read no_trees room n can = ([], nothing, refl)
  elements_read (more_trees t ts) room n can =
      let first = element_read t room n can.0 in
      let rest = elements_read ts room (n + length (element_lines t)) can.1 in (
        first.0 ∷ rest.0,
        rw (numbered-append n (element_lines t) (elements_lines ts)) (IsContents-append first.1 rest.1),
        ap (λ (x : Tree). more_trees x (bares (trees rest.0))) first.2 ∙ ap (λ (xs : Trees). more_trees (bare t) xs) rest.2,
      )

pub written_read : ElementsAreRead
written_read ts can = elements_read ts most_open 1 can
