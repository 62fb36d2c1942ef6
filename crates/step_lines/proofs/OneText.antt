-- That a text says one list of steps, or is refused for one line.
use Rattle.std.proofs.Common.{◌≡◌, ℕ, ◌+◌, List, [], ◌∷◌, ◌++◌, length, map, Option, Some, None, refl, sym, ap, subst, ◌∙◌}
use Rattle.std.specs.List.{AllZip, filter_map}
use Rattle.step_lines.specs.declared.step.Step.{Step}
use Rattle.step_lines.specs.StepLines.{Says, IsBad}
use Rattle.step_lines.specs.Laws.{Content, content, HasOneReading, HasOneFault, IsFaultless}
use Rattle.step_lines.proofs.OneReading.{one_step, no_step_too}

module _ {A : Type 0} where
  -- the steps among what lines say
  abbrev steps_in : List (Option (Step A)) → List (Step A)
  steps_in each = filter_map (λ s. s) each

  same_said : (lines : List (List ℕ)) (one two : List (Option (Step A))) → AllZip Says lines one → AllZip Says lines two → map content (steps_in one) ≡ map content (steps_in two)
  same_said [] [] [] h k = refl
  same_said [] [] (y ∷ two) h k = absurd k
  same_said [] (x ∷ one) two h k = absurd h
  same_said (line ∷ lines) [] two h k = absurd h
  same_said (line ∷ lines) (x ∷ one) [] h k = absurd k
  same_said (line ∷ lines) (None ∷ one) (None ∷ two) h k = same_said lines one two h.1 k.1
  same_said (line ∷ lines) (None ∷ one) (Some t ∷ two) h k = absurd (no_step_too _ t h.0.1 k.0.1)
  same_said (line ∷ lines) (Some s ∷ one) (None ∷ two) h k = absurd (no_step_too _ s k.0.1 h.0.1)
  same_said (line ∷ lines) (Some s ∷ one) (Some t ∷ two) h k =
      ap (λ (c : Content). c ∷ map content (steps_in one)) (one_step _ s t h.0.1 k.0.1) ∙ ap (λ (rest : List Content). content t ∷ rest) (same_said lines one two h.1 k.1)

  -- the first bad line of lines is one
  same_before : (one two : List (List ℕ)) (bad worse : List ℕ) (more others : List (List ℕ)) (said heard : List (Option (Step A))) → one ++ bad ∷ more ≡ two ++ worse ∷ others
      → AllZip Says one said → AllZip Says two heard → IsBad A bad → IsBad A worse → length one ≡ length two
  same_before [] [] bad worse more others said heard e h k b w = refl
  same_before [] (y ∷ two) bad worse more others said [] e h k b w = absurd k
  same_before [] (y ∷ two) bad worse more others said (t ∷ heard) e h k b w = let same : y ≡ bad = cc in absurd (b t (subst (λ line. Says line t) same k.0))
  same_before (x ∷ one) [] bad worse more others [] heard e h k b w = absurd h
  same_before (x ∷ one) [] bad worse more others (s ∷ said) heard e h k b w = let same : x ≡ worse = cc in absurd (w s (subst (λ line. Says line s) same h.0))
  same_before (x ∷ one) (y ∷ two) bad worse more others [] heard e h k b w = absurd h
  same_before (x ∷ one) (y ∷ two) bad worse more others (s ∷ said) [] e h k b w = absurd k
  same_before (x ∷ one) (y ∷ two) bad worse more others (s ∷ said) (t ∷ heard) e h k b w =
      let rest : one ++ bad ∷ more ≡ two ++ worse ∷ others = cc in
      let same = same_before one two bad worse more others said heard rest h.1 k.1 b w in cc

  -- each line of a text that says steps says one, or nothing
  none_bad : (one : List (List ℕ)) (bad : List ℕ) (more : List (List ℕ)) (said : List (Option (Step A))) → AllZip Says (one ++ bad ∷ more) said → ¬ IsBad A bad
  none_bad [] bad more [] h b = absurd h
  none_bad [] bad more (s ∷ said) h b = b s h.0
  none_bad (x ∷ one) bad more [] h b = absurd h
  none_bad (x ∷ one) bad more (s ∷ said) h b = none_bad one bad more said h.1 b

pub one_reading : {A : Type 0} → HasOneReading A
one_reading text one two h k = ap (map content) (sym h.steps_are) ∙ same_said _ h.each k.each h.says k.says ∙ ap (map content) k.steps_are

pub one_fault : {A : Type 0} → HasOneFault A
one_fault text one two h k =
    h.number_is ∙ ap (λ n. n + 1) (same_before h.before k.before h.refused k.refused h.others k.others h.said.each k.said.each (sym h.lines_are ∙ k.lines_are) h.said.says k.said.says h.is_bad k.is_bad) ∙ sym k.number_is

pub faultless : {A : Type 0} → IsFaultless A
faultless text steps line h k = none_bad k.before k.refused k.others h.each (subst (λ lines. AllZip Says lines h.each) k.lines_are h.says) k.is_bad
