-- The lines of a text, one after another.
use Rattle.std.proofs.Common.{◌≡◌, ℕ, List, [], ◌∷◌, ◌++◌, Option, Some, None, ap, ◌∙◌}
use Rattle.std.specs.List.{AllZip, filter_map}
use Rattle.std.proofs.lemmas.List.Elements.{filter_map-append}
use Rattle.std.proofs.lemmas.List.{append-nil}
use Rattle.step_lines.specs.declared.step.Step.{Step}
use Rattle.step_lines.specs.StepLines.{Says, SayAll}

kept_more : {X : Type 0} (each : List (Option X)) (next : Option X) (all : List X) → filter_map (λ s. s) each ≡ all → filter_map (λ s. s) (each ++ next ∷ []) ≡ all ++ filter_map (λ s. s) (next ∷ [])
kept_more each next all e = filter_map-append (λ s. s) each (next ∷ []) ∙ ap (λ front. front ++ filter_map (λ s. s) (next ∷ [])) e

all_zip_push : {X Y : Type 0} (R : X → Y → Type 0) (xs : List X) (ys : List Y) (x : X) (y : Y) → AllZip R xs ys → R x y → AllZip R (xs ++ x ∷ []) (ys ++ y ∷ [])
all_zip_push R [] [] x y h r = (r, h)
all_zip_push R [] (b ∷ ys) x y h r = absurd h
all_zip_push R (a ∷ xs) [] x y h r = absurd h
all_zip_push R (a ∷ xs) (b ∷ ys) x y h r = (h.0, all_zip_push R xs ys x y h.1 r)

-- one more line that says a step, or nothing
pub say_step : {A : Type 0} (lines : List (List ℕ)) (steps : List (Step A)) (line : List ℕ) (s : Step A) → SayAll lines steps → Says line (Some s) → SayAll (lines ++ line ∷ []) (steps ++ s ∷ [])
say_step lines steps line s h says = record {
  each = h.each ++ Some s ∷ [];
  says = all_zip_push Says lines h.each line (Some s) h.says says;
  steps_are = kept_more h.each (Some s) steps h.steps_are;
}

pub say_nothing : {A : Type 0} (lines : List (List ℕ)) (steps : List (Step A)) (line : List ℕ) → SayAll lines steps → Says {A = A} line None → SayAll (lines ++ line ∷ []) steps
say_nothing lines steps line h says = record {
  each = h.each ++ None ∷ [];
  says = all_zip_push Says lines h.each line None h.says says;
  steps_are = kept_more h.each None steps h.steps_are ∙ append-nil steps;
}
