-- Texts that are joined of pieces.
use Rattle.std.proofs.Common.{◌≡◌, ◌++◌, ◌∷◌, [], ◌∙◌, ℕ, List, ap, append-nil}
use Rattle.program_text.specs.Lines.{line}

-- three pieces, and two without bytes
pub three : (a b c x y z text : List ℕ) → x ≡ a → y ≡ b → z ≡ c → text ≡ (((x ++ y) ++ z) ++ []) ++ [] → text ≡ (a ++ b) ++ c
three a b c x y z text first second third is =
    is ∙ append-nil (((x ++ y) ++ z) ++ []) ∙ append-nil ((x ++ y) ++ z) ∙ ap (λ w. (x ++ y) ++ w) third ∙ ap (λ w. (x ++ w) ++ c) second ∙ ap (λ w. (w ++ b) ++ c) first

-- a line of three pieces, and one without bytes
pub line_of_three : (a b c x y z text : List ℕ) → x ≡ a → y ≡ b → z ≡ c → text ≡ (((x ++ y) ++ z) ++ 10 ∷ []) ++ [] → text ≡ line ((a ++ b) ++ c)
line_of_three a b c x y z text first second third is =
    is ∙ append-nil (((x ++ y) ++ z) ++ 10 ∷ []) ∙ ap (λ w. ((x ++ y) ++ w) ++ 10 ∷ []) third ∙ ap (λ w. ((x ++ w) ++ c) ++ 10 ∷ []) second ∙ ap (λ w. ((w ++ b) ++ c) ++ 10 ∷ []) first

-- a line of four pieces
pub line_of_four : (a b c d x y z w text : List ℕ) → x ≡ a → y ≡ b → z ≡ c → w ≡ d → text ≡ (((x ++ y) ++ z) ++ w) ++ 10 ∷ [] → text ≡ line (((a ++ b) ++ c) ++ d)
line_of_four a b c d x y z w text first second third fourth is =
    is ∙ ap (λ v. (((x ++ y) ++ z) ++ v) ++ 10 ∷ []) fourth ∙ ap (λ v. (((x ++ y) ++ v) ++ d) ++ 10 ∷ []) third ∙ ap (λ v. (((x ++ v) ++ c) ++ d) ++ 10 ∷ []) second ∙ ap (λ v. (((v ++ b) ++ c) ++ d) ++ 10 ∷ []) first
