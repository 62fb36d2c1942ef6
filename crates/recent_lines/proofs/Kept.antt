-- The lines of texts, one text behind another, and which of them are kept.
use Rattle.std.proofs.Common.{ℕ, ◌≡◌, ◌≢◌, ◌<◌, inl, inr, true, false, List, [], ◌∷◌, ◌++◌, length, refl, sym, ◌∙◌, ap, subst, arith, append_assoc, append-nil}
use Rattle.std.specs.List.{AllByRecursion, concat}
use Rattle.std.proofs.lemmas.List.{length-append}
use Rattle.std.proofs.lemmas.List.Folds.{concat-append}
use Rattle.recent_lines.specs.Lines.{AreLines, EndsALine, IsLine}
use Rattle.recent_lines.specs.Recent.{remembering, AreKept, IsTold, Keeps, Recent}

-- ---- the ends of texts

-- a line ends one
pub ends_line : (front : List ℕ) → EndsALine (front ++ 10 ∷ [])
ends_line front = inr (front, refl)

-- so does a text that ends one, behind another
pub ends_append : (text more : List ℕ) → EndsALine text → EndsALine more → EndsALine (text ++ more)
ends_append text more first (inl none) = subst EndsALine (sym (ap (λ z. text ++ z) none ∙ append-nil text)) first
ends_append text more first (inr (front, e)) = inr (text ++ front, ap (λ z. text ++ z) e ∙ sym (append_assoc text front (10 ∷ [])))

nothing_left : (line behind : List ℕ) → line ++ behind ≡ [] → behind ≡ []
nothing_left [] behind e = e
nothing_left (x ∷ line) behind e = absurd (cc e)

last_behind : (line behind front : List ℕ) → line ++ behind ≡ front ++ 10 ∷ [] → EndsALine behind
last_behind [] behind front e = inr (front, e)
last_behind (x ∷ line) behind [] e = let t : line ++ behind ≡ [] = cc in inl (nothing_left line behind t)
last_behind (x ∷ line) behind (y ∷ front) e = let t : line ++ behind ≡ front ++ 10 ∷ [] = cc in last_behind line behind front t

-- what is behind a line ends one, where both do
pub ends_behind : (text line behind : List ℕ) → text ≡ line ++ behind → EndsALine text → EndsALine behind
ends_behind text line behind e (inl none) = inl (nothing_left line behind (sym e ∙ none))
ends_behind text line behind e (inr (front, is)) = last_behind line behind front (sym e ∙ is)

at_end : (P : ℕ → Type 0) (front : List ℕ) (b : ℕ) → AllByRecursion P (front ++ b ∷ []) → P b
at_end P [] b all = all.0
at_end P (x ∷ front) b all = at_end P front b all.1

-- it is empty where it has no LF
pub nothing_plain : (text : List ℕ) → AllByRecursion (λ b. b ≢ 10) text → EndsALine text → text ≡ []
nothing_plain text plain (inl none) = none
nothing_plain text plain (inr (front, e)) = absurd (at_end (λ b. b ≢ 10) front 10 (subst (AllByRecursion (λ b. b ≢ 10)) e plain) refl)

-- ---- lists of lines

each_append : {X : Type 0} (P : X → Type 0) (xs more : List X) → AllByRecursion P xs → AllByRecursion P more → AllByRecursion P (xs ++ more)
each_append P [] more all behind = behind
each_append P (x ∷ xs) more all behind = (all.0, each_append P xs more all.1 behind)

kept_append : (recent mid now : Recent) (lines more left others : List (List ℕ)) → AreKept recent lines left mid → AreKept mid more others now → AreKept recent (lines ++ more) (left ++ others) now
kept_append recent mid now [] more left others (none, same) behind =
    subst (λ l. AreKept recent more (l ++ others) now) (sym none) (subst (λ r. AreKept r more others now) same behind)
kept_append recent mid now (line ∷ lines) more left others (inl (again, first)) behind = inl (again, kept_append recent mid now lines more left others first behind)
kept_append recent mid now (line ∷ lines) more left others (inr (not, (kept, e, first))) behind =
    inr (not, (kept ++ others, ap (λ l. l ++ others) e, kept_append (remembering recent line) mid now lines more kept others first behind))

-- ---- texts

-- nothing is kept of no text
pub keeps_nothing : (recent : Recent) → Keeps recent [] [] recent
keeps_nothing recent = record { lines = []; are = record { each = tt; text_is = refl }; left = []; each = (refl, refl); kept_is = refl }

-- what is kept of two texts, one behind the other
pub keeps_append : (recent mid now : Recent) (text more kept others : List ℕ) → Keeps recent text kept mid → Keeps mid more others now → Keeps recent (text ++ more) (kept ++ others) now
keeps_append recent mid now text more kept others first behind = record {
  lines = first.lines ++ behind.lines;
  are = record {
    each = each_append IsLine first.lines behind.lines first.are.each behind.are.each;
    text_is = ap (λ t. t ++ more) first.are.text_is ∙ ap (λ t. concat first.lines ++ t) behind.are.text_is ∙ sym (concat-append first.lines behind.lines);
  };
  left = first.left ++ behind.left;
  each = kept_append recent mid now first.lines behind.lines first.left behind.left first.each behind.each;
  kept_is = ap (λ t. t ++ others) first.kept_is ∙ ap (λ t. concat first.left ++ t) behind.kept_is ∙ sym (concat-append first.left behind.left);
}

-- ---- a text, line by line

-- what is kept of the lines so far, and what is behind them
pub record KeptOn (recent : Recent) (text rest kept : List ℕ) (now : Recent) : Type 0 where
  pub front : List ℕ
  pub whole : text ≡ front ++ rest
  pub keeps : Keeps recent front kept now
  pub ends : EndsALine rest

pub kept_start : (recent : Recent) (text kept : List ℕ) → kept ≡ [] → EndsALine text → KeptOn recent text text kept recent
kept_start recent text kept none ends = record { front = []; whole = refl; keeps = subst (λ k. Keeps recent [] k recent) (sym none) (keeps_nothing recent); ends = ends }

goes_on : (recent mid now : Recent) (text rest line behind kept one new : List ℕ) → KeptOn recent text rest kept mid → rest ≡ line ++ behind → Keeps mid line one now → new ≡ kept ++ one → KeptOn recent text behind new now
goes_on recent mid now text rest line behind kept one new on cut keeps new_is = record {
  front = on.front ++ line;
  whole = on.whole ∙ ap (λ z. on.front ++ z) cut ∙ sym (append_assoc on.front line behind);
  keeps = subst (λ k. Keeps recent (on.front ++ line) k now) (sym new_is) (keeps_append recent mid now on.front line kept one on.keeps keeps);
  ends = ends_behind rest line behind cut on.ends;
}

one_line : (line : List ℕ) → IsLine line → AreLines line (line ∷ [])
one_line line is = record { each = (is, tt); text_is = sym (append-nil line) }

-- a line more, which repeats none
pub line_kept : (recent mid now : Recent) (text rest line behind kept new : List ℕ) → KeptOn recent text rest kept mid → IsLine line × (rest ≡ line ++ behind) → IsTold mid line true now → new ≡ kept ++ line
    → KeptOn recent text behind new now
line_kept recent mid now text rest line behind kept new on cut told new_is =
    goes_on recent mid now text rest line behind kept line new on cut.1
    (record { lines = line ∷ []; are = one_line line cut.0; left = line ∷ []; each = inr (told.0, ([], refl, (refl, told.1))); kept_is = sym (append-nil line) })
    new_is

-- a line more, which repeats one
pub line_left : (recent mid now : Recent) (text rest line behind kept : List ℕ) → KeptOn recent text rest kept mid → IsLine line × (rest ≡ line ++ behind) → IsTold mid line false now → KeptOn recent text behind kept now
line_left recent mid now text rest line behind kept on cut told =
    goes_on recent mid now text rest line behind kept [] kept on cut.1
    (record { lines = line ∷ []; are = one_line line cut.0; left = []; each = inl (told.0, (refl, told.1)); kept_is = refl })
    (sym (append-nil kept))

-- that was the last
pub kept_end : (recent now : Recent) (text rest kept : List ℕ) → KeptOn recent text rest kept now → AllByRecursion (λ b. b ≢ 10) rest → Keeps recent text kept now
kept_end recent now text rest kept on plain =
    let none = nothing_plain rest plain on.ends in
    subst (λ t. Keeps recent t kept now) (sym (on.whole ∙ ap (λ z. on.front ++ z) none ∙ append-nil on.front)) on.keeps

-- fewer bytes are left
pub fewer_left : (rest line behind : List ℕ) → IsLine line × (rest ≡ line ++ behind) → length behind < length rest
fewer_left rest line behind cut = omega (arith, ap length cut.1, length-append line behind, ap length cut.0.line_is, length-append cut.0.front (10 ∷ []))
