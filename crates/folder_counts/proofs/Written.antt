-- What is written in a row.
use Rattle.std.proofs.Common.{ℕ, List, ◌≡◌, ◌++◌, ◌∙◌, ap, append_assoc, codes, Result, Ok, Err}
use Rattle.std.specs.Prelude.{if◌then◌else◌, OnOk}
use Rattle.std.specs.Result.{is_ok}
use Rattle.json.specs.Token.{Token}
use Rattle.json.specs.Written.{Written}
use Rattle.folder_counts.specs.Lines.{with_found}
use Rattle.folder_counts.specs.Object.{Becomes}
use Rattle.folder_counts.specs.declared.buffers.Found.{Found}
use Rattle.folder_counts.specs.declared.buffers.Found.TheVariants.{Chunks, Unsealed, Damaged, Unread}

pub then_becomes : (old mid new : Written) (tokens : List Token) (more : List Token → List Token) → Becomes old mid tokens → Becomes mid new (more mid.tokens) → Becomes old new (more tokens)
then_becomes old mid new tokens more first next = record { before = next.before ∙ first.before; tokens_are = next.tokens_are ∙ ap more first.tokens_are }

-- the same where the last call may fail
pub last_becomes : {S E : Type 0} (result : Result S E) (old mid new : Written) (tokens : List Token) (more : List Token → List Token) → Becomes old mid tokens
    → OnOk result (Becomes mid new (more mid.tokens)) → OnOk result (Becomes old new (more tokens))
last_becomes (Ok done) old mid new tokens more first next = then_becomes old mid new tokens more first next
last_becomes (Err e) old mid new tokens more first next = tt

-- two texts, one behind the other
pub then_more : (old mid new text more : List ℕ) → mid ≡ old ++ text → new ≡ mid ++ more → new ≡ old ++ (text ++ more)
then_more old mid new text more first next = next ∙ ap (λ z. z ++ more) first ∙ append_assoc old text more

-- a text, and more that a call appends which may fail
pub then_text : {S E : Type 0} (result : Result S E) (old mid new part text more : List ℕ) → mid ≡ old ++ part → part ≡ text → new ≡ (if is_ok result then mid ++ more else mid)
    → OnOk result (new ≡ old ++ (text ++ more))
then_text (Ok done) old mid new part text more first same next = next ∙ ap (λ z. z ++ more) (first ∙ ap (λ z. old ++ z) same) ∙ append_assoc old text more
then_text (Err e) old mid new part text more first same next = tt

-- what is found in a journal, behind two texts
pub found_behind : (front text : List ℕ) (found : Found) → with_found (front ++ text) found ≡ front ++ with_found text found
found_behind front text (Chunks chunks torn next oldest) = simp append_assoc
found_behind front text Unsealed = append_assoc front text (codes " unsealed")
found_behind front text Damaged = append_assoc front text (codes " damaged")
found_behind front text Unread = append_assoc front text (codes " unread")
