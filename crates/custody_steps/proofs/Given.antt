-- Acknowledgements that were given to chunks.
use Rattle.std.proofs.Common.{◌≡◌, ℕ, ◌==◌, ◌&&◌, Bool, true, List, refl, sym, ap, ◌∙◌, Any, ◌↔◌}
use Rattle.std.specs.List.{list_any}
use Rattle.std.proofs.lemmas.List.Folds.{Any-from_list_any, list_any-from_Any}
use Rattle.std.proofs.lemmas.Bool.{and_parts, and_from, eqb-true, eq-eqb, false≢true}
use Rattle.custody_store.specs.Book.{Message}
use Rattle.custody_store.specs.declared.sender.Sender.{Sender}
use Rattle.custody_store.specs.declared.sender.Sender.TheVariants as sender
use Rattle.custody_steps.specs.Answers.{is_from, is_answer}

from_true : (p b s : ℕ) (who : Sender) → is_from p b s who ≡ true → who ≡ sender.Chunk p b s
from_true p b s (sender.Client number) h = absurd (false≢true h)
from_true p b s (sender.Chunk q c t) h =
    let one = and_parts (q == p) ((c == b) && (t == s)) h in
    let two = and_parts (c == b) (t == s) one.1 in
    rw (eqb-true q p one.0, eqb-true c b two.0, eqb-true t s two.1) refl

pub from_itself : (p b s : ℕ) → is_from p b s (sender.Chunk p b s) ≡ true
from_itself p b s = and_from (p == p) ((b == b) && (s == s)) (eq-eqb p p refl) (and_from (b == b) (s == s) (eq-eqb b b refl) (eq-eqb s s refl))

-- A message from the chunk was acknowledged where the test says so.
pub answered_iff : (told : Bool) (messages : List Message) (p b s : ℕ) → told ≡ list_any (is_answer p b s) messages
    → (told ≡ true) ↔ Any (λ message. (message.sender ≡ sender.Chunk p b s) × (message.acknowledged ≡ true)) messages
answered_iff told messages p b s is = (
  λ t. (let found = Any-from_list_any (is_answer p b s) messages (sym is ∙ t) in
      let parts = and_parts (is_from p b s found.1.sender) found.1.acknowledged found.4 in
      (found.0, found.1, found.2, found.3, (from_true p b s found.1.sender parts.0, parts.1))),
  λ any. is ∙ list_any-from_Any (is_answer p b s) messages (
    any.0,
    any.1,
    any.2,
    any.3,
    and_from (is_from p b s any.1.sender) any.1.acknowledged (ap (is_from p b s) any.4.0 ∙ from_itself p b s) any.4.1,
  ),
)
