use Rattle.std.proofs.Common.{ℕ, ◌≡◌, List, Result, Ok, Err}
use Rattle.std.specs.Prelude.{IfOk}
use Rattle.event_modes.specs.declared.message.Read.{Read}
use Rattle.event_modes.specs.Reading.{Answer, answer_of, Answers}
use Rattle.event_modes.proofs.Only.{one_answer_to}
use Rattle.event_modes.proofs.reading.read.Goals as goal

only_answer : {A E : Type 0} (bytes : List ℕ) (r : Result (Read A) E) (other : Answer) → IfOk r (λ found. Answers bytes (answer_of found)) → Answers bytes other → IfOk r (λ found. other ≡ answer_of found)
only_answer bytes (Ok found) other p q = one_answer_to bytes other (answer_of found) q p
only_answer bytes (Err e) other p q = tt

pub returns-clause-only : goal.returns-clause-only
returns-clause-only g c = λ other q. only_answer c.args.bytes.now c.read_scanned.result other c.read_scanned.ensures q
