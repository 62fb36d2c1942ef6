use Rattle.std.proofs.Common.{◌≡◌, ◌+◌, ◌-◌, ◌≤◌, ℕ, List, length, drop, ap, arith}
use Rattle.std.specs.Prelude.{vec_len}
use Rattle.std.proofs.lemmas.List.{length-drop}
use Rattle.chunk_journal.specs.Feeding.{Heard}
use Rattle.chunk_journal.proofs.outline.Outline.into_outlined.Goals as goal

-- what was fed is what the records that were read have, and what is held behind them
used_and_rest : (held rest : List ℕ) (start size len fed all : ℕ) → size ≡ length held
    → (start ≤ size) × (size ≤ start + fed) → len ≡ size
    → length (drop start held) ≡ length rest → fed ≡ all → fed - (len - start) + length rest ≡ all
used_and_rest held rest start size len fed all e inv is behind same =
    omega (arith, e, inv, is, behind, same, length-drop start held)

pub returns-clause-used : goal.returns-clause-used
returns-clause-used g c =
    used_and_rest c.self.inside.held.items c.args.self.rest c.self.inside.start
    (vec_len c.self.inside.held) c.len.result c.self.inside.fed c.args.self.fed
    c.self.inside.held.ok.0 c.self.invariant c.len.ensures
    (ap (λ (h : Heard). length h.rest) c.self.view_is) (ap (λ (h : Heard). h.fed) c.self.view_is)
