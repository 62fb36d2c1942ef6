use Rattle.std.proofs.Common.{◌≡◌, List, ℕ, map, take}
use Rattle.std.specs.Borrow.{Bor}
use Rattle.std.specs.List.{filter_map}
use Rattle.output_state.specs.Rows.{state_of}
use Rattle.output_state.proofs.reading.rows_in.Given as goal

abbrev pub invariant-loop-line : goal.invariant-loop-line
invariant-loop-line g l = l.states.items ≡ filter_map state_of (map (λ (line : Bor (List ℕ)). line.now) (take l.line-index l.line-items))
