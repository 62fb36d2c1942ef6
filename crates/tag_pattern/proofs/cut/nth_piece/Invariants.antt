use Rattle.std.proofs.Common.{◌≡◌, ◌==◌, drop}
use Rattle.std.specs.List.{slice_split}
use Rattle.tag_pattern.proofs.cut.nth_piece.Given as goal

abbrev pub invariant-loop : goal.invariant-loop
invariant-loop l =
    slice_split (λ b. b == l.separator) l.rest ≡ drop l.counter (slice_split (λ b. b == l.separator) l.text)
