use Rattle.std.proofs.Common.{◌≡◌, ℕ, List, map, take}
use Rattle.std.specs.Borrow.{Bor}
use Rattle.std.specs.List.{filter_map}
use Rattle.plan_lines.specs.Forms.{conf_named}
use Rattle.plan_lines.proofs.names.conf_names.Given as goal

abbrev pub invariant-loop-line : goal.invariant-loop-line
invariant-loop-line g l = map (λ (name : Bor (List ℕ)). name.now) l.names.items ≡ filter_map conf_named (map (λ (line : Bor (List ℕ)). line.now) (take l.line-index l.line-items))
