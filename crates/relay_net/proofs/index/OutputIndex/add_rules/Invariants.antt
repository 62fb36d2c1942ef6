use Rattle.std.proofs.Common.{ℕ, ◌≡◌, drop}
use Rattle.std.specs.Option.{option_or}
use Rattle.relay_net.specs.Index.{place_in, among_rules}
use Rattle.relay_net.proofs.index.OutputIndex.add_rules.Given as goal

abbrev pub invariant-loop-place : goal.invariant-loop-place
invariant-loop-place g l = (buffer : ℕ) →
    option_or (place_in l.self buffer) (among_rules l.scope l.place (drop l.place l.rules) buffer) ≡ option_or (place_in l.initial.self buffer) (among_rules l.scope 0 l.rules buffer)
