use Rattle.std.proofs.Common.{ℕ, ◌≡◌, drop}
use Rattle.std.specs.Option.{option_or}
use Rattle.relay_net.specs.Index.{place_in, among_scopes}
use Rattle.relay_net.proofs.index.OutputIndex.add_scopes.Given as goal

abbrev pub invariant-loop-place : goal.invariant-loop-place
invariant-loop-place g l = (buffer : ℕ) →
    option_or (place_in l.self buffer) (among_scopes l.place (drop l.place l.scopes) buffer) ≡ option_or (place_in l.initial.self buffer) (among_scopes 0 l.scopes buffer)
