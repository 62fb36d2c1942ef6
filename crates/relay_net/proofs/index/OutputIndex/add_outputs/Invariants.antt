use Rattle.std.proofs.Common.{ℕ, ◌≡◌, drop}
use Rattle.std.specs.Option.{option_or}
use Rattle.relay_net.specs.Index.{place_in, among_outputs}
use Rattle.relay_net.proofs.index.OutputIndex.add_outputs.Given as goal

abbrev pub invariant-loop-place : goal.invariant-loop-place
invariant-loop-place g l = (buffer : ℕ) →
    option_or (place_in l.self buffer) (among_outputs l.scope l.rule l.place (drop l.place l.outputs) buffer) ≡ option_or (place_in l.initial.self buffer) (among_outputs l.scope l.rule 0 l.outputs buffer)
