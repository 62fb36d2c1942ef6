-- Sinks of their own, which keep, in place of a match's outputs.
use Rattle.std.specs.Prelude.{◌≡◌, ◌⊎◌, ℕ, [], ◌∷◌, Some}
use Rattle.relay_conf.specs.Buffers.{buffer_number}
use Rattle.relay_conf.specs.declared.output.Output.{Output}
use Rattle.relay_conf.specs.declared.output.Output.TheVariants as output
use Rattle.relay_conf.specs.declared.relay.MatchRule.{MatchRule}
use Rattle.relay_net.specs.Network.{Network}
use Rattle.relay_net.specs.Outputs.{KeepsChunks}
use Rattle.loss_rules.specs.Rules.{SharePath}
use Rattle.loss_rules.specs.Sites.{rule_at, output_in_rule}

-- The outputs have one buffer's number, or share a path.
abbrev pub Clash : {A : Type 0} → Output A → Output A → Type 0
Clash one two = ((buffer : ℕ) × (buffer_number one ≡ Some buffer)
    × (buffer_number two ≡ Some buffer)) ⊎ SharePath one two

-- The output stores in a sink, under this line of the configuration, and its buffer lets no chunk
-- go before it is stored.
abbrev pub IsKeepingSink : {A : Type 0} → ℕ → Output A → Type 0
IsKeepingSink line (output.Null at) = ⊥
IsKeepingSink line (output.Relabel target at) = ⊥
IsKeepingSink line (output.Forward settings at) = ⊥
IsKeepingSink line (output.File settings at) = KeepsChunks settings.buffer × (at ≡ line)

-- No other output of its relay clashes with this one.
abbrev pub IsOwn : {A : Type 0} → Network A → ℕ → ℕ → ℕ → ℕ → Output A → Type 0
IsOwn {A} net place scope rule output found = (s r o : ℕ) (other : Output A)
    → output_in_rule net place s r o ≡ Some other → Clash other found → (s ≡ scope) × (r ≡ rule)
    × (o ≡ output)

-- The match has one output: a sink of its own, which keeps.
pub record EndsInSink {A : Type 0} (net : Network A) (place scope rule : ℕ) : Type 0 where
  pub found : MatchRule A
  pub is_found : rule_at net place scope rule ≡ Some found
  pub sink : Output A
  pub outputs_are : found.outputs.items ≡ sink ∷ []
  pub keeps : IsKeepingSink found.line sink
  pub own : IsOwn net place scope rule 0 sink
