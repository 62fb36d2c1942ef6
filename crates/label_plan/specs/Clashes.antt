-- Which outputs of a relay clash with another one, as it is decided.
use Rattle.std.specs.Prelude.{◌≡◌, ◌==◌, ◌||◌, not, ℕ, Bool, false, List, [], ◌∷◌, Option, Some, None}
use Rattle.std.specs.List.{list_all}
use Rattle.std.specs.Str.{bytes_eq}
use Rattle.relay_conf.specs.Buffers.{buffer_number, output_in_relay}
use Rattle.relay_conf.specs.declared.output.Output.{Output}
use Rattle.relay_conf.specs.declared.relay.MatchRule.{MatchRule}
use Rattle.relay_conf.specs.declared.relay.Relay.{Relay}
use Rattle.relay_conf.specs.declared.relay.Scope.{Scope}
use Rattle.loss_rules.specs.Rules.{buffer_path, sink_path}
use Rattle.label_plan.specs.Sinks.{Clash, IsKeepingSink}

-- there are two numbers, and they are the same
abbrev pub same_number : Option ℕ → Option ℕ → Bool
same_number (Some one) (Some two) = one == two
same_number (Some one) None = false
same_number None two = false

-- there are two paths, and they are the same
abbrev pub same_path : Option (List ℕ) → Option (List ℕ) → Bool
same_path (Some one) (Some two) = bytes_eq one two
same_path (Some one) None = false
same_path None two = false

-- whether the outputs clash
abbrev pub clash : {A : Type 0} → Output A → Output A → Bool
clash one two = same_number (buffer_number one) (buffer_number two)
    || (same_path (buffer_path one) (buffer_path two) || same_path (sink_path one) (sink_path two))

-- whether they don't
unfoldable pub are_apart : {A : Type 0} → Output A → Output A → Bool
are_apart one two = not (clash one two)

-- whether no output of a match, of a scope or of a relay clashes with this one
abbrev pub is_free_rule : {A : Type 0} → Output A → MatchRule A → Bool
is_free_rule sink found = list_all (λ other. are_apart other sink) found.outputs.items

abbrev pub is_free_scope : {A : Type 0} → Output A → Scope A → Bool
is_free_scope sink scope = list_all (is_free_rule sink) scope.matches.items

abbrev pub is_free : {A : Type 0} → Relay A → Output A → Bool
is_free relay sink = list_all (is_free_scope sink) relay.scopes.items

-- No output of the relay clashes with this one.
abbrev pub IsFree : {A : Type 0} → Relay A → Output A → Type 0
IsFree {A} relay sink = (scope rule output : ℕ) (other : Output A)
    → output_in_relay relay scope rule output ≡ Some other → ¬ Clash other sink

-- The outputs are one sink that keeps, under this line, and no output of the relay clashes with it.
pub record IsOwnSink {A : Type 0} (relay : Relay A) (line : ℕ)
    (outputs : List (Output A)) : Type 0 where
  pub sink : Output A
  pub outputs_are : outputs ≡ sink ∷ []
  pub keeps : IsKeepingSink line sink
  pub free : IsFree relay sink
