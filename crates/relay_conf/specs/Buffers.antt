-- The buffers of a relay's outputs.
use Rattle.std.specs.Prelude.{◌≡◌, ℕ, Option, Some, None, slice_get}
use Rattle.std.specs.Option.{option_and_then}
use Rattle.relay_conf.specs.declared.output.Output.{Output}
use Rattle.relay_conf.specs.declared.output.Output.TheVariants as output
use Rattle.relay_conf.specs.declared.relay.Relay.{Relay}

-- the number of an output's buffer, if it has one
abbrev pub buffer_number : {A : Type 0} → Output A → Option ℕ
buffer_number (output.Forward settings line) = Some settings.number.0
buffer_number (output.File settings line) = Some settings.number.0
buffer_number _ = None

-- the output with this place in a match, which has this place in a scope, which has this place in
-- the relay
abbrev pub output_in_relay : {A : Type 0} → Relay A → ℕ → ℕ → ℕ → Option (Output A)
output_in_relay relay scope rule output =
    option_and_then (λ found. slice_get found.outputs.items output)
    (option_and_then (λ found. slice_get found.matches.items rule)
    (slice_get relay.scopes.items scope))

-- No two outputs share a buffer: where two have one number, they stand at one place.
abbrev pub HaveOwnBuffers : {A : Type 0} → Relay A → Type 0
HaveOwnBuffers {A} relay = (scope rule output : ℕ) (found : Output A)
    → output_in_relay relay scope rule output ≡ Some found → (s r o : ℕ) (other : Output A)
    → output_in_relay relay s r o ≡ Some other
    → (buffer : ℕ) → buffer_number found ≡ Some buffer → buffer_number other ≡ Some buffer
    → (s ≡ scope) × (r ≡ rule) × (o ≡ output)
