use Rattle.std.proofs.Common.{◌≡◌, length}
use Rattle.std.specs.Prelude.{string_bytes}
use denote.Shadow.{shadow}
use denote.Text.{Utf8}
use Rattle.conf_text.specs.Quoted.{quoted}
use Rattle.conf_text.specs.Special.{with_front}
use Rattle.conf_text.proofs.quoted.quoted.Given as goal

abbrev pub invariant-loop-value : goal.invariant-loop-value
invariant-loop-value g l = (with_front (string_bytes l.value) (quoted l.mark l.rest) ≡ quoted l.mark l.text) × shadow (Utf8 l.rest)

abbrev pub decreases-loop-value : goal.decreases-loop-value
decreases-loop-value g l = length l.rest
