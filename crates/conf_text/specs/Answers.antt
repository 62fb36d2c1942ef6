-- What a call answers, unless memory ran out.
use Rattle.std.specs.Prelude.{◌≡◌, Result, Ok, Err}
use Rattle.conf_text.specs.declared.fault.ConfFault.{ConfFault}
use Rattle.conf_text.specs.declared.fault.ConfError.{ConfError}
use Rattle.conf_text.specs.declared.fault.ConfError.TheVariants as errors

-- an error is this answer's fault, or that memory ran out
abbrev pub Fails : {Y : Type 0} → ConfError → Result Y ConfFault → Type 0
Fails errors.Memory answer = Unit {0}
Fails (errors.Fault f) answer = answer ≡ Err f

-- what a call returned, seen by view, is this answer, or memory ran out
abbrev pub Gives : {X Y : Type 0} → (X → Y) → Result X ConfError → Result Y ConfFault → Type 0
Gives view (Ok x) answer = answer ≡ Ok (view x)
Gives view (Err e) answer = Fails e answer
