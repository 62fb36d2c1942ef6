-- What a shared buffer has room for.
use Rattle.std.specs.Prelude.{ℕ, ◌≡◌, ◌⊎◌, true, List, Ok, Err}
use Rattle.ack_receipt.specs.declared.takes.Takes.{Takes}
use Rattle.buffer_state.specs.State.{State}
use Rattle.buffer_state.specs.Steps.{planned}
use Rattle.buffer_state.specs.declared.limits.Limits.{Limits}
use Rattle.buffer_state.specs.declared.limits.AppendFault.TheVariants.{Full}
use Rattle.buffer_store.specs.Room.{FitsBesideUnqueued}

-- An append of these entries has a place; or it would have room once queued chunks were let go,
-- where this buffer's may be.
abbrev pub HasRoom : {A : Type 0} → Takes A → Limits → State → List ℕ → List (List ℕ) → Type 0
HasRoom takes limits state tag entries =
    ((place : ℕ) × (planned limits state tag entries ≡ Ok place))
    ⊎ ((takes.drops ≡ true) × (planned limits state tag entries ≡ Err Full)
    × FitsBesideUnqueued limits state entries)
