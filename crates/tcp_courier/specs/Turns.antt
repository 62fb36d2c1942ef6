-- With which server of the list a carry begins, and with which the next one does.
use Rattle.std.specs.Prelude.{ℕ, ◌+◌, ◌++◌, take, drop, cond, List, Bool, true, false, Option, Some, None, Result, Ok, Err}
use Rattle.std.specs.Option.{option_or}
use Rattle.std.specs.List.{position_from}
use Rattle.relay_sockets.specs.Endpoints.{Endpoint}
use Rattle.flush_pool.specs.declared.fault.CarryFault.{CarryFault}
use Rattle.flush_pool.specs.declared.fault.CarryFault.TheVariants as carry

-- the servers as a carry tries them: in listed order from this place on, then those before it
abbrev pub in_turn : (turn : ℕ) → List Endpoint → List Endpoint
in_turn turn servers = drop turn servers ++ take turn servers

-- the place in the list of the first of them that takes a connection
abbrev pub place_in_turn : (takes : Endpoint → Bool) → List Endpoint → (turn : ℕ) → Option ℕ
place_in_turn takes servers turn = option_or (position_from takes turn (drop turn servers))
    (position_from takes 0 (take turn servers))

-- a carry that fails so behind the connecting fails by its server: the connection was lost, no
-- answer came, or another one than it should be
abbrev pub by_server : CarryFault → Bool
by_server carry.NoServer = true
by_server carry.Timeout = true
by_server (carry.Session fault) = true
by_server carry.Device = false
by_server carry.Memory = false

-- the turn behind a carry that failed so at the server of this place: that of the next one, where
-- it failed by its server
abbrev pub turn_behind : (place turn : ℕ) → CarryFault → ℕ
turn_behind place turn fault = cond (by_server fault) (place + 1) turn

-- The turn behind a carry, where the server at this place took the connection, or none did. It
-- passes on only behind a failure by a server.
abbrev pub turn_after : {T : Type 0} → (place : Option ℕ) → (turn : ℕ) → Result T CarryFault → ℕ
turn_after None turn result = turn
turn_after (Some place) turn (Ok carried) = turn
turn_after (Some place) turn (Err fault) = turn_behind place turn fault
