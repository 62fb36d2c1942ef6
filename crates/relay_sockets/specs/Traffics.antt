-- What goes over a connection, both ways.
use Rattle.std.specs.Prelude.{ℕ, zero, suc, ◌≡◌, ◌≤◌, List, [], length, take, Option, None, IfSome, Result, Ok, Err}
use Rattle.std.specs.Io.KnownBytes.{Appends, Consumes}
use Rattle.relay_sockets.specs.declared.wire.Moved.{Moved}
use Rattle.relay_sockets.specs.declared.wire.Moved.TheVariants as moved

-- a connection: the bytes that it took so far, and those that it gave, where they are known
pub record Traffic : Type 0 where
  pub taken : Option (List ℕ)
  pub given : Option (List ℕ)

-- a connection of which nothing is known
abbrev pub unknown_traffic : Traffic
unknown_traffic = record { taken = None; given = None }

-- one of which is known only what it took
abbrev pub taking : (taken : Option (List ℕ)) → Traffic
taking taken = record { taken = taken; given = None }

-- it took nothing and gave nothing, as far as that is known
pub record IsFresh (traffic : Traffic) : Type 0 where
  pub taken : IfSome traffic.taken (λ bytes. bytes ≡ [])
  pub given : IfSome traffic.given (λ bytes. bytes ≡ [])

-- a connection took the bytes that were sent, and gave those that came
abbrev pub Conveys : Traffic → Traffic → (sent came : List ℕ) → Type 0
Conveys old new sent came = Appends old.taken new.taken sent × Appends old.given new.given came

-- a read: so many bytes came, which begin the piece, or none did
abbrev pub IsReadFrom : Traffic → Traffic → (piece : List ℕ) → Moved → Type 0
IsReadFrom old new piece (moved.Some n) = (n ≤ length piece) × Conveys old new [] (take n piece)
IsReadFrom old new piece _ = Conveys old new [] []

-- a read of a stream that has these bytes yet to give, if they are known: so many of them came,
-- which begin the piece, or none did
abbrev pub IsReadOff : (old new : Option (List ℕ)) → (piece : List ℕ) → Moved → Type 0
IsReadOff old new piece (moved.Some n) = (n ≤ length piece) × Consumes old new (take n piece)
IsReadOff old new piece _ = Consumes old new []

-- a write: the connection took so many of the bytes, or none
abbrev pub IsWrittenTo : Traffic → Traffic → (bytes : List ℕ) → Moved → Type 0
IsWrittenTo old new bytes (moved.Some n) = (n ≤ length bytes) × Conveys old new (take n bytes) []
IsWrittenTo old new bytes _ = Conveys old new [] []

-- no byte was moved: none for now, or none any more since the connection failed
abbrev pub IsRefused : Moved → Type 0
IsRefused (moved.Some n) = ⊥
IsRefused moved.Ended = ⊥
IsRefused _ = Unit {0}

-- what the system's answer to a read comes to: so many bytes; the end where it gave none; or why it
-- refused
abbrev pub IsGot : {E : Type 0} → Result ℕ E → Moved → Type 0
IsGot (Ok zero) got = got ≡ moved.Ended
IsGot (Ok (suc n)) got = got ≡ moved.Some (suc n)
IsGot (Err why) got = IsRefused got

-- what its answer to a write comes to: so many bytes; that the connection failed where it took
-- none; or why it refused
abbrev pub IsPut : {E : Type 0} → Result ℕ E → Moved → Type 0
IsPut (Ok zero) put = put ≡ moved.Broken
IsPut (Ok (suc n)) put = put ≡ moved.Some (suc n)
IsPut (Err why) put = IsRefused put
