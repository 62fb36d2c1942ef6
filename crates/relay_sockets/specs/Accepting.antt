-- What comes of asking for a connection.
use Rattle.relay_sockets.specs.declared.network.Accepted.{Accepted}
use Rattle.relay_sockets.specs.declared.network.Accepted.TheVariants.{Stream}

-- if a connection came, this holds of it
abbrev pub IfStream : {S : Type 0} → Accepted S → (S → Type 0) → Type 0
IfStream (Stream s) P = P s
IfStream _ P = Unit {0}
