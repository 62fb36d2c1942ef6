-- Acknowledgements that were given to chunks.
use Rattle.std.specs.Prelude.{ℕ, ◌==◌, ◌&&◌, Bool, false}
use Rattle.custody_store.specs.Book.{Message}
use Rattle.custody_store.specs.declared.sender.Sender.{Sender}
use Rattle.custody_store.specs.declared.sender.Sender.TheVariants as sender

-- it was sent from the chunk with this id
abbrev pub is_from : ℕ → ℕ → ℕ → Sender → Bool
is_from place buffer serial (sender.Client client) = false
is_from place buffer serial (sender.Chunk p b s) = (p == place) && ((b == buffer) && (s == serial))

-- it was sent from the chunk with this id, and acknowledged
abbrev pub is_answer : ℕ → ℕ → ℕ → Message → Bool
is_answer place buffer serial message = is_from place buffer serial message.sender
    && message.acknowledged
