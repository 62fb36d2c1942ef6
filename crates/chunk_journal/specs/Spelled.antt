-- The records of the code, as the definitions speak of them.
use Rattle.std.specs.Prelude.{◌≤◌, length}
use Rattle.event_modes.specs.Message.{longest_tag}
use Rattle.chunk_journal.specs.declared.record.Record.{Record as Borrowed}
use Rattle.chunk_journal.specs.declared.record.Record.TheVariants as borrowed
use Rattle.chunk_journal.specs.Records.{Record, Seal, Append, Queue, Purge}

-- the record, without where it lies in memory
abbrev pub record_of : {A : Type 0} → Borrowed A → Record
record_of (borrowed.Seal next) = Seal next
record_of (borrowed.Append serial tag entries) = Append serial tag.now entries.now
record_of (borrowed.Queue serial) = Queue serial
record_of (borrowed.Purge serial) = Purge serial

-- a tag that is not too long, where there is one
abbrev pub HasShortTag : Record → Type 0
HasShortTag (Seal next) = Unit {0}
HasShortTag (Append serial tag entries) = length tag ≤ longest_tag
HasShortTag (Queue serial) = Unit {0}
HasShortTag (Purge serial) = Unit {0}
