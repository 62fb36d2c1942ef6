use Rattle.std.proofs.Common.{◌≡◌, length, Option, Some, None, Bor}
use Rattle.std.specs.Prelude.{IfSome}
use Rattle.event_modes.specs.declared.chunk_id.ChunkId.{ChunkId}
use Rattle.event_modes.specs.Packed.{chunk_of}
use Rattle.event_modes.proofs.Texts.{chunk_text_length}
use Rattle.event_modes.proofs.Written.{is_message}
use Rattle.event_modes.proofs.packed.put_packed.Goals as goal

chunk_length : (chunk : Option (Bor ChunkId)) → IfSome (chunk_of chunk) (λ text. length text ≡ 24)
chunk_length None = tt
chunk_length (Some id) = chunk_text_length id.now

pub returns-then-is_err-clause-means : goal.returns-then-is_err-clause-means
returns-then-is_err-clause-means g c = is_message c.args.tag.now c.args.entries.now (chunk_of c.args.chunk) c.requires.tag c.requires.entries c.put_parts-put.ensures.stored (chunk_length c.args.chunk)

pub returns-else-is_err-clause-means : goal.returns-else-is_err-clause-means
returns-else-is_err-clause-means g c = is_message c.args.tag.now c.args.entries.now (chunk_of c.args.chunk) c.requires.tag c.requires.entries c.put_parts-put.ensures.stored (chunk_length c.args.chunk)
