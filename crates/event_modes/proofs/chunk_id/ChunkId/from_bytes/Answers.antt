use Rattle.std.proofs.Common.{◌∙◌}
use Rattle.event_modes.proofs.Texts.{numbers_back, same_id}
use Rattle.event_modes.proofs.chunk_id.ChunkId.from_bytes.Goals as goal

pub returns : goal.returns
returns c = λ id spare fits e.
    let n = numbers_back id c.args.bytes.now spare fits e in
    same_id (record { relay = c.from_be_bytes.result; buffer = c.from_be_bytes-2.result; serial = c.from_be_bytes-3.result }) id
    (c.from_be_bytes.ensures ∙ n.relay) (c.from_be_bytes-2.ensures ∙ n.buffer) (c.from_be_bytes-3.ensures ∙ n.serial)
