use Rattle.std.proofs.Common.{ℕ, List, length, ap, ◌∙◌}
use Rattle.base64.specs.Engines.{standard}
use Rattle.base64.specs.GeneralPurpose.{encode_of, encoded_size_of}
use Rattle.event_modes.specs.ChunkIds.{chunk_text}
use Rattle.event_modes.proofs.Texts.{text_written}
use Rattle.event_modes.proofs.chunk_id.ChunkId.text.Goals as goal

pub returns : goal.returns
unfolding chunk_text
returns c =
    text_written c.bytes.result _ c.encode_slice.new.output c.encode_slice.result (ap (λ (z : List ℕ). encoded_size_of standard (length z)) c.bytes.ensures) c.encode_slice.ensures.fits c.encode_slice.ensures.written
    ∙ ap (encode_of standard) c.bytes.ensures
