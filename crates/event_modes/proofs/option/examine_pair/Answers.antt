use Rattle.std.proofs.Common.{refl, inr}
use Rattle.event_modes.proofs.option.examine_pair.Goals as goal
use Rattle.event_modes.proofs.option.examine_pair.Goals.{else-is_text-via-then-is_text+else-not-is_chunk, else-is_text-via-else-is_text, else-is_text-2-via-then-is_text-2+else-not-is_uncompressed, else-is_text-2-via-else-is_text-2}

pub returns : goal.returns
returns c = record {
  chunk = λ named. elim c.else-is_text.branch [ else-is_text-via-then-is_text+else-not-is_chunk w ↦ w.if-not-is_chunk.ensures.0 refl | else-is_text-via-else-is_text w ↦ absurd (let f = w.if-is_text.ensures.1 named in cc) ];
  compressed = λ named. elim c.else-is_text-2.branch [ else-is_text-2-via-then-is_text-2+else-not-is_uncompressed w ↦ w.if-not-is_uncompressed.ensures.0 refl | else-is_text-2-via-else-is_text-2 w ↦ absurd (let f = w.if-is_text-2.ensures.1 named in cc) ];
}

pub returns-then-not-is_uncompressed : goal.returns-then-not-is_uncompressed
returns-then-not-is_uncompressed c = inr (refl, c.if-is_text-2.ensures.0 refl, λ fits. absurd (let f = c.if-not-is_uncompressed.ensures.1 fits in cc))
