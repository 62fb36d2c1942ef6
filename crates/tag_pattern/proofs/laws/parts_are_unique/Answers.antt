use Rattle.std.proofs.Common.{sym, ap, ◌∙◌}
use Rattle.std.proofs.lemmas.List.Splits.{join_with_byte-slice_split}
use Rattle.tag_pattern.specs.Parts.{dot, parts_of}
use Rattle.tag_pattern.proofs.Splits.{pieces_some, pieces_lack, pieces-join}
use Rattle.tag_pattern.proofs.laws.parts_are_unique.Goals as goal

pub returns : goal.returns
returns c tag = (
  record { some = pieces_some dot tag; dot_free = pieces_lack dot tag; joined = join_with_byte-slice_split dot tag },
  λ parts are. sym (pieces-join dot parts are.some are.dot_free) ∙ ap parts_of are.joined,
)
