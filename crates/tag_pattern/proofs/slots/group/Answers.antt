use Rattle.std.proofs.Common.{sym}
use Rattle.tag_pattern.proofs.SlotCuts.{wrong_mark, no_mark, empty_piece}
use Rattle.tag_pattern.proofs.slots.group.Goals as goal

pub returns-then-mark-ne125 : goal.returns-then-mark-ne125
returns-then-mark-ne125 c = wrong_mark c.args.text.now _ _ _ _ c.cut.ensures c.in-Some.ensures.cases.0 c.if-mark-ne125.true

pub returns-then-has_empty_piece : goal.returns-then-has_empty_piece
returns-then-has_empty_piece c = empty_piece c.args.text.now _ _ c.cut.ensures (sym c.if-has_empty_piece.ensures)

pub returns-in-None : goal.returns-in-None
returns-in-None c = no_mark c.args.text.now _ _ c.cut.ensures c.in-None.ensures.cases
