use Rattle.std.proofs.Common.{◌≡◌, []}
use Rattle.std.proofs.lemmas.List.{nil_from_length}
use Rattle.tag_pattern.proofs.SlotCuts.{no_body, last_slot, more_slots, no_slots}
use Rattle.tag_pattern.proofs.slots.first_slot.Goals as goal

pub returns-in-None : goal.returns-in-None
returns-in-None c = no_body c.args.text.now c.in-None.ensures

pub returns-in-None-split_first : goal.returns-in-None-split_first
returns-in-None-split_first c =
    let none : c.in-Some.after.now ≡ [] = nil_from_length _ c.in-None-split_first.ensures.cases in
    last_slot c.args.text.now _ (rw none at c.in-Some.ensures)

pub returns-then-mark-ne46 : goal.returns-then-mark-ne46
returns-then-mark-ne46 c =
    no_slots c.args.text.now _ _ _ c.if-mark-ne46.true (rw c.in-Some-split_first.ensures.cases.0 at c.in-Some.ensures)

pub returns-else-mark-ne46 : goal.returns-else-mark-ne46
returns-else-mark-ne46 c =
    more_slots c.args.text.now _ _ _ c.if-mark-ne46.false (rw c.in-Some-split_first.ensures.cases.0 at c.in-Some.ensures)
