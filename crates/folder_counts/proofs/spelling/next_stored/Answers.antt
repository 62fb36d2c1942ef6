use Rattle.std.proofs.Common.{◌≡◌, rules, subst, sym}
use Rattle.event_modes.specs.Rows.{IsStored}
use Rattle.sink_series.proofs.Items.{none_stored, some_stored}
use Rattle.folder_counts.proofs.spelling.next_stored.Goals as goal

pub returns-in-None : goal.returns-in-None
returns-in-None g c = λ entry rest stored same.
    let front : c.in-Some.entry.now ≡ entry = search (rules, c.in-Some.ensures.only entry rest stored.item same) in
    none_stored c.in_ok-read.field-0 c.in-Some.entry.now c.in-None.is c.in_ok-read.ensures.only (subst IsStored (sym front) stored)

pub returns-in-Some-2 : goal.returns-in-Some-2
returns-in-Some-2 g c = (
  some_stored c.in_ok-read.field-0 c.in-Some.entry.now _ c.in-Some-2.is c.in_ok-read.ensures.found,
  search (rules, c.in-Some.ensures.right),
)
