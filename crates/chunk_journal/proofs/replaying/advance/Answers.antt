use Rattle.std.proofs.Common.{false, inr}
use Rattle.chunk_journal.specs.Drafts.{place_of}
use Rattle.chunk_journal.specs.Reading.{Begins, parsed_of}
use Rattle.chunk_journal.specs.Records.{Record}
use Rattle.chunk_journal.specs.Replaying.{Takes}
use Rattle.chunk_journal.proofs.replaying.advance.Goals as goal

-- the record that begins the rest can't stand here
pub returns-then-not-branch : goal.returns-then-not-branch
returns-then-not-branch g c =
    let item : Record = parsed_of c.in-Whole.parsed in
    let b : Begins c.args.rest.now item c.in-Whole.behind.now =
    rw c.in-Whole.is at c.in_ok-next_record.ensures in
    let refused : Takes (place_of c.args.draft.now) item (place_of c.take_record.new.draft) false =
    rw c.if-not-branch.true at c.in_ok-take_record-in-Whole.ensures in
    inr (record { item = item; behind = c.in-Whole.behind.now; begins = b; refused = refused })
