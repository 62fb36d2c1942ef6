use Rattle.chunk_journal.proofs.Appends.{no_parse, none_some}
use Rattle.chunk_journal.proofs.reading.next_record.Goals as goal

pub returns-in-None : goal.returns-in-None
returns-in-None g c = no_parse c.args.bytes.now c.in-Whole.body.now c.in-Whole.rest.now c.in-Whole.ensures (λ item h e.
    none_some item (rw c.in-None.is at (c.in_ok-parse-in-Whole.ensures.only item h e)))
