-- What an evidence shows, of the fields that it has.
use Rattle.ack_receipt.specs.declared.evidence.Shown.{Shown}
use Rattle.ack_receipt.specs.declared.evidence.Shown.TheVariants as shown
use Rattle.ack_receipt.specs.Evidences.{Shows, Acknowledged, StoredAs, Written, Expired}

-- what these fields show
abbrev pub shows : {A : Type 0} → Shown A → Shows
shows (shown.Acknowledged id) = Acknowledged id
shows (shown.Stored id stored) = StoredAs id stored
shows (shown.Written id) = Written id
shows (shown.Expired id) = Expired id
