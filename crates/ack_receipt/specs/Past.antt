-- What the snapshots of a book tell.
use Rattle.std.specs.Prelude.{suc, [], ◌∷◌, ◌++◌, length}
use Rattle.ack_receipt.specs.declared.past.Link.{Link}
use Rattle.ack_receipt.specs.declared.past.Link.TheVariants as link
use Rattle.ack_receipt.specs.Told.{ToldPast, counts_of, synced_at}

-- what was told up to here
abbrev pub told_before : {D A : Type 0} → Link D A → ToldPast
told_before (link.Began buffer) =
    record {
      times = 0;
      first = counts_of buffer.value.chunks;
      appends = [];
      lines = [];
      removed = [];
      synced = 0;
    }
told_before (link.Appended before line) =
    record before.value.value {
      times = suc before.value.value.times;
      appends = before.value.value.appends ++ line.value ∷ [];
    }
told_before (link.Wrote before written) =
    record before.value.value {
      times = suc before.value.value.times;
      lines = before.value.value.lines ++ written.value ∷ [];
    }
told_before (link.Removed before serial) =
    record before.value.value {
      times = suc before.value.value.times;
      removed = before.value.value.removed ++ serial.value ∷ [];
    }
told_before (link.Synced before buffer) =
    record before.value.value {
      times = suc before.value.value.times;
      synced = synced_at buffer.value.staged
          (length before.value.value.appends) before.value.value.synced;
    }
