use Rattle.std.proofs.Common.{◌≡◌, [], inl, refl, rules, subst, sym}
use Rattle.std.proofs.KnownBytes.{Appends-nil}
use Rattle.event_listing.specs.Notes.{IsJournalNote}
use Rattle.event_listing.proofs.notes.note_journal.Goals as goal

pub returns-in-Sealed-default-eq0 : goal.returns-in-Sealed-default-eq0
returns-in-Sealed-default-eq0 g c =
    let zero : c.in-Sealed-default-eq0.behind ≡ 0 = search rules in (
      [],
      [],
      subst (λ e. IsJournalNote c.args.name.now e []) (sym c.in-Sealed-default-eq0.is) (inl (zero, refl)),
      record { written = []; appends = Appends-nil (g.V.Write.contents c.args.notes.now); whole = refl },
    )
