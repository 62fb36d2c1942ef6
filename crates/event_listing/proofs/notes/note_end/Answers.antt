use Rattle.std.proofs.Common.{◌≡◌, [], inl, refl, rules, subst, sym}
use Rattle.std.proofs.KnownBytes.{Appends-nil}
use Rattle.event_listing.specs.Notes.{IsEndNote}
use Rattle.event_listing.proofs.notes.note_end.Goals as goal

pub returns-in-Ended-default-eq0 : goal.returns-in-Ended-default-eq0
returns-in-Ended-default-eq0 g c =
    let zero : c.in-Ended-default-eq0.behind ≡ 0 = search rules in (
      [],
      [],
      subst (λ e. IsEndNote c.args.name.now e []) (sym c.in-Ended-default-eq0.is) (inl (zero, refl)),
      record { written = []; appends = Appends-nil (g.V.Write.contents c.args.notes.now); whole = refl },
    )
