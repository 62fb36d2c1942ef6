-- Texts that are shown, one behind another.
use Rattle.std.proofs.Common.{ℕ, List, [], ◌++◌, ◌≡◌, refl, sym, ap, ◌∙◌, subst, append_assoc, append-nil, Option, Some, None, Result, Ok, Err}
use Rattle.std.specs.Io.KnownBytes.{Appends}
use Rattle.std.proofs.KnownBytes.{Appends-nil, Appends-trans}
use Rattle.program_text.specs.Output.{TakesPart}
use Rattle.recent_lines.specs.Recent.{Keeps, Recent}
use Rattle.recent_lines.proofs.Kept.{keeps_append, keeps_nothing}
use Rattle.event_listing.specs.declared.stop.Stop.{Stop}
use Rattle.event_listing.specs.declared.stop.Stop.TheVariants.{Memory, Read, Output}
use Rattle.event_listing.specs.Shown.{IsKept, IsPut, IsShown, IsWritten, Shown, ShowsAll, ShowsPart}

-- ---- what is to be written

kept_none : (recent : Option Recent) → IsKept recent [] [] recent
kept_none None = (refl, refl)
kept_none (Some recent) = (recent, keeps_nothing recent, refl)

kept_more : (old mid now : Option Recent) (text more kept others : List ℕ) → IsKept old text kept mid → IsKept mid more others now → IsKept old (text ++ more) (kept ++ others) now
kept_more None mid now text more kept others (e, none) second =
    let behind = subst (λ m. IsKept m more others now) none second in
    (ap (λ t. t ++ others) e ∙ ap (λ t. text ++ t) behind.0, behind.1)
kept_more (Some recent) mid now text more kept others (last, keeps, some) second =
    let behind = subst (λ m. IsKept m more others now) some second in
    (behind.0, keeps_append recent last behind.0 text more kept others keeps behind.1, behind.2)

-- ---- what is written

-- all of the bytes are taken
pub taken : (old new : Option (List ℕ)) (text : List ℕ) → Appends old new text → TakesPart old new text []
taken old new text appends = record { written = text; appends = appends; whole = append-nil text }

-- what is taken of bytes behind others
taken_behind : (old mid new : Option (List ℕ)) (text behind unseen : List ℕ) → Appends old mid text → TakesPart mid new behind unseen → TakesPart old new (text ++ behind) unseen
taken_behind old mid new text behind unseen first more = record {
  written = text ++ more.written;
  appends = Appends-trans old mid new text more.written first more.appends;
  whole = append_assoc text more.written unseen ∙ ap (λ z. text ++ z) more.whole;
}

-- ---- texts

-- no text is shown
pub shows_none : (output : Shown) → ShowsAll output output []
shows_none output = record { kept = []; is_kept = kept_none output.recent; appends = Appends-nil output.written }

-- a text more is
pub shows_more : (old mid new : Shown) (text behind : List ℕ) → ShowsAll old mid text → ShowsAll mid new behind → ShowsAll old new (text ++ behind)
shows_more old mid new text behind first more = record {
  kept = first.kept ++ more.kept;
  is_kept = kept_more old.recent mid.recent new.recent text behind first.kept more.kept first.is_kept more.is_kept;
  appends = Appends-trans old.written mid.written new.written first.kept more.kept first.appends more.appends;
}

part_behind : (old mid new : Shown) (text behind unseen : List ℕ) → ShowsAll old mid text → ShowsPart mid new behind unseen → ShowsPart old new (text ++ behind) unseen
part_behind old mid new text behind unseen first more = record {
  kept = first.kept ++ more.kept;
  last = more.last;
  is_kept = kept_more old.recent mid.recent more.last text behind first.kept more.kept first.is_kept more.is_kept;
  takes = taken_behind old.written mid.written new.written first.kept more.kept unseen first.appends more.takes;
}

part_of_all : (old new : Shown) (text : List ℕ) → ShowsAll old new text → ShowsPart old new text []
part_of_all old new text all = record { kept = all.kept; last = new.recent; is_kept = all.is_kept; takes = taken old.written new.written all.kept all.appends }

-- all of a text is shown, and nothing more for whatever reason
pub shown_so : (old new : Shown) (text : List ℕ) (stop : Stop) → ShowsAll old new text → IsShown old new text stop
shown_so old new text Memory all = part_of_all old new text all
shown_so old new text Read all = all
shown_so old new text Output all = ([], part_of_all old new text all)

-- what is shown of a text behind another, behind which nothing more is
pub shown_behind : (old mid new : Shown) (text behind : List ℕ) (stop : Stop) → ShowsAll old mid text → IsShown mid new behind stop → IsShown old new (text ++ behind) stop
shown_behind old mid new text behind Memory first more = part_behind old mid new text behind [] first more
shown_behind old mid new text behind Read first more = shows_more old mid new text behind first more
shown_behind old mid new text behind Output first more = (more.0, part_behind old mid new text behind more.0 first more.1)

-- nothing of a text is written for want of memory
pub shown_lost : (old new : Shown) → new.written ≡ old.written → ShowsPart old new [] []
shown_lost old new same = record {
  kept = [];
  last = old.recent;
  is_kept = kept_none old.recent;
  takes = taken old.written new.written [] (subst (λ w. Appends old.written w []) (sym same) (Appends-nil old.written));
}

-- some of it is, whatever the reason
pub some_shown : (old new : Shown) (text : List ℕ) (stop : Stop) → IsShown old new text stop → (unseen : List ℕ) × ShowsPart old new text unseen
some_shown old new text Memory shown = ([], shown)
some_shown old new text Read shown = ([], part_of_all old new text shown)
some_shown old new text Output shown = shown

-- ---- a text that is put

-- all lines are written
pub all_put : (old new : Shown) (text : List ℕ) (result : Result (Unit {0}) Stop) → old.recent ≡ None → new.recent ≡ None → IsWritten old.written new.written text result → IsPut old new text result
all_put old new text (Ok done) before after takes = record {
  kept = takes.written;
  is_kept = subst (λ r. IsKept r text takes.written new.recent) (sym before) (sym (append-nil takes.written) ∙ takes.whole, after);
  appends = takes.appends;
}
all_put old new text (Err Output) before after takes =
    (takes.0, record { kept = text; last = None; is_kept = subst (λ r. IsKept r text text None) (sym before) (refl, refl); takes = takes.1 })
all_put old new text (Err Read) before after takes = absurd takes
all_put old new text (Err Memory) before after takes = absurd takes

-- the lines that repeat none are
pub unique_put : (old new : Shown) (text kept : List ℕ) (recent last : Recent) (result : Result (Unit {0}) Stop) → old.recent ≡ Some recent → new.recent ≡ Some last → Keeps recent text kept last
    → IsWritten old.written new.written kept result → IsPut old new text result
unique_put old new text kept recent last (Ok done) before after keeps takes = record {
  kept = takes.written;
  is_kept = subst (λ r. IsKept r text takes.written new.recent) (sym before) (last, subst (λ k. Keeps recent text k last) (sym takes.whole ∙ append-nil takes.written) keeps, after);
  appends = takes.appends;
}
unique_put old new text kept recent last (Err Output) before after keeps takes =
    (takes.0, record { kept = kept; last = Some last; is_kept = subst (λ r. IsKept r text kept (Some last)) (sym before) (last, keeps, refl); takes = takes.1 })
unique_put old new text kept recent last (Err Read) before after keeps takes = absurd takes
unique_put old new text kept recent last (Err Memory) before after keeps takes = absurd takes
