-- The text of an instant.
use Rattle.std.proofs.Common.{ℕ, ℤ, ◌≡◌, ◌≢◌, Bool, false, List, ◌∷◌, ◌++◌, length, Option, Some, None, MatchOption, Bor, refl, ap, ◌∙◌, inr, ⊎_elim}
use Rattle.jiff_core.specs.declared.timestamp.Timestamp.{Timestamp}
use Rattle.jiff_fmt.specs.declared.temporal.printer.DateTimePrinter.{DateTimePrinter}
use Rattle.jiff_fmt.specs.Printer.{options, IsTimestampText}
use Rattle.jiff_fmt.specs.Text.{datetime_text, zulu_text}
use Rattle.event_modes.specs.Entry.{IsEventTime}
use Rattle.event_listing.specs.Events.{IsInstant}

pub instant_text : (q p : DateTimePrinter) (t : Timestamp) (places : ℕ) (nanos : ℤ) (bytes text : List ℕ) → options q ≡ (false, 84, None) → options p ≡ (q.lowercase, q.separator, Some places)
    → t.nanosecond ≡ nanos → text ≡ bytes → IsTimestampText p t bytes → IsInstant places nanos text
instant_text q p t places nanos bytes text e f n same i =
    let l : p.lowercase ≡ false = ap (λ (o : Bool × ℕ × Option ℕ). o.0) f ∙ ap (λ (o : Bool × ℕ × Option ℕ). o.0) e in
    let s : p.separator ≡ 84 = ap (λ (o : Bool × ℕ × Option ℕ). o.1) f ∙ ap (λ (o : Bool × ℕ × Option ℕ). o.1) e in
    let r : p.precision ≡ Some places = ap (λ (o : Bool × ℕ × Option ℕ). o.2) f in
    record {
      shown = i.0;
      is = i.1 ∙ n;
      text_is = same ∙ i.2 ∙ ap (λ (x : Bool). datetime_text x p.separator p.precision i.0 ++ zulu_text x) l ∙ ap (λ (x : ℕ). datetime_text false x p.precision i.0 ++ zulu_text false) s
          ∙ ap (λ (x : Option ℕ). datetime_text false 84 x i.0 ++ zulu_text false) r;
    }

-- what doesn't have the first spelling of an EventTime is one where it has the second
pub second_spelling : (time : List ℕ) (o : Option (Bor (List ℕ))) → ((content : List ℕ) → length content ≡ 8 → time ≢ 0xd7 ∷ 0x00 ∷ content)
    → MatchOption o ((content : List ℕ) → length content ≡ 8 → time ≢ 0xc7 ∷ 0x08 ∷ 0x00 ∷ content) (λ content. (length content.now ≡ 8) × (time ≡ 0xc7 ∷ 0x08 ∷ 0x00 ∷ content.now))
    → MatchOption o (IsEventTime time → ⊥) (λ content. (is : IsEventTime time) × (is.content ≡ content.now))
second_spelling time None first second = λ is. ⊎_elim (first is.content is.eight) (second is.content is.eight) is.spelled
second_spelling time (Some content) first second = (record { content = content.now; eight = second.0; spelled = inr second.1 }, refl)
