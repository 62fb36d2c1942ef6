use Rattle.std.proofs.Common.{ℕ, Bool, List, Option, ◌≡◌, ◌∙◌, ap, false, None, Some}
use Rattle.jiff_core.specs.declared.civil.datetime.DateTime.{DateTime}
use Rattle.jiff_fmt.specs.Printer.{options, datetime_text as printer_text}
use Rattle.jiff_fmt.specs.Text.{datetime_text, zulu_text}
use Rattle.jiff_fmt.specs.declared.temporal.printer.DateTimePrinter.{DateTimePrinter}
use Rattle.folder_counts.proofs.Written.{then_text}
use Rattle.folder_counts.proofs.times.put_shown.Goals as goal

-- what the printer writes
printed_text : (first printer : DateTimePrinter) (text : List ℕ) (shown : DateTime) → options first ≡ (false, 84, None) → options printer ≡ (first.lowercase, first.separator, Some 9)
    → text ≡ printer_text printer shown → text ≡ datetime_text false 84 (Some 9) shown
printed_text first printer text shown start next is =
    is ∙ ap (λ (o : Bool × ℕ × Option ℕ). datetime_text o.0 o.1 o.2 shown) next ∙ ap (λ (o : Bool × ℕ × Option ℕ). datetime_text o.0 o.1 (Some 9) shown) start

pub returns : goal.returns
returns g c =
    let text = c.datetime_text-text.result in
    let shown : text.bytes ≡ datetime_text false 84 (Some 9) c.args.shown =
    printed_text c.new.result c.precision-printer.result text.bytes c.args.shown c.new.ensures c.precision-printer.ensures c.datetime_text-text.ensures in
    then_text c.extend_from_slice-2.result c.args.line.now.items c.extend_from_slice.new.self.items c.extend_from_slice-2.new.self.items c.as_bytes.result.now
    (datetime_text false 84 (Some 9) c.args.shown) (zulu_text false) c.in_ok-extend_from_slice.ensures.items (c.as_bytes.ensures.value ∙ (c.as_str.ensures.value ∙ shown)) c.extend_from_slice-2.ensures.items
