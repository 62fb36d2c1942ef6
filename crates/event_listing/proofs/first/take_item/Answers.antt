use Rattle.std.proofs.Common.{ℕ, ◌≡◌, List, ap, subst, ◌∙◌}
use Rattle.sink_series.specs.Events.{Event}
use Rattle.sink_series.proofs.Onward.{some_case}
use Rattle.event_listing.specs.Lines.{IsPrintedOf}
use Rattle.event_listing.proofs.first.take_item.Goals as goal

pub returns : goal.returns
returns g c =
    let found = some_case c.in_ok-first.field-0 c.in-Some.first _ _ c.in-Some.is c.in_ok-first.ensures in
    let own : (let e : Event = record { tag = c.tag.result.now; entry = c.entry.result.now } in e) ≡ c.in-Some.first.0 =
    ap (λ (t : List ℕ). let e : Event = record { tag = t; entry = c.entry.result.now } in e) c.tag.ensures
    ∙ ap (λ (z : List ℕ). let e : Event = record { tag = c.in-Some.first.0.tag; entry = z } in e) c.entry.ensures in
    record {
      event = c.in-Some.first.0;
      is = found.0;
      first = found.1;
      text = c.in_ok-lines.ensures.0;
      printed = subst (λ e. IsPrintedOf c.args.choice.now e c.in_ok-lines.ensures.0) own c.in_ok-lines.ensures.1;
      lines_are = c.in_ok-lines.ensures.2;
    }
