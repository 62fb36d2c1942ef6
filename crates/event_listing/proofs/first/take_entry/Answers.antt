use Rattle.std.proofs.Common.{◌≤◌, length, refl, arith}
use Rattle.sink_series.proofs.Onward.{some_case}
use Rattle.event_listing.proofs.first.take_entry.Goals as goal

pub returns : goal.returns
returns g c =
    let found = some_case c.in_ok-first.field-0 c.in-Some.first _ _ c.in-Some.is c.in_ok-first.ensures in
    let short : length c.args.tag.now ≤ 1024 = omega (arith, c.if-tag-gt-LONGEST_TAG.false) in
    record {
      event = record { tag = c.args.tag.now; entry = c.in-Some.first.0.now };
      is = (record { short = short; stored = found.0 }, refl);
      first = found.1;
      text = c.in_ok-lines.ensures.0;
      printed = c.in_ok-lines.ensures.1;
      lines_are = c.in_ok-lines.ensures.2;
    }
