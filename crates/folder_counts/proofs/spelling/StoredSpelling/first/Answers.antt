use Rattle.std.proofs.Common.{[], refl, rules, subst, sym, arith}
use Rattle.std.proofs.lemmas.Int.{to_z-of_z}
use mir.Syntax.{w128}
use mir.Val.{SFits}
use Rattle.event_listing.specs.Events.{IsTimeOf}
use Rattle.sink_series.proofs.Onward.{some_case}
use Rattle.folder_counts.proofs.spelling.StoredSpelling.first.Goals as goal

pub returns : goal.returns
returns g c =
    let found = some_case c.in_ok-entry.field-0 (c.in-Some.entry, c.in-Some.behind) _ _ c.in-Some.is c.in_ok-entry.ensures in
    let nanos = c.time_of-nanos.result in
    let fits : SFits w128 nanos = search rules in
    record {
      event = record { tag = []; entry = c.in-Some.entry.now };
      is = (record { short = omega arith; stored = found.0 }, refl);
      first = found.1;
      time = subst (IsTimeOf c.in-Some.entry.now) (sym (to_z-of_z w128 nanos fits)) c.time_of-nanos.ensures;
    }
