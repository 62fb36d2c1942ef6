use Rattle.std.proofs.Common.{inl, inr, map}
use Rattle.std.specs.Prelude.{string_bytes}
use Rattle.way_listing.proofs.Printing.{printed_plan_ways}
use Rattle.way_listing.proofs.listing.run_plan_ways.Goals as goal

pub returns-in-Err : goal.returns-in-Err
returns-in-Err g c = inr (inl (record { stopped = c.in-Err.stop; is_stop = c.in-Err.ensures.stop; printed = c.print_plan_stop.ensures }))

pub returns : goal.returns
returns g c =
    let out = g.W.Write.contents in
    printed_plan_ways (g.R.CountedRead.remaining c.args.net.now) (g.O.Open.text_of c.args.files.now) (map string_bytes c.args.tags.now) (out c.args.out.now) (out c.print_lines.new.out) c.print_lines.result c.in-Ok.plan c.list_ways.result
    c.in-Ok.ensures.plan c.list_ways.ensures c.print_lines.ensures
