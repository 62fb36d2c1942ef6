use Rattle.std.proofs.Common.{List, ℕ, inl, inr, map}
use Rattle.std.specs.Prelude.{string_bytes}
use Rattle.program_text.proofs.ReadingSteps.{none_read}
use Rattle.way_listing.proofs.Printing.{printed_ways}
use Rattle.way_listing.proofs.ways.run_ways.Goals as goal

pub returns : goal.returns
returns g c =
    let out = g.W.Write.contents in
    printed_ways (g.R.CountedRead.remaining c.args.conf.now) (map string_bytes c.args.tags.now) (out c.args.out.now) (out c.print_lines.new.out) c.print_lines.result c.in-Ok.relay c.list_ways.result c.in-Ok.ensures.relay c.list_ways.ensures
    c.print_lines.ensures

pub returns-in-Err : goal.returns-in-Err
returns-in-Err g c =
    let out = g.W.Write.contents in
    inr
    (inl
    (none_read (g.R.CountedRead.remaining c.args.conf.now) (out c.args.out.now) (out c.print_conf_stop.new.out) c.in-Err.stop c.print_conf_stop.result c.in-Err.ensures.stop
    c.print_conf_stop.ensures))
