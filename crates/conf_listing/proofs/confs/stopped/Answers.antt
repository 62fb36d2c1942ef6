use Rattle.std.proofs.Common.{rules, ◌≡◌, ◌<◌, ◌++◌, [], List, ℕ, length, get_or, refl, arith}
use Rattle.std.specs.Borrow.{Bor}
use Rattle.conf_listing.proofs.EachConf.{listed_all, listed_more, listed_none}
use Rattle.conf_listing.proofs.confs.stopped.Goals as goal

pub loop-at-init : goal.loop-at-init
loop-at-init g c = listed_none c.args.names.now c.args.outcomes.now c.new-lines.result.items c.new-lines.ensures.items

pub loop-at-preserved : goal.loop-at-preserved
loop-at-preserved g c =
    let d : Bor (List ℕ) = record { ref_ptr = (0, 0); now = [] } in
    let less : c.loop-at.at < length c.args.names.now = omega arith in
    listed_more c.args.names.now c.args.outcomes.now c.loop-at.at (get_or c.args.names.now c.loop-at.at d) d c.index-outcomes-at.result c.loop-at.lines.items c.put_outcome.new.lines.items
    less c.loop-at-test.true refl c.index-outcomes-at.is c.loop-at.invariant c.in_ok-put_outcome.ensures

pub returns : goal.returns
returns g c =
    let are : c.extend_from_slice.new.self.items ≡ c.loop-at.lines.items ++ c.in_ok-behind.behind.items = search rules in
    record {
      said = c.loop-at.lines.items;
      each = listed_all c.args.names.now c.args.outcomes.now c.loop-at.at c.loop-at.lines.items c.requires c.loop-at-test.false c.loop-at.invariant;
      accepting = c.in_ok-behind.behind.items;
      lines_are = are;
      fault = c.is_any_faulty-has_fault.ensures;
    }
