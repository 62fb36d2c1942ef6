use Rattle.std.proofs.Common.{◌≤◌, ◌*◌}
use Rattle.std.specs.List.{AllByRecursion}
use Rattle.event_modes.specs.Rows.{AreItems}
use Rattle.event_listing.specs.Json.{IsNamed}
use Rattle.event_listing.specs.Walking.{pairs_of}
use Rattle.event_listing.proofs.names.have_names.Given as goal

abbrev pub invariant-loop-left : goal.invariant-loop-left
invariant-loop-left l = record {
  fewer : l.left ≤ l.fn.count;
  items : AreItems (2 * l.left) l.rest;
  named : AllByRecursion IsNamed (pairs_of l.left l.rest) → AllByRecursion IsNamed (pairs_of l.fn.count l.fn.pairs);
  back : AllByRecursion IsNamed (pairs_of l.fn.count l.fn.pairs) → AllByRecursion IsNamed (pairs_of l.left l.rest);
}

abbrev pub decreases-loop-left : goal.decreases-loop-left
decreases-loop-left l = l.left
