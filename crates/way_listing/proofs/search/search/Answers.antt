use Rattle.std.proofs.Common.{◌≡◌, ◌<◌, ◌≤◌, length, length-append, take, get_or, sym, subst, arith, Contains}
use Rattle.std.proofs.lemmas.Bool.Decides.{leb_tells}
use Rattle.way_listing.specs.Sendings.{Sending, most_looked_at}
use Rattle.way_listing.proofs.Searching.{all_found, searched_none, searched_more}
use Rattle.way_listing.proofs.search.search.Goals as goal
use Rattle.way_listing.proofs.search.search.Goals.{then-loop-next-test+else-next-lt-MOST, else-loop-next-test}

pub loop-next-init : goal.loop-next-init
loop-next-init g c = (omega arith, searched_none c.args.net.now c.args.starts.items c.requires)

pub loop-next-preserved : goal.loop-next-preserved
loop-next-preserved g c =
    let old = c.loop-next.sent.items in
    let here : Sending = c.in_ok-here.here in
    let less : c.loop-next.next < length old = omega arith in
    let at : here ≡ get_or old c.loop-next.next here = subst (λ (x : Sending). x ≡ get_or old c.loop-next.next x) (sym c.in_ok-here.ensures) c.index.ensures in
    let more = c.in_ok-onward.ensures.new_is in
    let longer = length-append old c.in_ok-onward.ensures.more in
    let long : length old ≤ length c.onward.new.found.items = rw (more, longer) (omega arith) in
    (omega arith, searched_more c.args.net.now c.args.starts.items old c.onward.new.found.items c.loop-next.next here less at c.in_ok-onward.ensures c.loop-next.invariant.1)

pub returns : goal.returns
returns g c =
    let sent = c.loop-next.sent.items in
    let next = c.loop-next.next in
    let s = c.loop-next.invariant.1 in
    record {
      begin = s.begin;
      only = s.only;
      all = λ e. (let last : length sent ≤ next = grind (arith, leb_tells) in all_found c.args.net.now c.args.starts.items sent next last s);
      once = s.once;
      many = λ e. elim c.loop-next-test.branch [
        | then-loop-next-test+else-next-lt-MOST w ↦ grind (arith, leb_tells)
        | else-loop-next-test w ↦ grind (arith, leb_tells)
      ];
    }
