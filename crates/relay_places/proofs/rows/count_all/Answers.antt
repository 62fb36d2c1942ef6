use Rattle.relay_places.specs.Rows.{counted}
use Rattle.relay_places.proofs.Counting.{mapped_more, mapped_all}
use Rattle.relay_places.proofs.rows.count_all.Goals as goal

pub loop-row-preserved : goal.loop-row-preserved
loop-row-preserved g c =
    mapped_more (counted c.args.tallies.now c.args.second) c.args.rows.now c.loop-row.rows c.loop-row.row-index c.count.new.self _
    c.loop-row-test.true c.loop-row.invariant c.count.ensures

pub returns : goal.returns
returns g c =
    mapped_all (counted c.args.tallies.now c.args.second) c.args.rows.now c.loop-row.rows c.loop-row.row-index
    c.loop-row-test.false c.loop-row.invariant
