use Rattle.std.proofs.lemmas.List.{take_all}
use Rattle.conf_listing.specs.Items.{all_stand_for}
use Rattle.conf_listing.proofs.Accounting.{pairs_more}
use Rattle.conf_listing.proofs.adapting.Adapting.put_pairs.Goals as goal

pub loop-pair-preserved : goal.loop-pair-preserved
loop-pair-preserved g c =
    pairs_more (all_stand_for c.args.self.now.entries.items) c.args.pairs.now c.loop-pair.pair-index c.pair-item.result c.loop-pair.self.entries.items _ c.in_ok-row.row
    c.loop-pair-test.true c.pair-item.is c.in_ok-row.ensures c.loop-pair.invariant c.in_ok-push.ensures.items

pub returns : goal.returns
returns g c = rw (take_all c.loop-pair.pair-index c.args.pairs.now c.loop-pair-test.false) at c.loop-pair.invariant
