use Rattle.std.proofs.Common.{map}
use Rattle.std.specs.Prelude.{string_bytes}
use Rattle.conf_listing.proofs.EachConf.{outcomes_more}
use Rattle.conf_listing.proofs.confs.adapt_each.Goals as goal

pub loop-conf-preserved : goal.loop-conf-preserved
loop-conf-preserved g c =
    outcomes_more (map string_bytes c.args.accepted.now) c.args.confs.now c.loop-conf.conf-index c.conf-item.result c.deref.result.now c.loop-conf.outcomes.items c.push.new.self.items c.in_ok-adapt_conf.field-0
    c.loop-conf-test.true c.conf-item.is c.deref.ensures.value c.loop-conf.invariant c.in_ok-adapt_conf.ensures c.in_ok-push.ensures.items
