use Rattle.std.proofs.Common.{◌∙◌}
use Rattle.conf_listing.proofs.EachConf.{has_no_text, stopped_at, text_in, texts_more}
use Rattle.conf_listing.proofs.confs.texts_in.Goals as goal

pub loop-outcome-preserved : goal.loop-outcome-preserved
loop-outcome-preserved g c =
    let text = c.in_ok-from_slice-in-Text.field-0 in
    texts_more c.args.outcomes.now c.loop-outcome.outcome-index c.outcome-item.result c.loop-outcome.texts.items c.push.new.self.items text
    c.loop-outcome-test.true c.outcome-item.is c.loop-outcome.invariant
    (text_in c.outcome-item.result c.in-Text.found text.items c.in-Text.is (c.in_ok-from_slice-in-Text.ensures.items ∙ c.deref.ensures.value)) c.in_ok-push-in-Text.ensures.items

pub returns-in-Undecided : goal.returns-in-Undecided
returns-in-Undecided g c = record {
  texts = tt;
  stopped = stopped_at c.args.outcomes.now c.loop-outcome.outcome-index c.outcome-item.result c.loop-outcome-test.true c.outcome-item.is (has_no_text c.outcome-item.result c.in-Undecided.is);
}
