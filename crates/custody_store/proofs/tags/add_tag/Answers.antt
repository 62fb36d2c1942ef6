use Rattle.custody_store.proofs.Covering.{covers_one}
use Rattle.custody_store.proofs.tags.add_tag.Goals as goal

pub returns-then-has_text : goal.returns-then-has_text
returns-then-has_text g c =
    let there = (rw c.as_slice.ensures.value at c.has_text.ensures).0 c.if-has_text.true in
    record { still = λ t h. h; all = λ t e. rw e there }

pub returns : goal.returns
returns g c = covers_one c.args.tags.now.items c.push.new.self.items c.in_ok-copy.copy c.args.tag.now c.in_ok-push.ensures.items c.in_ok-copy.ensures.items
