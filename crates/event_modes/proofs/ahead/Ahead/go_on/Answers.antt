use Rattle.event_modes.proofs.Aheads.{scanned_end, scanned_need, scanned_bad, given_all}
use Rattle.event_modes.proofs.ahead.Ahead.go_on.Goals as goal

pub split_at-requires : goal.split_at-requires
split_at-requires c = c.requires.within

pub returns-in-End : goal.returns-in-End
returns-in-End c = record {
  right = scanned_end c.args.self.now c.args.unread.now _ c.requires c.split_at.ensures.back c.in-End.n (c.in-End.ensures.right _ c.requires.given);
  given = c.new.ensures c.args.unread.now;
}

pub returns-in-Need : goal.returns-in-Need
returns-in-Need c = record {
  right = scanned_need c.args.self.now c.args.unread.now _ c.requires c.split_at.ensures.back (c.in-Need.ensures.right _ c.requires.given);
  given = given_all c.args.self.now c.args.unread.now _ c.requires c.split_at.ensures.back _ (c.in-Need.ensures.after _ c.requires.given) (c.in-Need.ensures.right _ c.requires.given);
}

pub returns-in-Bad : goal.returns-in-Bad
returns-in-Bad c = record {
  right = scanned_bad c.args.self.now c.args.unread.now _ c.requires c.split_at.ensures.back c.in-Bad.fault (c.in-Bad.ensures.right _ c.requires.given);
  given = c.new-in-Bad.ensures c.args.unread.now;
}
