use Rattle.std.proofs.Common.{◌≡◌, ◌++◌, ◌<◌, length, rules, subst}
use Rattle.event_listing.specs.Reading.{longest_item}
use Rattle.folder_counts.specs.Tallies.{HeldView}
use Rattle.folder_counts.proofs.Tallied.{held_long}
use Rattle.folder_counts.proofs.events.HeldFeed.feed.Goals as goal

pub returns-then-len-gt-LONGEST_ITEM-clause-damaged :
    goal.returns-then-len-gt-LONGEST_ITEM-clause-damaged
returns-then-len-gt-LONGEST_ITEM-clause-damaged g c = λ seen more on e.
    let len : c.len.result ≡ length c.self.inside.bytes.items = search rules in
    let inside : longest_item < length c.self.inside.bytes.items = subst (λ n. longest_item < n) len c.if-len-gt-LONGEST_ITEM.true in
    held_long (g.S.Spelling.form) c.take.new.self (seen ++ c.args.piece.now) more (c.in_ok-take.ensures seen on)
    (subst (λ (held : HeldView). longest_item < length held.bytes) c.self.view_is inside)

pub returns-clause-fed : goal.returns-clause-fed
returns-clause-fed g c = c.in_ok-take.ensures
