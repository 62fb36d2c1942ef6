use Rattle.std.proofs.Common.{ℕ, Vec, map, sym}
use Rattle.std.specs.Prelude.{string_bytes}
use Rattle.conf_listing.specs.Printed.{is_among}
use Rattle.conf_listing.proofs.Accepting.{all_pass, one_fails, one_more}
use Rattle.conf_listing.proofs.adapted.are_named.Goals as goal

pub returns-then-not-is_named : goal.returns-then-not-is_named
returns-then-not-is_named g c =
    one_fails (λ (name : Vec ℕ g.row.A.Denot). is_among (map string_bytes c.args.names.now) name.items) c.args.wanted.now c.loop-name.name-index c.name-item.result c.loop-name-test.true c.name-item.is
    (sym (rw c.deref.ensures.value at c.if-not-is_named.ensures))

pub loop-name-preserved : goal.loop-name-preserved
loop-name-preserved g c =
    one_more (λ (name : Vec ℕ g.row.A.Denot). is_among (map string_bytes c.args.names.now) name.items) c.args.wanted.now c.loop-name.name-index c.name-item.result c.loop-name-test.true c.name-item.is
    (sym (rw c.deref.ensures.value at c.if-not-is_named.ensures)) c.loop-name.invariant

pub returns : goal.returns
returns g c = all_pass (λ (name : Vec ℕ g.row.A.Denot). is_among (map string_bytes c.args.names.now) name.items) c.args.wanted.now c.loop-name.name-index c.loop-name-test.false c.loop-name.invariant
