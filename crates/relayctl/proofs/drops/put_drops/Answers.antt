use Rattle.std.proofs.Common.{rules, ◌≡◌, ◌++◌, [], false, arith, append-nil, length, sym, ◌∙◌}
use Rattle.relayctl.specs.Dropping.{drops_head, none}
use Rattle.relayctl.proofs.Dropping.{all_listed, no_name, said_more, some_there}
use Rattle.relayctl.proofs.drops.put_drops.Goals as goal

pub loop-name-init : goal.loop-name-init
loop-name-init g c =
    let start = c.args.lines.now.items ++ drops_head in
    let is : c.extend_from_slice.new.self.items ≡ start = search rules in
    ([], none, is ∙ sym (append-nil start))

pub loop-name-preserved : goal.loop-name-preserved
unfolding no_name
loop-name-preserved g c =
    said_more c.args.plan.now c.args.names.now c.loop-name.name-index no_name (c.args.lines.now.items ++ drops_head) c.loop-name.lines.items c.put_drop.new.lines.items c.loop-name-test.true c.loop-name.invariant c.in_ok-put_drop.ensures

pub returns : goal.returns
returns g c =
    let none_there : c.is_empty.result ≡ false = search rules in
    all_listed c.args.plan.now c.args.names.now c.loop-name.name-index c.args.lines.now.items c.loop-name.lines.items (some_there (length c.args.names.now) c.is_empty.result c.is_empty.ensures none_there) (omega arith) c.loop-name.invariant
