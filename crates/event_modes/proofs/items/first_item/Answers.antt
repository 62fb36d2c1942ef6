use Rattle.std.proofs.Common.{length, subst, sym, ◌∙◌, arith}
use Rattle.std.proofs.lemmas.List.{take_all}
use Rattle.msgpack_bytes.specs.Item.{IsItemWithin}
use Rattle.event_modes.proofs.Counted.{only_item, some_items}
use Rattle.event_modes.proofs.Scans.{always_ends}
use Rattle.event_modes.proofs.items.first_item.Goals as goal

pub unreachable-requires : goal.unreachable-requires
unreachable-requires c = always_ends c.args.bytes.now c.scan.result (some_items c.args.count c.args.bytes.now c.requires.some c.requires.items) c.scan.ensures.right c.in_default.not-End

pub returns-then-count-eq1-clause-item : goal.returns-then-count-eq1-clause-item
returns-then-count-eq1-clause-item c = subst IsItemWithin (sym (c.split_at.ensures.front ∙ take_all (length c.args.bytes.now) c.args.bytes.now (omega arith))) (only_item c.args.count c.args.bytes.now c.if-count-eq1.true c.requires.items)
