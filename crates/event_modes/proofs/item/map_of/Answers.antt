use Rattle.std.proofs.Common.{refl, sym, subst, ◌∙◌}
use Rattle.msgpack_bytes.specs.declared.answers.Head.TheVariants as head
use Rattle.event_modes.proofs.Heads.{headed, no_map}
use Rattle.event_modes.proofs.Counted.{map_found, pair_texts}
use Rattle.std.specs.List.{AllByRecursion}
use Rattle.msgpack_bytes.specs.Item.{IsItemWithin}
use Rattle.event_modes.proofs.item.map_of.Goals as goal

pub new-requires : goal.new-requires
new-requires c =
    (map_found c.args.item.now c.split_at.result.1.now c.in-Map.count c.in-Map.next c.requires
    (headed c.args.item.now c.head.result c.in_ok-count.field-0 (head.Map c.in-Map.count c.in-Map.next) c.in_ok-count.was c.in-Map.is c.head.ensures.right) c.split_at.ensures.back).0

pub returns-in-Map : goal.returns-in-Map
returns-in-Map c =
    let found = (map_found c.args.item.now c.split_at.result.1.now c.in-Map.count c.in-Map.next c.requires
    (headed c.args.item.now c.head.result c.in_ok-count.field-0 (head.Map c.in-Map.count c.in-Map.next) c.in_ok-count.was c.in-Map.is c.head.ensures.right) c.split_at.ensures.back).1 in
    let e = c.new.ensures ∙ found.2 in
    (found.0, found.1, e, record { pairs = found.0; whole = e; texts = subst (AllByRecursion IsItemWithin) (sym e) (pair_texts found.0 c.args.item.now c.requires found.1) })

pub returns-in_default : goal.returns-in_default
returns-in_default c =
    no_map c.args.item.now c.in_ok-count.field-0 (headed c.args.item.now c.head.result c.in_ok-count.field-0 c.in_ok-count.field-0 c.in_ok-count.was refl c.head.ensures.right) c.in_default.not-Map
