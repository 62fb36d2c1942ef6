use Rattle.std.proofs.Common.{ℕ, List, refl, sym, subst}
use Rattle.msgpack_bytes.specs.declared.answers.Head.TheVariants as head
use Rattle.msgpack_bytes.specs.Containers.{IsArray}
use Rattle.event_modes.proofs.Heads.{headed, no_array}
use Rattle.event_modes.proofs.Counted.{array_found}
use Rattle.event_modes.proofs.item.array_of.Goals as goal

pub new-requires : goal.new-requires
new-requires c =
    (array_found c.args.item.now c.split_at.result.1.now c.in-Array.count c.in-Array.next c.requires
    (headed c.args.item.now c.head.result c.in_ok-count.field-0 (head.Array c.in-Array.count c.in-Array.next) c.in_ok-count.was c.in-Array.is c.head.ensures.right) c.split_at.ensures.back).0

pub returns-in-Array : goal.returns-in-Array
returns-in-Array c =
    subst (λ (xs : List (List ℕ)). IsArray xs c.args.item.now) (sym c.new.ensures)
    (array_found c.args.item.now c.split_at.result.1.now c.in-Array.count c.in-Array.next c.requires
    (headed c.args.item.now c.head.result c.in_ok-count.field-0 (head.Array c.in-Array.count c.in-Array.next) c.in_ok-count.was c.in-Array.is c.head.ensures.right) c.split_at.ensures.back).1

pub returns-in_default : goal.returns-in_default
returns-in_default c =
    no_array c.args.item.now c.in_ok-count.field-0 (headed c.args.item.now c.head.result c.in_ok-count.field-0 c.in_ok-count.field-0 c.in_ok-count.was refl c.head.ensures.right) c.in_default.not-Array
