use Rattle.std.proofs.Common.{length}
use Rattle.std.specs.Prelude.{slice_range}
use Rattle.std.proofs.lemmas.Bool.{false≢true}
use Rattle.std.proofs.lemmas.Bool.Decides.{Decides-eqb}
use Rattle.std.proofs.lemmas.Slice.Eq.{slice_eq-Decides}
use Rattle.ack_receipt.proofs.Acknowledged.{takes_all, leaves_some, is_none}
use Rattle.ack_receipt.proofs.evidence.acknowledges.Goals as goal

pub returns-then-next-bytes : goal.returns-then-next-bytes
returns-then-next-bytes c =
    let part = slice_range c.args.bytes.now c.in-Value.start c.in-Value.end in
    takes_all c.args.bytes.now c.args.chunk.now c.in-Value.start c.in-Value.end c.in-Value.next c.eq.result c.in-Value.ensures.right c.in-Value.ensures.only c.if-next-bytes.true
    (slice_eq-Decides Decides-eqb part c.args.chunk.now c.eq.result c.eq.ensures)

pub returns-else-next-bytes : goal.returns-else-next-bytes
returns-else-next-bytes c =
    let tells = Decides-eqb c.in-Value.next (length c.args.bytes.now) in (
      λ t. absurd (c.if-next-bytes.false (tells.0 t)),
      λ a. absurd (leaves_some c.args.bytes.now c.args.chunk.now c.in-Value.start c.in-Value.end c.in-Value.next c.in-Value.ensures.only c.if-next-bytes.false a),
    )

pub returns-in-Need : goal.returns-in-Need
returns-in-Need c = (λ t. absurd (false≢true t), λ a. absurd (is_none c.args.bytes.now c.args.chunk.now c.read_ack.result c.in-Need.is c.read_ack.ensures.only a))
