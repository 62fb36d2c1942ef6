use Rattle.std.proofs.Common.{Some, length, sym}
use Rattle.msgpack_bytes.specs.declared.answers.Head.TheVariants as head
use Rattle.msgpack_bytes.proofs.Cuts.{map_heads, one_head}
use Rattle.msgpack_bytes.proofs.front.map_of.Goals as goal

pub returns-in_default-clause-only : goal.returns-in_default-clause-only
returns-in_default-clause-only c count header inner p e =
    let h = c.head.ensures.only (Some (head.Map count (length header))) (map_heads count c.args.bytes.now header inner p e) in
    c.in_default.not-Map _ _ (sym (one_head _ _ c.head.result h c.in_ok-count.was))
