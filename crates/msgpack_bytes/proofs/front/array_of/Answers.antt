use Rattle.std.proofs.Common.{Some, length, sym, ◌∙◌}
use Rattle.msgpack_bytes.specs.declared.answers.Head.TheVariants as head
use Rattle.msgpack_bytes.proofs.Cuts.{array_heads, one_head, one_array}
use Rattle.msgpack_bytes.proofs.front.array_of.Goals as goal
use Rattle.msgpack_bytes.proofs.front.array_of.Goals.{in_default-via-in-Array+else-count-size, in_default-via-in_default}

pub returns-in_default-clause-only : goal.returns-in_default-clause-only
returns-in_default-clause-only c header inner p e =
    let h = c.head.ensures.only (Some (head.Array c.args.size (length header))) (array_heads c.args.size c.args.bytes.now header inner p e) in
    let same = one_head _ _ c.head.result h c.in_ok-count.was in
    elim c.in_default.branch [
      | in_default-via-in-Array+else-count-size w ↦ w.if-count-size.false (sym (one_array _ _ _ _ (same ∙ w.in-Array.is)).0)
      | in_default-via-in_default w ↦ w.in_default.not-Array _ _ (sym same)
    ]
