use Rattle.std.proofs.Common.{Some, sym}
use Rattle.msgpack_bytes.specs.declared.answers.Head.TheVariants as head
use Rattle.msgpack_bytes.proofs.Cuts.{bool_heads, one_head, some_head}
use Rattle.msgpack_bytes.proofs.front.next_bool.Goals as goal

pub returns-in_err-value-clause-only : goal.returns-in_err-value-clause-only
returns-in_err-value-clause-only c value front back p e =
    let h = c.head.ensures.only (Some (head.Bool value)) (bool_heads value c.args.bytes.now front back p e) in
    absurd (some_head _ c.head.result h c.in_err-value.was)

pub returns-in_default-clause-only : goal.returns-in_default-clause-only
returns-in_default-clause-only c value front back p e =
    let h = c.head.ensures.only (Some (head.Bool value)) (bool_heads value c.args.bytes.now front back p e) in
    c.in_default.not-Bool _ (sym (one_head _ _ c.head.result h c.in_ok-value.was))
