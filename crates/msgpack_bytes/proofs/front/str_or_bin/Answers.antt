use Rattle.std.proofs.Common.{[], sym}
use Rattle.std.proofs.lemmas.List.{append-nil}
use Rattle.msgpack_bytes.proofs.Cuts.{no_rest}
use Rattle.msgpack_bytes.proofs.front.str_or_bin.Goals as goal

pub returns-in_err-content-clause-only : goal.returns-in_err-content-clause-only
returns-in_err-content-clause-only c content p = absurd (c.in_err-content.ensures.only c.args.item.now content [] p (sym (append-nil c.args.item.now)))

pub returns-then-is_empty-clause-only : goal.returns-then-is_empty-clause-only
returns-then-is_empty-clause-only c content p = (c.in_ok-content.ensures.only c.args.item.now content [] p (sym (append-nil c.args.item.now))).0

pub returns-else-is_empty-clause-only : goal.returns-else-is_empty-clause-only
returns-else-is_empty-clause-only c content p =
    no_rest _ c.if-is_empty.ensures (c.in_ok-content.ensures.only c.args.item.now content [] p (sym (append-nil c.args.item.now))).1

pub returns-in_err-content-clause-right : goal.returns-in_err-content-clause-right
returns-in_err-content-clause-right c =
    rw c.from_residual.ensures (λ content p. absurd (c.in_err-content.ensures.only c.args.item.now content [] p (sym (append-nil c.args.item.now))))

pub returns-else-is_empty-clause-right : goal.returns-else-is_empty-clause-right
returns-else-is_empty-clause-right c content p =
    no_rest _ c.if-is_empty.ensures (c.in_ok-content.ensures.only c.args.item.now content [] p (sym (append-nil c.args.item.now))).1
