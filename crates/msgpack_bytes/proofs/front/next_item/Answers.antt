use Rattle.std.proofs.Common.{length, take, drop, ap, sym, ◌∙◌}
use Rattle.std.proofs.lemmas.List.{take_at, drop_at}
use Rattle.msgpack_bytes.specs.declared.answers.Scan.TheVariants as scan
use Rattle.msgpack_bytes.proofs.Cuts.{item_ends, one_end}
use Rattle.msgpack_bytes.proofs.front.next_item.Goals as goal

pub returns-in-End-clause-only : goal.returns-in-End-clause-only
returns-in-End-clause-only c front back p e =
    let h = c.scan.ensures.only (scan.End (length front)) (item_ends c.args.bytes.now front back p e) in
    let ends = one_end _ _ (h ∙ c.in-End.is) in (
      c.split_at.ensures.front ∙ ap (λ xs. take c.in-End.end xs) e ∙ take_at front back c.in-End.end ends,
      c.split_at.ensures.back ∙ ap (λ xs. drop c.in-End.end xs) e ∙ drop_at front back c.in-End.end ends,
    )

pub returns-in_default-clause-only : goal.returns-in_default-clause-only
returns-in_default-clause-only c front back p e =
    let h = c.scan.ensures.only (scan.End (length front)) (item_ends c.args.bytes.now front back p e) in
    c.in_default.not-End _ (sym h)
