use Rattle.std.proofs.Common.{Some, length, drop, ap, sym, ◌∙◌, inl, inr}
use Rattle.msgpack_bytes.specs.declared.answers.Head.TheVariants as head
use Rattle.msgpack_bytes.specs.declared.format.Kind.TheVariants as kind
use Rattle.msgpack_bytes.proofs.Cuts.{cut_at, one_head, one_str, one_bin, str_or_bin}
use Rattle.msgpack_bytes.proofs.front.next_text.Goals as goal

pub returns-in-Str-clause-only : goal.returns-in-Str-clause-only
returns-in-Str-clause-only c front content back (inl p) e =
    let k = cut_at kind.Str c.args.bytes.now front content back p e in
    let h = c.head.ensures.only (Some (head.Str k.start (length front))) (k.after, k.within, k.short, k.spelled) in
    let same = one_str _ _ _ _ (one_head _ _ c.head.result h c.in_ok-start.was ∙ c.in-Str.is) in
    (rw (← same.0, ← same.1) k.content_is, c.split_at.ensures.back ∙ ap (λ n. drop n c.args.bytes.now) (sym same.1) ∙ k.behind back e)
returns-in-Str-clause-only c front content back (inr p) e =
    let k = cut_at kind.Bin c.args.bytes.now front content back p e in
    let h = c.head.ensures.only (Some (head.Bin k.start (length front))) (k.after, k.within, k.short, k.spelled) in
    absurd (str_or_bin _ _ _ _ (sym (one_head _ _ c.head.result h c.in_ok-start.was ∙ c.in-Str.is)))

pub returns-in-Bin-clause-only : goal.returns-in-Bin-clause-only
returns-in-Bin-clause-only c front content back (inl p) e =
    let k = cut_at kind.Str c.args.bytes.now front content back p e in
    let h = c.head.ensures.only (Some (head.Str k.start (length front))) (k.after, k.within, k.short, k.spelled) in
    absurd (str_or_bin _ _ _ _ (one_head _ _ c.head.result h c.in_ok-start.was ∙ c.in-Bin.is))
returns-in-Bin-clause-only c front content back (inr p) e =
    let k = cut_at kind.Bin c.args.bytes.now front content back p e in
    let h = c.head.ensures.only (Some (head.Bin k.start (length front))) (k.after, k.within, k.short, k.spelled) in
    let same = one_bin _ _ _ _ (one_head _ _ c.head.result h c.in_ok-start.was ∙ c.in-Bin.is) in
    (rw (← same.0, ← same.1) k.content_is, c.split_at-in-Bin.ensures.back ∙ ap (λ n. drop n c.args.bytes.now) (sym same.1) ∙ k.behind back e)

pub returns-in_default-clause-only : goal.returns-in_default-clause-only
returns-in_default-clause-only c front content back (inl p) e =
    let k = cut_at kind.Str c.args.bytes.now front content back p e in
    let h = c.head.ensures.only (Some (head.Str k.start (length front))) (k.after, k.within, k.short, k.spelled) in
    c.in_default.not-Str _ _ (sym (one_head _ _ c.head.result h c.in_ok-start.was))
returns-in_default-clause-only c front content back (inr p) e =
    let k = cut_at kind.Bin c.args.bytes.now front content back p e in
    let h = c.head.ensures.only (Some (head.Bin k.start (length front))) (k.after, k.within, k.short, k.spelled) in
    c.in_default.not-Bin _ _ (sym (one_head _ _ c.head.result h c.in_ok-start.was))
