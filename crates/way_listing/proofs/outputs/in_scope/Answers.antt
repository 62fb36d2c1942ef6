use Rattle.std.proofs.Common.{◌≡◌, get_or, arith, subst, ◌∙◌, ap}
use Rattle.std.specs.List.{find}
use Rattle.relay_conf.specs.Buffers.{buffer_number}
use Rattle.relay_net.specs.Outputs.{is_numbered}
use Rattle.way_listing.proofs.Seeking.{none_more, found_at}
use Rattle.way_listing.proofs.outputs.in_scope.Goals as goal

pub returns-in-Some : goal.returns-in-Some
returns-in-Some g c =
    found_at (λ output. is_numbered (buffer_number output) c.args.buffer.0) (λ rule. rule.outputs.items) c.args.scope.now.matches.items c.loop-rule.rule-index c.rule-item.result _ c.loop-rule.invariant (omega arith)
    (subst (λ rules. c.rule-item.result ≡ get_or rules c.loop-rule.rule-index c.rule-item.result) c.deref-rule-items.ensures.value c.rule-item.is)
    (c.in-Some.ensures ∙ ap (find (λ output. is_numbered (buffer_number output) c.args.buffer.0)) c.deref.ensures.value)

pub loop-rule-preserved : goal.loop-rule-preserved
loop-rule-preserved g c =
    none_more (λ output. is_numbered (buffer_number output) c.args.buffer.0) (λ rule. rule.outputs.items) c.args.scope.now.matches.items c.loop-rule.rule-index c.rule-item.result c.loop-rule.invariant (omega arith)
    (subst (λ rules. c.rule-item.result ≡ get_or rules c.loop-rule.rule-index c.rule-item.result) c.deref-rule-items.ensures.value c.rule-item.is)
    (c.in_default.ensures ∙ ap (find (λ output. is_numbered (buffer_number output) c.args.buffer.0)) c.deref.ensures.value)
