use Rattle.std.proofs.Common.{◌≡◌, get_or, arith, subst}
use Rattle.relay_conf.specs.Buffers.{buffer_number}
use Rattle.relay_net.specs.Outputs.{is_numbered}
use Rattle.way_listing.specs.Outputs.{outputs_in}
use Rattle.way_listing.proofs.Seeking.{none_more, found_at}
use Rattle.way_listing.proofs.outputs.output_of.Goals as goal

pub returns-in-Some : goal.returns-in-Some
returns-in-Some g c =
    found_at (λ output. is_numbered (buffer_number output) c.args.buffer.0) outputs_in c.args.relay.now.scopes.items c.loop-scope.scope-index c.scope-item.result _ c.loop-scope.invariant (omega arith)
    (subst (λ scopes. c.scope-item.result ≡ get_or scopes c.loop-scope.scope-index c.scope-item.result) c.deref-scope-items.ensures.value c.scope-item.is)
    c.in-Some.ensures

pub loop-scope-preserved : goal.loop-scope-preserved
loop-scope-preserved g c =
    none_more (λ output. is_numbered (buffer_number output) c.args.buffer.0) outputs_in c.args.relay.now.scopes.items c.loop-scope.scope-index c.scope-item.result c.loop-scope.invariant (omega arith)
    (subst (λ scopes. c.scope-item.result ≡ get_or scopes c.loop-scope.scope-index c.scope-item.result) c.deref-scope-items.ensures.value c.scope-item.is)
    c.in_default.ensures
