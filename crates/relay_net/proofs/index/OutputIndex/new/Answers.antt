use Rattle.std.proofs.Common.{refl, ap, ◌∙◌}
use Rattle.std.specs.Option.{option_and_then}
use Rattle.relay_net.specs.Index.{output_in}
use Rattle.relay_net.proofs.Agreement.{places_are}
use Rattle.relay_net.proofs.index.OutputIndex.new.Goals as goal

pub returns : goal.returns
returns g c = λ buffer.
    ap (option_and_then (output_in c.args.relay.now)) (c.in_ok-add_scopes.ensures buffer ∙ rw (c.new.ensures.empty, c.deref.ensures.value) refl) ∙ places_are c.args.relay.now buffer
