use Rattle.std.proofs.Common.{length, refl}
use Rattle.std.proofs.lemmas.Option.{slice_get_read, slice_get_past}
use Rattle.relay_net.proofs.index.OutputPlace.output.Goals as goal

pub returns-in-Some : goal.returns-in-Some
returns-in-Some g c =
    let scopes = c.args.relay.now.scopes.items in
    let at = rw c.deref.ensures.value at c.in-Some.ensures.lookup in
    rw (slice_get_read scopes (length scopes) c.args.self.scope c.in-Some.scope.now refl at.3.0 at.1) c.output_within.ensures

pub returns-in-None : goal.returns-in-None
returns-in-None g c =
    let at = rw c.deref.ensures.value at c.in-None.ensures.lookup in
    rw (slice_get_past c.args.relay.now.scopes.items c.args.self.scope at.3) refl
