use Rattle.std.proofs.Common.{subst}
use Rattle.relay_net.specs.Lookups.{AreLookups}
use Rattle.relay_net.specs.Sources.{IsSourceIndex}
use Rattle.relay_net.proofs.net.Net.new.Goals as goal

pub invariant_of-result : goal.invariant_of-result
invariant_of-result g c = (
  c.requires,
  subst (AreLookups c.in-Ok.lookups.items) c.deref.ensures.value c.in-Ok.ensures,
  subst (IsSourceIndex c.in-Ok-new.sources) c.deref-2.ensures.value c.in-Ok-new.ensures,
)
