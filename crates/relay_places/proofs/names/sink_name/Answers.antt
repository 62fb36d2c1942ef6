use Rattle.std.proofs.lemmas.List.{append_assoc}
use Rattle.relay_places.proofs.names.sink_name.Goals as goal

pub returns : goal.returns
returns g c = simp append_assoc (rw c.as_str-sink.ensures.value at c.format.ensures.ok)
