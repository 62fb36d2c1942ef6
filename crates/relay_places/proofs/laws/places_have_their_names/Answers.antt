use Rattle.relay_places.proofs.Naming.{places_named}
use Rattle.relay_places.proofs.laws.places_have_their_names.Goals as goal

pub returns : goal.returns
returns g c = λ relay folder places h. places_named _ relay folder places h
