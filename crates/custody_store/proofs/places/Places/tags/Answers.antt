use Rattle.custody_store.proofs.PlaceLists.{held_in, held_there}
use Rattle.custody_store.proofs.places.Places.tags.Goals as goal

pub returns : goal.returns
returns g c event h =
    let covers = rw c.as_slice.ensures.value at c.in_ok-add_place_tags.ensures in
    let place = held_in c.args.self.now.list.items h.0 h.1 event h.2 in
    let buffer = held_there place.0.buffers.items h.1 event place.3 in
    covers.all event.tag (place.0, (h.0, place.1, place.2), (buffer.0, (h.1, buffer.1, buffer.2), (event.entry, buffer.3)))
