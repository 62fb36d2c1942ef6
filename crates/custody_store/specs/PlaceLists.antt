-- What the relays of a network have, by their places, as a list.
use Rattle.std.specs.Prelude.{ℕ, List, slice_get}
use Rattle.std.specs.Option.{option_map_or}
use Rattle.custody_store.specs.Contents.{Contents, contents_of, empty_contents}
use Rattle.custody_store.specs.declared.places.Place.{Place}

-- what this buffer of the relay at this place has, among these; nothing where there is none yet
abbrev pub contents_in : {A : Type 0} → List (Place A) → ℕ → ℕ → Contents
contents_in list p b = option_map_or (λ place. contents_of place.buffers.items b)
    (slice_get list p) empty_contents

-- the number below which the deliveries of the relay at this place have ended, among these
abbrev pub closed_in : {A : Type 0} → List (Place A) → ℕ → ℕ
closed_in list p = option_map_or (λ place. place.closed) (slice_get list p) 0
