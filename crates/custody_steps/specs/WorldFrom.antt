-- The world that what relays have and what was sent stand for.
use Rattle.std.specs.Prelude.{◌≡◌, ℕ, suc, ◌&&◌, not, List, [], ◌∷◌, nat_lt}
use Rattle.std.proofs.Common.{sym, ◌∙◌}
use mathlib.Core.Path.{contract'}
use Rattle.custody_store.specs.Contents.{buffer_of}
use Rattle.custody_store.specs.Places.{contents_at, closed_at}
use Rattle.custody_store.specs.declared.places.Places.{Places}
use Rattle.custody_store.specs.Book.{Delivery, Book}
use Rattle.custody_steps.specs.World.{World}

-- the delivery of this number, which a restart of its relay ended if it came later
abbrev pub open_after : (ℕ → ℕ) → ℕ → Delivery → Delivery
open_after closed number delivery =
    record delivery {
      is_open = delivery.is_open
          && not (nat_lt number (closed delivery.entrance.relay));
    }

-- the same of these deliveries, the first of which has this number
abbrev pub deliveries_from : (ℕ → ℕ) → ℕ → List Delivery → List Delivery
deliveries_from closed number [] = []
deliveries_from closed number (delivery ∷ deliveries) =
    open_after closed number delivery ∷ deliveries_from closed (suc number) deliveries

-- the world of what the relays have and of what was sent
abbrev pub world_from : {A : Type 0} → Places A → Book → World
world_from places book = record {
  buffers = λ place buffer. buffer_of (contents_at places place buffer);
  messages = book.messages;
  deliveries = deliveries_from (closed_at places) 0 book.deliveries;
  acknowledged = book.acknowledged;
}

-- The world that these stand for. Clauses of calls speak of it alone, and all in one way, so that
-- how it is kept matters to none of them.
pub record Shown {A : Type 0} (places : Places A) (book : Book) : Type 0 where
  pub world : World
  pub is : world ≡ world_from places book

-- There is one such world.
pub Shown-prop : {A : Type 0} (places : Places A) (book : Book) → IsProp (Shown places book)
Shown-prop places book one other = sym (to one) ∙ to other
  where
    to : (shown : Shown places book)
        → record { world = world_from places book; is = λ _. world_from places book } ≡ shown
    to shown = λ i. record { world = (contract' shown.is i).0; is = (contract' shown.is i).1 }
