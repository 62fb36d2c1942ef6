-- What a restart leaves of the contents of buffers.
use Rattle.std.specs.Prelude.{◌≡◌, ◌==◌, ℕ, cond, Bool}
use Rattle.custody_store.specs.Contents.{Contents, restarted_chunks}
use Rattle.custody_store.specs.Places.{contents_at}
use Rattle.custody_store.specs.declared.places.Places.{Places}
use Rattle.relay_net.specs.Network.{Network, is_in_memory}

-- the contents of a buffer after its relay started again
abbrev pub restarted_contents : Bool → Contents → Contents
restarted_contents in_memory contents =
    record contents { chunks = restarted_chunks in_memory contents.chunks }

-- All buffers of the relay at this place started again, and no others.
abbrev pub AreRestarted : {A : Type 0} → Network A → Places A → Places A → ℕ → Type 0
AreRestarted net before after place = (p b : ℕ) → contents_at after p b ≡ cond (p == place)
    (restarted_contents (is_in_memory net p b) (contents_at before p b)) (contents_at before p b)
