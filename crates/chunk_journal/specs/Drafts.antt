-- A replay under way, as the definitions speak of it.
use Rattle.chunk_journal.specs.declared.replaying.Draft.{Draft}
use Rattle.chunk_journal.specs.Replaying.{Place}

-- where it stands
abbrev pub place_of : {A : Type 0} → Draft A → Place
place_of draft = record { is_sealed = draft.is_sealed; state = draft.chunks }
