-- Where the entries of live chunks lie as a journal goes on.
use Rattle.std.proofs.Common.{◌≡◌, ℕ, ◌+◌, ◌-◌, List, [], ◌∷◌, ◌++◌, length, take, drop, sym, ap, subst, ◌∙◌, append_assoc, arith}
use Rattle.std.specs.List.{concat}
use Rattle.std.proofs.lemmas.List.{length-append, take_all}
use Rattle.std.proofs.Math.Seq.{drop-append_seam}
use Rattle.chunk_journal.specs.Records.{Record, Seal, Append, Queue, Purge, append_head, record_bytes}
use Rattle.chunk_journal.specs.Journal.{journal_bytes}
use Rattle.chunk_journal.specs.Meaning.{after}
use Rattle.chunk_journal.specs.Places.{Spots, ArePlaced, EndsAt, MovesPlaces, bytes_from, extent_before}
use Rattle.chunk_journal.specs.Laws.{PlacesFollow, LeadsInOrder}
use Rattle.chunk_journal.proofs.Appends.{record_split}
use Rattle.chunk_journal.proofs.Standing.{after_more}
use Rattle.journal_files.specs.Placings.{placing_of, MovesBy}
use Rattle.journal_files.specs.JournalLogs.{JournalLog, records_of, state_at_seal, state_of, IsJournalLog, begun}
use Rattle.journal_files.proofs.Cuts.{leads_of}

-- ---- a record's entries end where it ends

ends_there : (seen front body bytes : List ℕ) → body ≡ front ++ bytes → bytes ≡ bytes_from (seen ++ body) (extent_before (length (seen ++ body)) (length bytes))
ends_there seen front body bytes is =
    let all : seen ++ body ≡ (seen ++ front) ++ bytes = ap (λ (z : List ℕ). seen ++ z) is ∙ sym (append_assoc seen front bytes) in
    let at : length (seen ++ body) - length bytes ≡ length (seen ++ front) = omega (arith, ap length all, length-append (seen ++ front) bytes) in
    let behind : drop (length (seen ++ body) - length bytes) (seen ++ body) ≡ bytes =
    ap (λ (n : ℕ). drop n (seen ++ body)) at ∙ ap (drop (length (seen ++ front))) all ∙ drop-append_seam (seen ++ front) bytes in
    sym (ap (take (length bytes)) behind ∙ take_all (length bytes) bytes (omega arith))

pub ends_so : (seen : List ℕ) (item : Record) → EndsAt (seen ++ record_bytes item) item (length (seen ++ record_bytes item))
ends_so seen (Seal next) = tt
ends_so seen (Append serial tag entries) =
    (ends_there seen (append_head serial tag (length entries) (length (concat entries))) (record_bytes (Append serial tag entries)) (concat entries) (record_split serial tag entries), omega arith)
ends_so seen (Queue serial) = tt
ends_so seen (Purge serial) = tt

-- ---- one more record

pub moves_so : (item : Record) (end : ℕ) (old new : Spots) → MovesBy (placing_of item end) old new → MovesPlaces item end old new
moves_so (Seal next) end old new moves = moves
moves_so (Append serial tag entries) end old new moves = moves
moves_so (Queue serial) end old new moves = moves
moves_so (Purge serial) end old new moves = moves

pub placed_begun : (follow : PlacesFollow) (order : LeadsInOrder) (t : JournalLog) (item : Record) (old new : Spots) (end : ℕ) → IsJournalLog t
    → journal_bytes (records_of (begun item t)) ≡ journal_bytes (records_of t) ++ record_bytes item → end ≡ length (journal_bytes (records_of t)) + length (record_bytes item)
    → MovesPlaces item end old new → ArePlaced (journal_bytes (records_of t)) old (state_of t) → ArePlaced (journal_bytes (records_of (begun item t))) new (state_of (begun item t))
placed_begun follow order t item old new end is bytes end_is moves placed =
    let seen = journal_bytes (records_of t) in
    let more = record_bytes item in
    let whole : length (seen ++ more) ≡ end = length-append seen more ∙ sym end_is in
    let ends : EndsAt (seen ++ more) item end = subst (EndsAt (seen ++ more) item) whole (ends_so seen item) in
    let next : ArePlaced (seen ++ more) new (after (state_of t) item) = follow seen more old new (state_of t) item end (order (records_of t) (state_of t) (leads_of t is)) placed ends moves in
    subst (λ (b : List ℕ). ArePlaced b new (state_of (begun item t))) (sym bytes)
    (subst (ArePlaced (seen ++ more) new) (sym (after_more (state_at_seal t) t.steps (item ∷ []))) next)
