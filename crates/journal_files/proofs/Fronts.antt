-- Pieces that tell a chunk: what each has, one behind another.
use Rattle.std.proofs.Common.{◌≡◌, ℕ, ◌+◌, ◌<◌, ◌≤◌, ◌^◌, List, [], ◌∷◌, ◌++◌, length, inl, inr, sym, ap, subst, ◌∙◌, append-nil, append_assoc, arith}
use Rattle.std.specs.Prelude.{◌⊎◌, cond, Result, Ok, Err, IfOk}
use Rattle.std.specs.List.{AllByRecursion, concat}
use Rattle.std.proofs.lemmas.List.{flat_map_more, length-append}
use Rattle.buffer_state.specs.declared.chunk.Stage.{Stage}
use Rattle.buffer_state.specs.declared.chunk.Stage.TheVariants.{Queued, Claimed}
use Rattle.buffer_state.specs.State.{Chunk, size, is_staged}
use Rattle.buffer_state.specs.Steps.{greatest_size}
use Rattle.event_modes.specs.Message.{longest_tag}
use Rattle.event_modes.specs.Rows.{IsStored}
use Rattle.chunk_journal.specs.Records.{Record, Append, Queue, append_fixed, append_head, body_of, longest_body, record_bytes, IsRecord}
use Rattle.chunk_journal.specs.Journal.{journal_bytes}
use Rattle.chunk_journal.specs.Meaning.{chunk_records}
use Rattle.file_pieces.specs.Pieces.{AreWithin, CanTake, piece_bytes, pieces_bytes}
use Rattle.file_pieces.specs.declared.piece.Piece.{Piece}
use Rattle.chunk_journal.specs.Places.{Spots, AddsPlace, extent_before}
use Rattle.chunk_journal.specs.declared.places.Extent.{Extent}
use Rattle.chunk_journal.proofs.Appends.{record_split}
use Rattle.chunk_journal.proofs.Frames.{append_length}

-- ---- one more piece

last_in : {X : Type 0} (P : X → Type 0) (items : List X) (x : X) → AllByRecursion P items → P x → AllByRecursion P (items ++ x ∷ [])
last_in P [] x each is = (is, tt)
last_in P (y ∷ items) x each is = (each.0, last_in P items x each.1 is)

module _ {A : Type 0} (old new : List (Piece A)) (piece : Piece A) (pushed : new ≡ old ++ piece ∷ []) where
  pub bytes_pushed : (seen : List ℕ) → pieces_bytes seen new ≡ pieces_bytes seen old ++ piece_bytes seen piece
  bytes_pushed seen = ap (pieces_bytes seen) pushed ∙ sym (flat_map_more (piece_bytes seen) [] old piece)

  pub within_pushed : (seen : List ℕ) → CanTake seen piece.places.now → AreWithin seen old → AreWithin seen new
  within_pushed seen can each = subst (AreWithin seen) (sym pushed) (last_in (λ (p : Piece A). CanTake seen p.places.now) old piece each can)

-- ---- an Append

front_is : (serial : ℕ) (tag found : List ℕ) (entries : List (List ℕ)) (count bytes : ℕ) → found ≡ tag → count ≡ length entries → bytes ≡ size entries → append_head serial found count bytes ≡ append_head serial tag (length entries) (size entries)
front_is serial tag found entries count bytes tag_is count_is size_is =
    ap (λ t. append_head serial t count bytes) tag_is ∙ ap (λ n. append_head serial tag n bytes) count_is ∙ ap (append_head serial tag (length entries)) size_is

-- bytes with the front and then the entries at their end
pub told_append : (old new front behind : List ℕ) (serial : ℕ) (tag found : List ℕ) (entries : List (List ℕ)) (count bytes : ℕ) → found ≡ tag → count ≡ length entries → bytes ≡ size entries
    → front ≡ append_head serial found count bytes → new ≡ old ++ (front ++ behind) → behind ≡ concat entries → new ≡ old ++ record_bytes (Append serial tag entries)
told_append old new front behind serial tag found entries count bytes tag_is count_is size_is spelled added all =
    added ∙ ap (λ l. old ++ (front ++ l)) all
    ∙ ap (λ l. old ++ (l ++ concat entries)) (spelled ∙ front_is serial tag found entries count bytes tag_is count_is size_is)
    ∙ ap (λ l. old ++ l) (sym (record_split serial tag entries))

within_body : (n tag entries : ℕ) → n ≡ append_fixed + tag + entries → tag ≤ longest_tag → entries ≤ greatest_size → n ≤ longest_body
within_body n tag entries is short small = omega (arith, is, short, small)

pub append_record : (serial : ℕ) (tag : List ℕ) (entries : List (List ℕ)) → serial < 2 ^ 64 → length tag ≤ longest_tag → size entries ≤ greatest_size → AllByRecursion IsStored entries → IsRecord (Append serial tag entries)
append_record serial tag entries fits short small stored =
    record { fields = record { serial_fits = fits; tag_fits = short; stored = stored }; short = within_body (length (body_of (Append serial tag entries))) (length tag) (size entries) (append_length serial tag entries) short small }

-- where it ends, behind so many bytes
pub append_end : (serial : ℕ) (tag found : List ℕ) (entries : List (List ℕ)) (count bytes : ℕ) (front : List ℕ) (len long more end : ℕ) → found ≡ tag → count ≡ length entries → bytes ≡ size entries → front ≡ append_head serial found count bytes
    → end ≡ len + (long + more) → long ≡ length front → more ≡ size entries → end ≡ len + length (record_bytes (Append serial tag entries))
append_end serial tag found entries count bytes front len long more end tag_is count_is size_is spelled end_is long_is more_is =
    let head : front ≡ append_head serial tag (length entries) (size entries) = spelled ∙ front_is serial tag found entries count bytes tag_is count_is size_is in
    end_is
    ∙ ap (λ (n : ℕ). len + (n + more)) (long_is ∙ ap length head)
    ∙ ap (λ (n : ℕ). len + (length (append_head serial tag (length entries) (size entries)) + n)) more_is
    ∙ ap (λ (n : ℕ). len + n) (sym (length-append (append_head serial tag (length entries) (size entries)) (concat entries)) ∙ sym (ap length (record_split serial tag entries)))

-- the place of its entries
pub adds_there : (serial : ℕ) (extent : Extent) (end own more bytes : ℕ) (old new : Spots) → extent ≡ extent_before end more → end ≡ own → more ≡ bytes → AddsPlace serial extent old new → AddsPlace serial (extent_before own bytes) old new
adds_there serial extent end own more bytes old new is end_is more_is adds =
    subst (λ (x : Extent). AddsPlace serial x old new) (is ∙ ap (λ (n : ℕ). extent_before n more) end_is ∙ ap (extent_before own) more_is) adds

-- ---- a chunk that isn't staged

pub if_ok : {T E : Type 0} (P Q : T → Type 0) (result : Result T E) → IfOk result P → ((x : T) → P x → Q x) → IfOk result Q
if_ok P Q (Ok x) is more = more x is
if_ok P Q (Err e) is more = tt

-- the Queue of a chunk in this stage
abbrev pub queueing : ℕ → Stage → List Record
queueing serial stage = cond (is_staged stage) [] (Queue serial ∷ [])

queued_so : (serial : ℕ) (found : Stage) → (found ≡ Queued) ⊎ (found ≡ Claimed) → queueing serial found ≡ Queue serial ∷ []
queued_so serial found (inl is) = ap (queueing serial) is
queued_so serial found (inr is) = ap (queueing serial) is

pub queue_is : (serial : ℕ) (kept found : Stage) → found ≡ kept → (found ≡ Queued) ⊎ (found ≡ Claimed) → queueing serial kept ≡ Queue serial ∷ []
queue_is serial kept found same waits = ap (queueing serial) (sym same) ∙ queued_so serial found waits

two_bytes : (old mid new one two : List ℕ) → mid ≡ old ++ one → new ≡ mid ++ two → new ≡ old ++ (one ++ (two ++ []))
two_bytes old mid new one two first second = second ∙ ap (λ l. l ++ two) first ∙ append_assoc old one two ∙ ap (λ l. old ++ (one ++ l)) (sym (append-nil two))

two_lengths : (len mid end : ℕ) (one two : List ℕ) → mid ≡ len + length one → end ≡ mid + length two → end ≡ len + length (one ++ (two ++ []))
two_lengths len mid end one two first second = omega (arith, first, second, length-append one (two ++ []), length-append {A = ℕ} two [])

module _ (serial : ℕ) (chunk : Chunk) (queued : queueing serial chunk.stage ≡ Queue serial ∷ []) where
  pub queued_bytes : (old mid new : List ℕ) → mid ≡ old ++ record_bytes (Append serial chunk.tag chunk.entries) → new ≡ mid ++ record_bytes (Queue serial) → new ≡ old ++ journal_bytes (chunk_records (serial, chunk))
  queued_bytes old mid new first second =
      subst (λ (q : List Record). new ≡ old ++ journal_bytes (Append serial chunk.tag chunk.entries ∷ q)) (sym queued)
      (two_bytes old mid new (record_bytes (Append serial chunk.tag chunk.entries)) (record_bytes (Queue serial)) first second)

  pub queued_length : (len mid end : ℕ) → mid ≡ len + length (record_bytes (Append serial chunk.tag chunk.entries)) → end ≡ mid + length (record_bytes (Queue serial)) → end ≡ len + length (journal_bytes (chunk_records (serial, chunk)))
  queued_length len mid end first second =
      subst (λ (q : List Record). end ≡ len + length (journal_bytes (Append serial chunk.tag chunk.entries ∷ q))) (sym queued)
      (two_lengths len mid end (record_bytes (Append serial chunk.tag chunk.entries)) (record_bytes (Queue serial)) first second)

  pub queued_records : IsRecord (Append serial chunk.tag chunk.entries) → IsRecord (Queue serial) → AllByRecursion IsRecord (chunk_records (serial, chunk))
  queued_records one two = (one, subst (AllByRecursion IsRecord) (sym queued) (two, tt))
