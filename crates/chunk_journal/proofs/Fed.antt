-- What an outline has read of the bytes that were fed.
use Rattle.std.proofs.Common.{◌≡◌, inr, ℕ, ◌+◌, ◌-◌, ◌<◌, ◌≤◌, Bool, true, false, List, [], ◌∷◌, ◌++◌, length, take, drop, refl, sym, ap, subst, ◌∙◌, arith, append_assoc, append-nil}
use Rattle.std.specs.List.{concat}
use Rattle.std.specs.Int.{w16, w32, w64, to_be_bytes}
use Rattle.std.proofs.lemmas.List.{take_at, drop_at, length-append, drop-drop, length-drop}
use Rattle.buffer_state.specs.State.{State}
use Rattle.buffer_state.specs.Steps.{settled}
use Rattle.chunk_journal.specs.Laws.{EndsWithEntries}
use Rattle.chunk_journal.specs.Outlines.{IsOutlined}
use Rattle.chunk_journal.specs.Records.{Record, Seal, Append, Queue, Purge, body_of, record_bytes}
use Rattle.chunk_journal.specs.Journal.{IsTorn, journal_bytes}
use Rattle.chunk_journal.specs.Reading.{Begins}
use Rattle.chunk_journal.specs.Meaning.{after, EndsUnsealed, IsDamaged, IsReplayed}
use Rattle.chunk_journal.specs.Places.{Spots, places_at, LieAt, entries_at, ArePlaced, SamePlaces, EndsAt}
use Rattle.chunk_journal.specs.Replaying.{Place, SoFar}
use Rattle.chunk_journal.specs.Feeding.{Heard, HasFound, Reads, StandsAt, IsAfter, TakesAt}
use Rattle.chunk_journal.proofs.Coming.{comes_on, is_damaged, ends_unsealed, is_replayed}
use Rattle.chunk_journal.proofs.Placing.{lie_on, places_follow}
use Rattle.chunk_journal.proofs.Ordering.{stands_in_order}

-- ---- where a record's entries lie

split_fields : (a b c t n e : List ℕ) → a ++ (2 ∷ (b ++ (c ++ (t ++ (n ++ e))))) ≡ (a ++ (2 ∷ (b ++ (c ++ (t ++ n))))) ++ e
split_fields a b c t n e = sym (append_assoc a (2 ∷ (b ++ (c ++ (t ++ n)))) e
    ∙ ap (λ (z : List ℕ). a ++ (2 ∷ z)) (append_assoc b (c ++ (t ++ n)) e ∙ ap (λ (z : List ℕ). b ++ z) (append_assoc c (t ++ n) e ∙ ap (λ (z : List ℕ). c ++ z) (append_assoc t n e))))

front_of : (serial : ℕ) (tag : List ℕ) (entries : List (List ℕ)) → (front : List ℕ) × (record_bytes (Append serial tag entries) ≡ front ++ concat entries)
front_of serial tag entries = (
  to_be_bytes w32 (length (body_of (Append serial tag entries))) ++ (2 ∷ (to_be_bytes w64 serial ++ (to_be_bytes w16 (length tag) ++ (tag ++ to_be_bytes w32 (length entries))))),
  split_fields (to_be_bytes w32 (length (body_of (Append serial tag entries)))) (to_be_bytes w64 serial) (to_be_bytes w16 (length tag)) tag (to_be_bytes w32 (length entries)) (concat entries),
)

-- bytes within others
within_others : (before bytes behind all : List ℕ) (end : ℕ) → all ≡ before ++ (bytes ++ behind) → end + length behind ≡ length all → bytes ≡ take (length bytes) (drop (end - length bytes) all)
within_others before bytes behind all end whole ends =
    let n : length all ≡ length before + (length bytes + length behind) = ap length whole ∙ length-append before (bytes ++ behind) ∙ ap (λ (k : ℕ). length before + k) (length-append bytes behind) in
    let at : length before ≡ end - length bytes = omega (arith, n, ends) in
    sym (ap (λ (z : List ℕ). take (length bytes) (drop (end - length bytes) z)) whole ∙ ap (take (length bytes)) (drop_at before (bytes ++ behind) (end - length bytes) at) ∙ take_at bytes behind (length bytes) refl)

pub ends_there : (seen rest behind : List ℕ) (place : Place) (item : Record) (end : ℕ) → SoFar seen place rest → Begins rest item behind → end + length behind ≡ length seen → EndsAt seen item end
ends_there seen rest behind place (Seal next) end s b ends = tt
ends_there seen rest behind place (Append serial tag entries) end s b ends =
    let f = front_of serial tag entries in
    let before = journal_bytes s.records ++ f.0 in
    let whole : seen ≡ before ++ (concat entries ++ behind) =
    s.begins.whole ∙ ap (λ (z : List ℕ). journal_bytes s.records ++ z) (b.whole ∙ ap (λ (z : List ℕ). z ++ behind) f.1 ∙ append_assoc f.0 (concat entries) behind)
    ∙ sym (append_assoc (journal_bytes s.records) f.0 (concat entries ++ behind)) in
    (within_others before (concat entries) behind seen end whole ends, omega (arith, ends))
ends_there seen rest behind place (Queue serial) end s b ends = tt
ends_there seen rest behind place (Purge serial) end s b ends = tt

-- the entries of a record that comes last
pub ends_last : EndsWithEntries
ends_last seen (Seal next) = tt
ends_last seen (Append serial tag entries) =
    let f = front_of serial tag entries in
    let all = seen ++ record_bytes (Append serial tag entries) in
    let whole : all ≡ (seen ++ f.0) ++ (concat entries ++ []) =
    ap (λ (z : List ℕ). seen ++ z) (f.1 ∙ ap (λ (z : List ℕ). f.0 ++ z) (sym (append-nil (concat entries)))) ∙ sym (append_assoc seen f.0 (concat entries ++ [])) in
    (within_others (seen ++ f.0) (concat entries) [] all (length all) whole (omega arith), omega arith)
ends_last seen (Queue serial) = tt
ends_last seen (Purge serial) = tt

-- a record has bytes
pub shorter_behind : (rest behind : List ℕ) (item : Record) → Begins rest item behind → length behind < length rest
shorter_behind rest behind item b = omega (arith, ap length b.whole, length-append (record_bytes item) behind)

-- what stands behind a record, from the front of all
pub tail_is : (all behind : List ℕ) (item : Record) (start len : ℕ) → Begins (drop start all) item behind → (len ≡ length all) × (start ≤ length all) → drop (len - length behind) all ≡ behind
tail_is all behind item start len b at =
    let n : length all - start ≡ length (record_bytes item) + length behind = sym (length-drop start all) ∙ ap length b.whole ∙ length-append (record_bytes item) behind in
    let l = at.0 in
    let le = at.1 in
    let far : len - length behind ≡ start + length (record_bytes item) = omega (arith, n, l, le) in
    ap (λ (k : ℕ). drop k all) far ∙ sym (drop-drop (length (record_bytes item)) start all) ∙ ap (drop (length (record_bytes item))) b.whole ∙ drop_at (record_bytes item) behind (length (record_bytes item)) refl

-- ---- what was read

pub going : (heard : Heard) → (HasFound heard → ⊥) → heard.is_damaged ≡ false
going heard none = by heard.is_damaged refl
  where
    by : (b : Bool) → heard.is_damaged ≡ b → b ≡ false
    by true e = absurd (none e)
    by false e = refl

pub reading : (heard : Heard) (seen : List ℕ) → heard.is_damaged ≡ false → IsAfter heard seen → Reads heard seen
reading heard seen e a = subst (λ (b : Bool). StandsAt b heard seen) e a.stands

pub is_after : (heard : Heard) (seen : List ℕ) → heard.is_damaged ≡ false → heard.fed ≡ length seen → Reads heard seen → IsAfter heard seen
is_after heard seen e n r = record { fed = n; stands = subst (λ (b : Bool). StandsAt b heard seen) (sym e) r }

pub is_stopped : (heard : Heard) (seen : List ℕ) → heard.is_damaged ≡ true → heard.fed ≡ length seen → IsDamaged seen → IsAfter heard seen
is_stopped heard seen e n d = record { fed = n; stands = subst (λ (b : Bool). StandsAt b heard seen) (sym e) d }

-- places that are the same hold the same
placed_same : (seen : List ℕ) (old new : Spots) (state : State) → SamePlaces old new → ArePlaced seen old state → ArePlaced seen new state
placed_same seen old new state same placed = λ q. subst (λ (bytes : List ℕ). LieAt bytes (places_at new q) (entries_at state q)) (append-nil seen)
    (lie_on seen [] (places_at old q) (places_at new q) (entries_at state q) (entries_at state q) (placed q) (same q) refl)

module _ (heard : Heard) (seen : List ℕ) (r : Reads heard seen) where
  -- where the entries of the record that comes next end
  pub ends_behind : (behind : List ℕ) (item : Record) → heard.fed ≡ length seen → Begins heard.rest item behind → EndsAt seen item (heard.fed - length behind)
  ends_behind behind item fed b =
      let s = shorter_behind heard.rest behind item b in
      let w : length seen ≡ length (journal_bytes r.so_far.records) + length heard.rest = ap length r.so_far.begins.whole ∙ length-append (journal_bytes r.so_far.records) heard.rest in
      ends_there seen heard.rest behind heard.place item (heard.fed - length behind) r.so_far b (omega (arith, s, w, fed))

  -- one record more
  pub stepped : (place : Place) (spots : Spots) (behind : List ℕ) (item : Record) (end : ℕ) → Begins heard.rest item behind → EndsAt seen item end → TakesAt heard.place heard.spots item end place spots true
      → Reads (record heard { place = place; spots = spots; rest = behind }) seen
  stepped place spots behind item end b ends takes = record {
    so_far = comes_on seen heard.rest behind heard.place place r.so_far (record { item = item; begins = b; goes = takes.0 });
    placed = subst (ArePlaced seen spots) (sym takes.0.state) (subst (λ (bytes : List ℕ). ArePlaced bytes spots (after heard.place.state item)) (append-nil seen)
        (places_follow seen [] heard.spots spots heard.place.state item end (stands_in_order heard.place.is_sealed r.so_far.records heard.place.state r.so_far.stands) r.placed
        (subst (λ (bytes : List ℕ). EndsAt bytes item end) (sym (append-nil seen)) ends) takes.1));
  }

  -- a record for which there was no memory
  pub stayed : (place : Place) (spots : Spots) → place ≡ heard.place → SamePlaces heard.spots spots → Reads (record heard { place = place; spots = spots }) seen
  stayed place spots e same = record {
    so_far = subst (λ (p : Place). SoFar seen p heard.rest) (sym e) r.so_far;
    placed = subst (λ (p : Place). ArePlaced seen spots p.state) (sym e) (placed_same seen heard.spots spots heard.place.state same r.placed);
  }

  pub step_refused : (place : Place) (spots : Spots) (behind : List ℕ) (item : Record) (end : ℕ) → Begins heard.rest item behind → TakesAt heard.place heard.spots item end place spots false → IsDamaged seen
  step_refused place spots behind item end b takes =
      is_damaged seen heard.rest heard.place r.so_far (inr (record { item = item; behind = behind; begins = b; refused = takes }))

  -- a piece more
  pub held_more : (piece : List ℕ) (fed : ℕ) → Reads (record heard { rest = heard.rest ++ piece; fed = fed }) (seen ++ piece)
  held_more piece fed = record {
    so_far = record {
      records = r.so_far.records;
      begins = record { each = r.so_far.begins.each; whole = ap (λ (z : List ℕ). z ++ piece) r.so_far.begins.whole ∙ append_assoc (journal_bytes r.so_far.records) heard.rest piece };
      stands = r.so_far.stands;
    };
    placed = λ q. lie_on seen piece (places_at heard.spots q) (places_at heard.spots q) (entries_at heard.place.state q) (entries_at heard.place.state q) (r.placed q) refl refl;
  }

  -- the end
  pub outlined : (used : ℕ) → IsTorn heard.rest → heard.place.is_sealed ≡ true → heard.fed ≡ length seen → used + length heard.rest ≡ heard.fed → IsOutlined seen (settled heard.place.state) heard.spots used
  outlined used torn sealed fed ends = record {
    replayed = subst (IsReplayed seen (settled heard.place.state)) (omega (arith, fed, ends)) (is_replayed seen heard.rest heard.place (settled heard.place.state) r.so_far torn sealed refl);
    placed = r.placed;
  }

  pub unsealed : IsTorn heard.rest → heard.place.is_sealed ≡ false → EndsUnsealed seen
  unsealed torn e = ends_unsealed seen heard.rest heard.place r.so_far torn e
