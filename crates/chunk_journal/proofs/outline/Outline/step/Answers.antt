use Rattle.std.proofs.Common.{◌≡◌, ◌-◌, ◌+◌, ◌<◌, ◌≤◌, ℕ, Bool, true, false, List, length, drop, ap, sym, subst, ◌∙◌, arith}
use Rattle.std.specs.Prelude.{vec_len}
use Rattle.std.specs.Int.{w32, to_be_bytes}
use Rattle.std.proofs.lemmas.List.{length-append, length-drop}
use Rattle.chunk_journal.specs.Records.{Record, Seal, Append, Queue, Purge, body_of, record_bytes}
use Rattle.chunk_journal.specs.Places.{entries_size}
use Rattle.chunk_journal.specs.Reading.{Begins, parsed_of}
use Rattle.chunk_journal.specs.Drafts.{place_of}
use Rattle.chunk_journal.specs.Feeding.{Heard, Reads, IsAfter, TakesAt}
use Rattle.chunk_journal.proofs.Frames.{append_length}
use Rattle.chunk_journal.proofs.Fed.{shorter_behind, ends_behind, tail_is, going, reading, is_after, is_stopped, stepped, stayed, step_refused}
use Rattle.chunk_journal.proofs.outline.Outline.step.Goals as goal

-- a record's entries are among its bytes
entries_within : (item : Record) → entries_size item ≤ length (record_bytes item)
entries_within (Seal next) = omega arith
entries_within (Append serial tag entries) =
    let body = body_of (Append serial tag entries) in
    omega (arith, append_length serial tag entries, length-append (to_be_bytes w32 (length body)) body)
entries_within (Queue serial) = omega arith
entries_within (Purge serial) = omega arith

-- what stands behind a record that begins what is held, beside its entries, is no longer than all
-- that was fed, and than all that is held
module _ (held behind : List ℕ) (item : Record) (start len fed : ℕ) (b : Begins (drop start held) item behind) (e : length held ≡ len) (inv : (start ≤ len) × (len ≤ start + fed)) where
  entries_fit : entries_size item ≤ fed - length behind
  entries_fit =
      let n : length (drop start held) ≡ length (record_bytes item) + length behind = ap length b.whole ∙ length-append (record_bytes item) behind in
      omega (arith, n, length-drop start held, entries_within item, e, inv)

  behind_fits : length behind ≤ fed
  behind_fits = omega (arith, shorter_behind (drop start held) behind item b, length-drop start held, e, inv)

  left_shorter : (n : ℕ) → n ≡ len → (old : ℕ) → length (drop start held) ≡ old → length (drop (n - length behind) held) < old
  left_shorter n is old view =
      let tail = tail_is held behind item start n b (omega (arith, is, e), omega (arith, inv, e)) in
      omega (arith, ap length tail, shorter_behind (drop start held) behind item b, view)

  behind_held : length behind ≤ len
  behind_held = omega (arith, shorter_behind (drop start held) behind item b, length-drop start held, e)

  -- the outline's invariant holds where what stands behind the record begins
  left_held : (n : ℕ) → n ≡ len → (n - length behind ≤ len) × (len ≤ n - length behind + fed)
  left_held n is = (omega (arith, is), omega (arith, is, behind_fits))

pub overflow_sub-end : goal.overflow_sub-end
overflow_sub-end g c =
    let held = c.self.inside.held.items in
    let item : Record = parsed_of c.in-Whole.parsed in
    let back : c.split_at.result.1.now ≡ drop c.self.inside.start held = c.split_at.ensures.back ∙ ap (drop c.self.inside.start) c.as_slice.ensures.value in
    let b : Begins (drop c.self.inside.start held) item c.in-Whole.behind.now = subst (λ (z : List ℕ). Begins z item c.in-Whole.behind.now) back (rw c.in-Whole.is at c.in_ok-next_record.ensures) in
    let items : length held ≡ vec_len c.self.inside.held = ap length (sym c.as_slice.ensures.value) ∙ c.as_slice.ensures.len in
    behind_fits held c.in-Whole.behind.now item c.self.inside.start (vec_len c.self.inside.held) c.self.inside.fed b items c.self.invariant

pub take_record-requires : goal.take_record-requires
take_record-requires g c =
    let held = c.self.inside.held.items in
    let item : Record = parsed_of c.in-Whole.parsed in
    let back : c.split_at.result.1.now ≡ drop c.self.inside.start held = c.split_at.ensures.back ∙ ap (drop c.self.inside.start) c.as_slice.ensures.value in
    let b : Begins (drop c.self.inside.start held) item c.in-Whole.behind.now = subst (λ (z : List ℕ). Begins z item c.in-Whole.behind.now) back (rw c.in-Whole.is at c.in_ok-next_record.ensures) in
    let items : length held ≡ vec_len c.self.inside.held = ap length (sym c.as_slice.ensures.value) ∙ c.as_slice.ensures.len in
    entries_fit held c.in-Whole.behind.now item c.self.inside.start (vec_len c.self.inside.held) c.self.inside.fed b items c.self.invariant

pub overflow_sub-self : goal.overflow_sub-self
overflow_sub-self g c =
    let held = c.self.inside.held.items in
    let item : Record = parsed_of c.in-Whole.parsed in
    let back : c.split_at.result.1.now ≡ drop c.self.inside.start held = c.split_at.ensures.back ∙ ap (drop c.self.inside.start) c.as_slice.ensures.value in
    let b : Begins (drop c.self.inside.start held) item c.in-Whole.behind.now = subst (λ (z : List ℕ). Begins z item c.in-Whole.behind.now) back (rw c.in-Whole.is at c.in_ok-next_record.ensures) in
    let items : length held ≡ vec_len c.self.inside.held = ap length (sym c.as_slice.ensures.value) ∙ c.as_slice.ensures.len in
    let len : c.len.result ≡ vec_len c.self.inside.held = c.len.ensures in
    subst (λ (n : ℕ). length c.in-Whole.behind.now ≤ n) (sym len) (behind_held held c.in-Whole.behind.now item c.self.inside.start (vec_len c.self.inside.held) c.self.inside.fed b items c.self.invariant)

pub invariant_of-self-in-Whole : goal.invariant_of-self-in-Whole
invariant_of-self-in-Whole g c =
    let held = c.self.inside.held.items in
    let item : Record = parsed_of c.in-Whole.parsed in
    let back : c.split_at.result.1.now ≡ drop c.self.inside.start held =
    c.split_at.ensures.back ∙ ap (drop c.self.inside.start) c.as_slice.ensures.value in
    let b : Begins (drop c.self.inside.start held) item c.in-Whole.behind.now =
    subst (λ (z : List ℕ). Begins z item c.in-Whole.behind.now) back (rw c.in-Whole.is at c.in_ok-next_record.ensures) in
    let items : length held ≡ vec_len c.self.inside.held =
    ap length (sym c.as_slice.ensures.value) ∙ c.as_slice.ensures.len in
    let len : c.len.result ≡ vec_len c.self.inside.held = c.len.ensures in
    left_held held c.in-Whole.behind.now item c.self.inside.start (vec_len c.self.inside.held)
    c.self.inside.fed b items c.self.invariant c.len.result len

pub returns-else-not-branch-clause-shorter : goal.returns-else-not-branch-clause-shorter
returns-else-not-branch-clause-shorter g c = λ _.
    let held = c.self.inside.held.items in
    let item : Record = parsed_of c.in-Whole.parsed in
    let back : c.split_at.result.1.now ≡ drop c.self.inside.start held = c.split_at.ensures.back ∙ ap (drop c.self.inside.start) c.as_slice.ensures.value in
    let b : Begins (drop c.self.inside.start held) item c.in-Whole.behind.now = subst (λ (z : List ℕ). Begins z item c.in-Whole.behind.now) back (rw c.in-Whole.is at c.in_ok-next_record.ensures) in
    let items : length held ≡ vec_len c.self.inside.held = ap length (sym c.as_slice.ensures.value) ∙ c.as_slice.ensures.len in
    let len : c.len.result ≡ vec_len c.self.inside.held = c.len.ensures in
    let view : length (drop c.self.inside.start held) ≡ length c.args.self.now.rest = ap (λ (h : Heard). length h.rest) c.self.view_is in
    left_shorter held c.in-Whole.behind.now item c.self.inside.start (vec_len c.self.inside.held) c.self.inside.fed b items c.self.invariant c.len.result len (length c.args.self.now.rest) view

pub returns-in_err-take_record-in-Whole-clause-after : goal.returns-in_err-take_record-in-Whole-clause-after
returns-in_err-take_record-in-Whole-clause-after g c = λ seen a.
    let heard : Heard = record { place = place_of c.self.inside.draft; spots = c.self.inside.places; rest = drop c.self.inside.start c.self.inside.held.items; fed = c.self.inside.fed; is_damaged = c.self.inside.is_damaged } in
    let a0 : IsAfter heard seen = subst (λ (h : Heard). IsAfter h seen) (sym c.self.view_is) a in
    let off : heard.is_damaged ≡ false = ap (λ (h : Heard). h.is_damaged) c.self.view_is ∙ going c.args.self.now c.requires in
    is_after _ seen off a0.fed (stayed heard seen (reading heard seen off a0) (place_of c.take_record.new.draft) c.take_record.new.places c.in_err-take_record-in-Whole.ensures.place c.in_err-take_record-in-Whole.ensures.places)

pub returns-then-not-branch-clause-after : goal.returns-then-not-branch-clause-after
returns-then-not-branch-clause-after g c = λ seen a.
    let heard : Heard = record { place = place_of c.self.inside.draft; spots = c.self.inside.places; rest = drop c.self.inside.start c.self.inside.held.items; fed = c.self.inside.fed; is_damaged = c.self.inside.is_damaged } in
    let a0 : IsAfter heard seen = subst (λ (h : Heard). IsAfter h seen) (sym c.self.view_is) a in
    let off : heard.is_damaged ≡ false = ap (λ (h : Heard). h.is_damaged) c.self.view_is ∙ going c.args.self.now c.requires in
    let item : Record = parsed_of c.in-Whole.parsed in
    let back : c.split_at.result.1.now ≡ heard.rest = c.split_at.ensures.back ∙ ap (drop c.self.inside.start) c.as_slice.ensures.value in
    let b : Begins heard.rest item c.in-Whole.behind.now = subst (λ (z : List ℕ). Begins z item c.in-Whole.behind.now) back (rw c.in-Whole.is at c.in_ok-next_record.ensures) in
    let end : ℕ = c.self.inside.fed - length c.in-Whole.behind.now in
    let takes : TakesAt heard.place heard.spots item end (place_of c.take_record.new.draft) c.take_record.new.places false =
    subst (λ (t : Bool). TakesAt heard.place heard.spots item end (place_of c.take_record.new.draft) c.take_record.new.places t) c.if-not-branch.true c.in_ok-take_record-in-Whole.ensures.ok in
    let found = c.damaged-then-not-branch.ensures.found in
    is_stopped c.damaged-then-not-branch.new.self seen (ap (λ (h : Heard). h.is_damaged) found) (ap (λ (h : Heard). h.fed) found ∙ a0.fed)
    (step_refused heard seen (reading heard seen off a0) (place_of c.take_record.new.draft) c.take_record.new.places c.in-Whole.behind.now item end b takes)

pub returns-else-not-branch-clause-after : goal.returns-else-not-branch-clause-after
returns-else-not-branch-clause-after g c = λ seen a.
    let heard : Heard = record { place = place_of c.self.inside.draft; spots = c.self.inside.places; rest = drop c.self.inside.start c.self.inside.held.items; fed = c.self.inside.fed; is_damaged = c.self.inside.is_damaged } in
    let a0 : IsAfter heard seen = subst (λ (h : Heard). IsAfter h seen) (sym c.self.view_is) a in
    let off : heard.is_damaged ≡ false = ap (λ (h : Heard). h.is_damaged) c.self.view_is ∙ going c.args.self.now c.requires in
    let item : Record = parsed_of c.in-Whole.parsed in
    let r : Reads heard seen = reading heard seen off a0 in
    let back : c.split_at.result.1.now ≡ heard.rest = c.split_at.ensures.back ∙ ap (drop c.self.inside.start) c.as_slice.ensures.value in
    let b : Begins heard.rest item c.in-Whole.behind.now = subst (λ (z : List ℕ). Begins z item c.in-Whole.behind.now) back (rw c.in-Whole.is at c.in_ok-next_record.ensures) in
    let end : ℕ = c.self.inside.fed - length c.in-Whole.behind.now in
    let takes : TakesAt heard.place heard.spots item end (place_of c.take_record.new.draft) c.take_record.new.places true =
    subst (λ (t : Bool). TakesAt heard.place heard.spots item end (place_of c.take_record.new.draft) c.take_record.new.places t) c.if-not-branch.false c.in_ok-take_record-in-Whole.ensures.ok in
    let inv = c.self.invariant in
    let len = c.len.ensures in
    let items : length c.self.inside.held.items ≡ vec_len c.self.inside.held = ap length (sym c.as_slice.ensures.value) ∙ c.as_slice.ensures.len in
    let tail : drop (c.len.result - length c.in-Whole.behind.now) c.self.inside.held.items ≡ c.in-Whole.behind.now = tail_is c.self.inside.held.items c.in-Whole.behind.now item c.self.inside.start c.len.result b (omega (arith, len, items), omega (arith, inv, items)) in
    is_after _ seen off a0.fed (subst (λ (z : List ℕ). Reads (record heard { place = place_of c.take_record.new.draft; spots = c.take_record.new.places; rest = z }) seen) (sym tail)
    (stepped heard seen r (place_of c.take_record.new.draft) c.take_record.new.places c.in-Whole.behind.now item end b (ends_behind heard seen r c.in-Whole.behind.now item a0.fed b) takes))
