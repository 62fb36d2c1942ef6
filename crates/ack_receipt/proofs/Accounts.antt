-- The book accounts for the chunks, step by step.
use Rattle.std.proofs.Common.{◌≡◌, ◌⊎◌, inl, inr, ℕ, ◌+◌, ◌<◌, ◌≤◌, Bool, true, false, cond, List, [], ◌∷◌, ◌++◌, length, Option, Some, None, option_map, IsSome, refl, sym, ap, subst, ◌∙◌, arith, add-zero, zero-add}
use Rattle.std.specs.Prelude.{map, filter, sum_by, IfSome, IsSomeAnd, Contains, slice_index_or, Result, Ok, Err, OnOk, OnErr, drop, slice_get}
use Rattle.std.specs.Option.{option_map_or}
use Rattle.std.specs.List.Sorted.{IsStrictlySortedBy}
use Rattle.std.specs.Map.{lookup, keys_of}
use Rattle.std.specs.Ordering.{nat_cmp}
use Rattle.std.specs.BTreeMap.{is_at}
use Rattle.std.proofs.lemmas.Bool.{false≢true}
use Rattle.std.proofs.lemmas.List.{length-append}
use Rattle.std.proofs.lemmas.List.Elements.{Contains-append_left, Contains-append_right, Contains-append_cases, filter-append}
use Rattle.std.proofs.lemmas.List.Sums.{sum_by-append}
use Rattle.std.proofs.lemmas.Option.{same_Some}
use Rattle.buffer_state.specs.declared.chunk.Stage.{Stage}
use Rattle.buffer_state.specs.declared.chunk.Stage.TheVariants.{Staged, Queued, Claimed}
use Rattle.buffer_state.specs.State.{State, Chunk, IsAt, Numbered, chunk_at}
use Rattle.buffer_state.specs.Steps.{with_chunk, added, appended, restaged, queued_last, claimed, removed}
use Rattle.buffer_state.specs.Slots.{AreBelow}
use Rattle.buffer_state.proofs.Serials.{at_same, at_itself, other_way}
use Rattle.buffer_state.proofs.Slots.{set_at, removed_at, last_at, there as is_there}
use Rattle.book_audit.specs.declared.line.Line.{Line}
use Rattle.ack_receipt.specs.Told.{counts_of}
use Rattle.ack_receipt.specs.Books.{counted_first, is_to, counted_appends, IsKnown, IsAccounted}

-- Chunks by serial

-- how many entries a chunk has
abbrev many : Chunk → ℕ
many chunk = length chunk.entries

-- each live serial was given
pub below_next : (c : State) → AreBelow c.next (keys_of c.chunks) → (s : ℕ) → IsSome (chunk_at c s) → s < c.next
below_next c below s live = in_keys c.chunks s below live
  where
    in_keys : (es : List Numbered) (q : ℕ) → AreBelow c.next (keys_of es) → IsSome (lookup (is_at (nat_cmp q)) es) → q < c.next
    in_keys [] q below h = absurd (false≢true h)
    in_keys (e ∷ es) q below h = by (is_at (nat_cmp q) e.0) refl h (in_keys es q below.1)
      where
        by : (t : Bool) → is_at (nat_cmp q) e.0 ≡ t → IsSome (cond t (Some e.1) (lookup (is_at (nat_cmp q)) es)) → (IsSome (lookup (is_at (nat_cmp q)) es) → q < c.next) → q < c.next
        by true is h rest = subst (λ (k : ℕ). k < c.next) (sym (at_same q e.0 is)) below.0
        by false is h rest = rest h

-- What the book says of a serial

-- counts by serial are those of the chunks
lookup_counts : (es : List Numbered) (q : ℕ) → lookup (is_at (nat_cmp q)) (map (λ (numbered : Numbered). (numbered.0, length numbered.1.entries)) es) ≡ option_map many (lookup (is_at (nat_cmp q)) es)
lookup_counts [] q = refl
lookup_counts (e ∷ es) q = by (is_at (nat_cmp q) e.0) (lookup_counts es q)
  where
    by : (b : Bool) → lookup (is_at (nat_cmp q)) (map (λ (numbered : Numbered). (numbered.0, length numbered.1.entries)) es) ≡ option_map many (lookup (is_at (nat_cmp q)) es)
        → cond b (Some (length e.1.entries)) (lookup (is_at (nat_cmp q)) (map (λ (numbered : Numbered). (numbered.0, length numbered.1.entries)) es)) ≡ option_map many (cond b (Some e.1) (lookup (is_at (nat_cmp q)) es))
    by true rest = refl
    by false rest = rest

first_none : (first : List (ℕ × ℕ)) (s : ℕ) → (IsSome (lookup (is_at (nat_cmp s)) first) → ⊥) → counted_first first s ≡ 0
first_none first s none = by (lookup (is_at (nat_cmp s)) first) none
  where
    by : (o : Option ℕ) → (IsSome o → ⊥) → option_map_or (λ (count : ℕ). count) o 0 ≡ 0
    by None h = refl
    by (Some x) h = absurd (h refl)

pub has_first : (x : ℕ) (xs : List ℕ) → Contains (x ∷ xs) x
has_first x xs = (0, omega arith, refl)

has_later : (x y : ℕ) (xs : List ℕ) → Contains xs y → Contains (x ∷ xs) y
has_later x y xs h = Contains-append_right (x ∷ []) xs y h

lines_none : (lines : List Line) (s : ℕ) → (Contains (map (λ (line : Line). line.serial) lines) s → ⊥) → counted_appends lines s ≡ 0
lines_none [] s none = refl
lines_none (l ∷ ls) s none = by (is_at (nat_cmp s) l.serial) refl (lines_none ls s (λ h. none (has_later l.serial s (map (λ (line : Line). line.serial) ls) h)))
  where
    by : (b : Bool) → is_at (nat_cmp s) l.serial ≡ b → counted_appends ls s ≡ 0 → sum_by (λ (line : Line). line.count) (cond b (l ∷ filter (is_to s) ls) (filter (is_to s) ls)) ≡ 0
    by true at rest = absurd (none (subst (λ (t : ℕ). Contains (l.serial ∷ map (λ (line : Line). line.serial) ls) t) (sym (at_same s l.serial at)) (has_first l.serial (map (λ (line : Line). line.serial) ls))))
    by false at rest = rest

-- one line more
one_line : (line : Line) (q : ℕ) → counted_appends (line ∷ []) q ≡ cond (is_at (nat_cmp q) line.serial) line.count 0
one_line line q = by (is_at (nat_cmp q) line.serial)
  where
    by : (b : Bool) → sum_by (λ (l : Line). l.count) (cond b (line ∷ []) []) ≡ cond b line.count 0
    by true = zero-add line.count
    by false = refl

more_lines : (lines : List Line) (line : Line) (q : ℕ) → counted_appends (lines ++ line ∷ []) q ≡ counted_appends lines q + cond (is_at (nat_cmp q) line.serial) line.count 0
more_lines lines line q =
    ap (λ (ls : List Line). sum_by (λ (l : Line). l.count) ls) (filter-append (is_to q) lines (line ∷ []))
    ∙ sum_by-append (λ (l : Line). l.count) (filter (is_to q) lines) (filter (is_to q) (line ∷ []))
    ∙ ap (λ (n : ℕ). counted_appends lines q + n) (one_line line q)

map_last : (lines : List Line) (line : Line) → map (λ (l : Line). l.serial) (lines ++ line ∷ []) ≡ map (λ (l : Line). l.serial) lines ++ line.serial ∷ []
map_last [] line = refl
map_last (l ∷ ls) line = ap (λ (xs : List ℕ). l.serial ∷ xs) (map_last ls line)

one_contained : (x y : ℕ) → Contains (x ∷ []) y → x ≡ y
one_contained x y h = let z : h.0 ≡ 0 = (let lt = h.1 in omega arith) in subst (λ (n : ℕ). slice_index_or (x ∷ []) n y ≡ y) z h.2

known_more : (first : List (ℕ × ℕ)) (lines : List Line) (line : Line) (q : ℕ) → IsKnown first (lines ++ line ∷ []) q → IsKnown first lines q ⊎ (line.serial ≡ q)
known_more first lines line q (inl h) = inl (inl h)
known_more first lines line q (inr h) = by (Contains-append_cases (map (λ (l : Line). l.serial) lines) (line.serial ∷ []) q (subst (λ (xs : List ℕ). Contains xs q) (map_last lines line) h))
  where
    by : Contains (map (λ (l : Line). l.serial) lines) q ⊎ Contains (line.serial ∷ []) q → IsKnown first lines q ⊎ (line.serial ≡ q)
    by (inl old) = inl (inr old)
    by (inr new) = inr (one_contained line.serial q new)

-- The steps

still_some : (o p : Option Chunk) → option_map many o ≡ option_map many p → IsSome p → IsSome o
still_some None None e h = h
still_some None (Some y) e h = absurd (cc e)
still_some (Some x) p e h = refl

still_counts : (o p : Option Chunk) (n : ℕ) → option_map many o ≡ option_map many p → IfSome p (λ chunk. length chunk.entries ≡ n) → IfSome o (λ chunk. length chunk.entries ≡ n)
still_counts None p n e h = tt
still_counts (Some x) None n e h = absurd (cc e)
still_counts (Some x) (Some y) n e h = same_Some (many x) (many y) e ∙ h

module _ (c : State) (first : List (ℕ × ℕ)) (lines : List Line) (noted : List ℕ) (account : IsAccounted c first lines noted) where
  -- each chunk has as many entries as before
  pub accounted_same : (d : State) → d.next ≡ c.next → ((q : ℕ) → option_map many (chunk_at d q) ≡ option_map many (chunk_at c q)) → IsAccounted d first lines noted
  accounted_same d next same = record {
    there = λ q known. elim (account.there q known) [ inl live ↦ inl (still_some (chunk_at d q) (chunk_at c q) (same q) live) | inr gone ↦ inr gone ];
    counted = λ q. still_counts (chunk_at d q) (chunk_at c q) (counted_first first q + counted_appends lines q) (same q) (account.counted q);
    given = λ q known. rw next (account.given q known);
  }

  -- a chunk goes
  pub accounted_removed : (s : ℕ) → IsStrictlySortedBy nat_cmp (keys_of c.chunks) → IsAccounted (removed s c) first lines (noted ++ s ∷ [])
  accounted_removed s rising = record {
    there = λ q known. there q (is_at (nat_cmp s) q) refl (account.there q known);
    counted = λ q. subst (λ (o : Option Chunk). IfSome o (λ chunk. length chunk.entries ≡ counted_first first q + counted_appends lines q)) (sym (at q)) (counted q (is_at (nat_cmp s) q));
    given = account.given;
  }
    where
      at : (q : ℕ) → chunk_at (removed s c) q ≡ cond (is_at (nat_cmp s) q) None (chunk_at c q)
      at q = removed_at c.chunks s q rising

      there : (q : ℕ) (b : Bool) → is_at (nat_cmp s) q ≡ b → IsSome (chunk_at c q) ⊎ Contains noted q → IsSome (chunk_at (removed s c) q) ⊎ Contains (noted ++ s ∷ []) q
      there q true is (inr gone) = inr (Contains-append_left noted (s ∷ []) q gone)
      there q false is (inr gone) = inr (Contains-append_left noted (s ∷ []) q gone)
      there q true is (inl live) = inr (Contains-append_right noted (s ∷ []) q (subst (λ (t : ℕ). Contains (s ∷ []) t) (at_same s q is) (has_first s [])))
      there q false is (inl live) = inl (subst (λ (o : Option Chunk). IsSome o) (sym (at q ∙ ap (λ (b : Bool). cond b None (chunk_at c q)) is)) live)

      counted : (q : ℕ) (b : Bool) → IfSome (cond b None (chunk_at c q)) (λ chunk. length chunk.entries ≡ counted_first first q + counted_appends lines q)
      counted q true = tt
      counted q false = account.counted q

  -- a chunk comes into another stage
  restaged_at : (s q : ℕ) (stage : Stage) → option_map many (chunk_at (restaged s stage c) q) ≡ option_map many (chunk_at c q)
  restaged_at s q stage = by (chunk_at c s) refl
    where
      by : (o : Option Chunk) → chunk_at c s ≡ o → option_map many (chunk_at (option_map_or (λ chunk. with_chunk s (record chunk { stage = stage }) c) o c) q) ≡ option_map many (chunk_at c q)
      by None is = refl
      by (Some v) is = ap (option_map many) (set_at c.chunks s q v (record v { stage = stage }) is) ∙ at (is_at (nat_cmp s) q) refl
        where
          at : (b : Bool) → is_at (nat_cmp s) q ≡ b → option_map many (cond b (Some (record v { stage = stage })) (chunk_at c q)) ≡ option_map many (chunk_at c q)
          at true same = ap (option_map many) (sym is ∙ ap (λ (t : ℕ). chunk_at c t) (at_same s q same))
          at false other = refl

  restaged_next : (s : ℕ) (stage : Stage) → (restaged s stage c).next ≡ c.next
  restaged_next s stage = by (chunk_at c s)
    where
      by : (o : Option Chunk) → (option_map_or (λ chunk. with_chunk s (record chunk { stage = stage }) c) o c).next ≡ c.next
      by None = refl
      by (Some v) = refl

  pub accounted_queued : (s : ℕ) → IsAccounted (queued_last s c) first lines noted
  accounted_queued s = accounted_same (queued_last s c) (restaged_next s Queued) (λ q. restaged_at s q Queued)

-- a queued chunk isn't claimed
pub queued_is_not_claimed : (c : State) (s : ℕ) → IsAt Claimed (queued_last s c) s → ⊥
queued_is_not_claimed c s = by (chunk_at c s) refl
  where
    by : (o : Option Chunk) → chunk_at c s ≡ o → IsSomeAnd (chunk_at (option_map_or (λ chunk. with_chunk s (record chunk { stage = Queued }) c) o c) s) (λ chunk. chunk.stage ≡ Claimed) → ⊥
    by None is h = subst (λ (o : Option Chunk). IsSomeAnd o (λ chunk. chunk.stage ≡ Claimed)) is h
    by (Some v) is h = absurd (cc (subst (λ (o : Option Chunk). IsSomeAnd o (λ chunk. chunk.stage ≡ Claimed)) at h))
      where
        w : Chunk
        w = record v { stage = Queued }

        at : chunk_at (with_chunk s w c) s ≡ Some w
        at = set_at c.chunks s s v w is ∙ ap (λ (b : Bool). cond b (Some w) (chunk_at c s)) (at_itself s)

-- the first of the queue is claimed
pub accounted_claimed : (c : State) (first : List (ℕ × ℕ)) (lines : List Line) (noted : List ℕ) → IsAccounted c first lines noted → IsAccounted (claimed c) first lines noted
accounted_claimed c first lines noted account = by c.queue
  where
    by : (queue : List ℕ) → IsAccounted (option_map_or (λ serial. restaged serial Claimed (record c { queue = drop 1 queue })) (slice_get queue 0) c) first lines noted
    by [] = account
    by (s ∷ rest) =
        let other : IsAccounted (record c { queue = rest }) first lines noted = record { there = account.there; counted = account.counted; given = account.given } in
        accounted_same (record c { queue = rest }) first lines noted other (restaged s Claimed (record c { queue = rest })) (restaged_next (record c { queue = rest }) first lines noted other s Claimed)
        (λ q. restaged_at (record c { queue = rest }) first lines noted other s q Claimed)

-- the book begins
pub accounted_new : (c : State) → ((s : ℕ) → IsSome (chunk_at c s) → s < c.next) → IsAccounted c (counts_of c) [] []
accounted_new c below = record {
  there = λ q known. inl (live q known);
  counted = λ q. by q (chunk_at c q) (lookup_counts c.chunks q);
  given = λ q known. below q (live q known);
}
  where
    live : (q : ℕ) → IsKnown (counts_of c) [] q → IsSome (chunk_at c q)
    live q (inl h) = is (chunk_at c q) (subst (λ (o : Option ℕ). IsSome o) (lookup_counts c.chunks q) h)
      where
        is : (o : Option Chunk) → IsSome (option_map many o) → IsSome o
        is None h = h
        is (Some x) h = refl
    live q (inr h) = absurd (let lt = h.1 in omega arith)

    by : (q : ℕ) (o : Option Chunk) → lookup (is_at (nat_cmp q)) (counts_of c) ≡ option_map many o → IfSome o (λ chunk. length chunk.entries ≡ counted_first (counts_of c) q + counted_appends [] q)
    by q None is = tt
    by q (Some v) is = sym (ap (λ (o : Option ℕ). option_map_or (λ (count : ℕ). count) o 0 + 0) is ∙ add-zero (length v.entries))

-- entries are appended, and have a line
module _ (c : State) (first : List (ℕ × ℕ)) (lines : List Line) (noted : List ℕ) (account : IsAccounted c first lines noted)
    (s : ℕ) (tag : List ℕ) (entries : List (List ℕ)) (line : Line) (serial : line.serial ≡ s) (count : line.count ≡ length entries) where
  -- one line more counts for its own chunk alone
  lines_here : counted_first first s + counted_appends (lines ++ line ∷ []) s ≡ counted_first first s + counted_appends lines s + length entries
  lines_here =
      let e = more_lines lines line s in
      let b : is_at (nat_cmp s) line.serial ≡ true = ap (is_at (nat_cmp s)) serial ∙ at_itself s in
      let f : counted_appends (lines ++ line ∷ []) s ≡ counted_appends lines s + line.count = e ∙ ap (λ (b : Bool). counted_appends lines s + cond b line.count 0) b in
      omega (arith, f, count)

  lines_else : (q : ℕ) → is_at (nat_cmp q) s ≡ false → counted_appends (lines ++ line ∷ []) q ≡ counted_appends lines q
  lines_else q other = more_lines lines line q ∙ ap (λ (b : Bool). counted_appends lines q + cond b line.count 0) (ap (is_at (nat_cmp q)) serial ∙ other) ∙ add-zero (counted_appends lines q)

  -- to a live chunk
  accounted_grown : (v : Chunk) → chunk_at c s ≡ Some v → s < c.next → IsAccounted (with_chunk s (record v { entries = v.entries ++ entries }) c) first (lines ++ line ∷ []) noted
  accounted_grown v live below = record {
    there = λ q known. there q (known_more first lines line q known);
    counted = λ q. subst (λ (o : Option Chunk). IfSome o (λ chunk. length chunk.entries ≡ counted_first first q + counted_appends (lines ++ line ∷ []) q)) (sym (at q)) (counted q (is_at (nat_cmp s) q) refl);
    given = λ q known. given q (known_more first lines line q known);
  }
    where
      at : (q : ℕ) → chunk_at (with_chunk s (record v { entries = v.entries ++ entries }) c) q ≡ cond (is_at (nat_cmp s) q) (Some (record v { entries = v.entries ++ entries })) (chunk_at c q)
      at q = set_at c.chunks s q v (record v { entries = v.entries ++ entries }) live

      is_live : (q : ℕ) (b : Bool) → IsSome (chunk_at c q) → IsSome (cond b (Some (record v { entries = v.entries ++ entries })) (chunk_at c q))
      is_live q true h = refl
      is_live q false h = h

      stays : (q : ℕ) → IsSome (chunk_at c q) → IsSome (chunk_at (with_chunk s (record v { entries = v.entries ++ entries }) c) q)
      stays q h = subst (λ (o : Option Chunk). IsSome o) (sym (at q)) (is_live q (is_at (nat_cmp s) q) h)

      there : (q : ℕ) → IsKnown first lines q ⊎ (line.serial ≡ q) → IsSome (chunk_at (with_chunk s (record v { entries = v.entries ++ entries }) c) q) ⊎ Contains noted q
      there q (inl known) = elim (account.there q known) [ inl h ↦ inl (stays q h) | inr gone ↦ inr gone ]
      there q (inr here) = inl (stays q (subst (λ (t : ℕ). IsSome (chunk_at c t)) (sym serial ∙ here) (is_there (chunk_at c s) v live)))

      given : (q : ℕ) → IsKnown first lines q ⊎ (line.serial ≡ q) → q < c.next
      given q (inl known) = account.given q known
      given q (inr here) = subst (λ (t : ℕ). t < c.next) (sym serial ∙ here) below

      counted : (q : ℕ) (b : Bool) → is_at (nat_cmp s) q ≡ b → IfSome (cond b (Some (record v { entries = v.entries ++ entries })) (chunk_at c q)) (λ chunk. length chunk.entries ≡ counted_first first q + counted_appends (lines ++ line ∷ []) q)
      counted q true is =
          let old : length v.entries ≡ counted_first first s + counted_appends lines s = subst (λ (o : Option Chunk). IfSome o (λ chunk. length chunk.entries ≡ counted_first first s + counted_appends lines s)) live (account.counted s) in
          let n = length-append v.entries entries in
          let here = lines_here in
          let sum : length (v.entries ++ entries) ≡ counted_first first s + counted_appends (lines ++ line ∷ []) s = omega (arith, old, n, here) in
          subst (λ (t : ℕ). length (v.entries ++ entries) ≡ counted_first first t + counted_appends (lines ++ line ∷ []) t) (at_same s q is) sum
      counted q false other = subst (λ (n : ℕ). IfSome (chunk_at c q) (λ chunk. length chunk.entries ≡ counted_first first q + n)) (sym (lines_else q (other_way s q other))) (account.counted q)

  -- to a new chunk
  accounted_added : chunk_at c s ≡ None → c.next ≤ s → IsAccounted (added s tag entries c) first (lines ++ line ∷ []) noted
  accounted_added none above = record {
    there = λ q known. there q (known_more first lines line q known);
    counted = λ q. subst (λ (o : Option Chunk). IfSome o (λ chunk. length chunk.entries ≡ counted_first first q + counted_appends (lines ++ line ∷ []) q)) (sym (at q)) (counted q (is_at (nat_cmp q) s) refl (chunk_at c q) refl);
    given = λ q known. given q (known_more first lines line q known);
  }
    where
      at : (q : ℕ) → chunk_at (added s tag entries c) q ≡ option_map_or Some (chunk_at c q) (cond (is_at (nat_cmp q) s) (Some (record { tag = tag; entries = entries; stage = Staged })) None)
      at q = last_at c.chunks s q (record { tag = tag; entries = entries; stage = Staged })

      unknown : IsKnown first lines s → ⊥
      unknown known = let lt = account.given s known in omega arith

      new_live : (o : Option Chunk) (b : Bool) (n : Chunk) → b ≡ true → IsSome (option_map_or Some o (cond b (Some n) None))
      new_live None true n is = refl
      new_live None false n is = absurd (false≢true is)
      new_live (Some x) b n is = refl

      is_live : (o : Option Chunk) (n : Option Chunk) → IsSome o → IsSome (option_map_or Some o n)
      is_live None n h = absurd (false≢true h)
      is_live (Some x) n h = refl

      there : (q : ℕ) → IsKnown first lines q ⊎ (line.serial ≡ q) → IsSome (chunk_at (added s tag entries c) q) ⊎ Contains noted q
      there q (inl known) = elim (account.there q known) [ inl h ↦ inl (subst (λ (o : Option Chunk). IsSome o) (sym (at q)) (is_live (chunk_at c q) _ h)) | inr gone ↦ inr gone ]
      there q (inr here) = inl (subst (λ (t : ℕ). IsSome (chunk_at (added s tag entries c) t)) (sym serial ∙ here)
          (subst (λ (o : Option Chunk). IsSome o) (sym (at s)) (new_live (chunk_at c s) (is_at (nat_cmp s) s) (record { tag = tag; entries = entries; stage = Staged }) (at_itself s))))

      given : (q : ℕ) → IsKnown first lines q ⊎ (line.serial ≡ q) → q < s + 1
      given q (inl known) = let lt = account.given q known in omega arith
      given q (inr here) = omega (arith, here, serial)

      counted : (q : ℕ) (b : Bool) → is_at (nat_cmp q) s ≡ b → (o : Option Chunk) → chunk_at c q ≡ o
          → IfSome (option_map_or Some o (cond b (Some (record { tag = tag; entries = entries; stage = Staged })) None)) (λ chunk. length chunk.entries ≡ counted_first first q + counted_appends (lines ++ line ∷ []) q)
      counted q true is (Some x) live = absurd (cc (sym live ∙ ap (λ (t : ℕ). chunk_at c t) (at_same q s is) ∙ none))
      counted q true is None live =
          let f = first_none first s (λ h. unknown (inl h)) in
          let l = lines_none lines s (λ h. unknown (inr h)) in
          let here = lines_here in
          let sum : length entries ≡ counted_first first s + counted_appends (lines ++ line ∷ []) s = omega (arith, f, l, here) in
          subst (λ (t : ℕ). length entries ≡ counted_first first t + counted_appends (lines ++ line ∷ []) t) (sym (at_same q s is)) sum
      counted q false other (Some x) live =
          let old : length x.entries ≡ counted_first first q + counted_appends lines q = subst (λ (o : Option Chunk). IfSome o (λ chunk. length chunk.entries ≡ counted_first first q + counted_appends lines q)) live (account.counted q) in
          old ∙ ap (λ (n : ℕ). counted_first first q + n) (sym (lines_else q other))
      counted q false other None live = tt

  pub accounted_appended : IsSome (chunk_at c s) ⊎ (c.next ≤ s) → (IsSome (chunk_at c s) → s < c.next) → IsAccounted (appended s tag entries c) first (lines ++ line ∷ []) noted
  accounted_appended place below = by (chunk_at c s) refl
    where
      by : (o : Option Chunk) → chunk_at c s ≡ o → IsAccounted (option_map_or (λ chunk. with_chunk s (record chunk { entries = chunk.entries ++ entries }) c) o (added s tag entries c)) first (lines ++ line ∷ []) noted
      by None none = accounted_added none (elim place [ inl live ↦ absurd (false≢true (subst (λ (o : Option Chunk). IsSome o) none live)) | inr above ↦ above ])
      by (Some v) live = accounted_grown v live (below (is_there (chunk_at c s) v live))

-- a chunk is queued, where the call answers so
pub accounted_enqueue : {T E : Type 0} (c d : State) (first : List (ℕ × ℕ)) (lines : List Line) (noted : List ℕ) (s : ℕ) (r : Result T E) → OnOk r (d ≡ queued_last s c) → OnErr r (d ≡ c)
    → IsAccounted c first lines noted → IsAccounted d first lines noted
accounted_enqueue c d first lines noted s (Ok x) ok err account = subst (λ (z : State). IsAccounted z first lines noted) (sym ok) (accounted_queued c first lines noted account s)
accounted_enqueue c d first lines noted s (Err e) ok err account = subst (λ (z : State). IsAccounted z first lines noted) (sym err) account
