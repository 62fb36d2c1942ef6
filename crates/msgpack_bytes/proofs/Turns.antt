-- One turn of a scan, on the bytes `front` that are read so far and the stack of what is missing.
use Rattle.std.proofs.Common.{ℕ, zero, suc, ◌≡◌, ◌+◌, ◌-◌, ◌<◌, ◌≤◌, Bool, true, false, List, [], ◌∷◌, ◌++◌, length, take, drop, slice_index, slice_set, refl, ap, sym, ◌∙◌, Ok, Err, arith, append_assoc, append-nil, length-append}
use Rattle.std.proofs.lemmas.List.{length-take-le, take-append-drop}
use Rattle.msgpack_bytes.specs.declared.answers.MsgFault.TheVariants as fault
use Rattle.msgpack_bytes.specs.Item.{longest, deepest, IsItemWithin}
use Rattle.msgpack_bytes.specs.Fault.{IsFaulty}
use Rattle.msgpack_bytes.specs.Run.{Missing, Reserved, Deep, then_, many, run}
use Rattle.msgpack_bytes.proofs.Items.{all_item, run_container}
use Rattle.msgpack_bytes.proofs.Opened.{Within, Shortest, shortest_beyond, shortest_item}
use Rattle.msgpack_bytes.proofs.Faults.{run_never, run_no_deeper}
use Rattle.msgpack_bytes.specs.Pieces.{owed, finish, Reads}
use Rattle.msgpack_bytes.proofs.Stack.{finish_done, finish_lacking, at_item, at_opens, owed_at_item, owed_at_opens}
use Rattle.msgpack_bytes.proofs.StepFacts.{IsWhole, IsOpening, IsLacking, BeginsContainer, BeginsWrong, whole_front, opening_front, run_whole, run_lacks}
use Rattle.msgpack_bytes.proofs.Scanned.{reserved_right, deep_right, long_right}

-- what a longer list has, if its front has it
shortest_more : (bytes front back : List ℕ) → Shortest front → bytes ≡ front ++ back → Shortest bytes
shortest_more bytes front back s e = record { long = s.long; rest = s.rest ++ back; whole = rw (e, s.whole) (append_assoc s.long s.rest back); beyond = s.beyond; before = s.before }

split : (front rest : List ℕ) (s : ℕ) → front ++ rest ≡ (front ++ take s rest) ++ drop s rest
split front rest s = ap (λ (xs : List ℕ). front ++ xs) (sym (take-append-drop s rest)) ∙ sym (append_assoc front (take s rest) (drop s rest))

-- so many bytes are missing at the least
owing : (front missing : List ℕ) (depth levels n : ℕ) → Reads front missing depth levels → owed missing levels ≡ suc n → run deepest front ≡ Err (Missing (owed missing levels))
owing front missing depth levels n reads e = let all = reads [] ∙ finish_lacking missing depth levels n e in rw append-nil at all

none_owing : (front missing : List ℕ) (depth levels : ℕ) → Reads front missing depth levels → owed missing levels ≡ 0 → run deepest front ≡ Ok []
none_owing front missing depth levels reads e = let all = reads [] ∙ finish_done missing depth levels e in rw append-nil at all

-- the least end passes the limit
overlong : (front more missing : List ℕ) (depth levels n : ℕ) → Within front → Reads (front ++ more) missing depth levels → owed missing levels ≡ n → 0 < length more → longest < length (front ++ more) + n → Shortest (front ++ more)
overlong front more missing depth levels zero w reads e some long =
    shortest_item front more w (none_owing (front ++ more) missing depth levels reads e) (omega arith) some
overlong front more missing depth levels (suc n) w reads e some long =
    shortest_beyond front more w (record { n = owed missing levels; missing = owing (front ++ more) missing depth levels n reads e; least = omega arith })

-- where nothing is owed any more, an item has ended
pub ended : (front missing : List ℕ) (depth levels : ℕ) → Reads front missing depth levels → owed missing levels ≡ 0 → length front ≤ longest → IsItemWithin front
ended front missing depth levels reads e short = record { item = all_item deepest front (none_owing front missing depth levels reads e); short = short }

module _ (front rest missing : List ℕ) (depth levels room k : ℕ) (reads : Reads front missing depth levels) (size : length missing ≡ 65) (innermost : levels ≡ suc k) (level : depth + levels ≡ 65)
    (top : 0 < slice_index missing k) (spent : room + length front + owed missing levels ≡ longest) where
  abbrev left : List ℕ
  left = slice_set missing k (slice_index missing k - 1)

  there : k < length missing
  there = omega arith

  one_less : owed missing levels ≡ suc (owed left levels)
  one_less = owed_at_item missing levels k innermost there top

  -- the next item is read, and then what else is owed
  next : (back : List ℕ) → run deepest (front ++ back) ≡ then_ (run depth back) (owed left levels) (finish left depth levels)
  next back = reads back ∙ at_item missing depth levels k back innermost there top

  within : Within front
  within =
      let less = one_less in
      record { n = owed missing levels; missing = owing front missing depth levels (owed left levels) reads less; least = omega arith }

  pub turn_wrong : BeginsWrong rest → IsFaulty fault.Reserved (front ++ rest)
  turn_wrong w =
      let f : run deepest (front ++ w.first ∷ []) ≡ Err Reserved = next (w.first ∷ []) ∙ rw (run_never depth w.first [] w.never) refl in
      reserved_right (front ++ rest) front w.rest w.first within (ap (λ (xs : List ℕ). front ++ xs) w.whole) f

  pub turn_deep : (may_open : Bool) → (may_open ≡ false → depth ≡ 0) → BeginsContainer may_open rest → IsFaulty fault.TooDeep (front ++ rest)
  turn_deep may_open bottom b =
      let flat : run depth (b.first ∷ []) ≡ Err Deep = rw (bottom b.refused) (run_no_deeper b.first [] b.container) in
      let f : run deepest (front ++ b.first ∷ []) ≡ Err Deep = next (b.first ∷ []) ∙ rw flat refl in
      deep_right (front ++ rest) front b.rest b.first within (ap (λ (xs : List ℕ). front ++ xs) b.whole) f

  lacking : (may_open : Bool) → (may_open ≡ false → depth ≡ 0) → (may_open ≡ true → 0 < depth) → (n : ℕ) → (s : ℕ) → (l : IsLacking may_open s rest) → run deepest (front ++ rest) ≡ Err (Missing (l.n + owed left levels))
  lacking true bottom above n s l =
      let lt : 0 < depth = above refl in
      let up : depth ≡ suc (depth - 1) = omega arith in
      let stop : run depth rest ≡ Err (Missing l.n) = rw up (run_lacks (depth - 1) l.n rest l.front) in
      next rest ∙ rw stop refl
  lacking false bottom above n s l =
      let stop : run depth rest ≡ Err (Missing l.n) = rw (bottom refl) (l.flat refl) in
      next rest ∙ rw stop refl

  pub turn_lacks : (may_open : Bool) (s : ℕ) → (may_open ≡ false → depth ≡ 0) → (may_open ≡ true → 0 < depth) → IsLacking may_open s rest → s - 1 ≤ room → Within (front ++ rest)
  turn_lacks may_open s bottom above l fits =
      let less = one_less in
      let size_is = l.all in
      let all = length-append front rest in
      record { n = l.n + owed left levels; missing = lacking may_open bottom above 0 s l; least = omega arith }

  pub turn_lacks_long : (may_open : Bool) (s : ℕ) → (may_open ≡ false → depth ≡ 0) → (may_open ≡ true → 0 < depth) → IsLacking may_open s rest → room < s - 1 → IsFaulty fault.TooLong (front ++ rest)
  turn_lacks_long may_open s bottom above l past =
      let less = one_less in
      let size_is = l.all in
      let all = length-append front rest in
      long_right (front ++ rest) (shortest_beyond front rest within (record { n = l.n + owed left levels; missing = lacking may_open bottom above 0 s l; least = omega arith }))

  -- a scalar of s bytes is read
  pub turn_whole : (s : ℕ) → IsWhole s rest → Reads (front ++ take s rest) left depth levels
  turn_whole s w = λ back. ap (run deepest) (append_assoc front (take s rest) back) ∙ next (take s rest ++ back) ∙ rw (run_whole depth (take s rest ++ back) back (whole_front rest back s w)) refl

  pub turn_whole_long : (s : ℕ) → IsWhole s rest → room < s - 1 → IsFaulty fault.TooLong (front ++ rest)
  turn_whole_long s w past =
      let less = one_less in
      let some = w.some in
      let taken = length-take-le s rest w.there in
      let all = length-append front (take s rest) in
      let same : front ++ rest ≡ (front ++ take s rest) ++ drop s rest = split front rest s in
      long_right (front ++ rest) (shortest_more (front ++ rest) (front ++ take s rest) (drop s rest) (overlong front (take s rest) left depth levels (owed left levels) within (turn_whole s w) refl (omega arith) (omega arith)) same)

  -- a header of s bytes is read, and so many items are missing on a level of their own
  pub turn_opens : (down s items : ℕ) → depth ≡ suc down → IsOpening s items rest → Reads (front ++ take s rest) (slice_set left levels items) down (levels + 1)
  turn_opens down s items up w = λ back. (
      let opened : run depth (take s rest ++ back) ≡ many (run down) items back = rw up (run_container down items (take s rest ++ back) back (opening_front rest back s items w)) in
      let fits : levels < length missing = omega arith in
      ap (run deepest) (append_assoc front (take s rest) back) ∙ reads (take s rest ++ back) ∙ at_opens missing down depth levels k items (take s rest ++ back) back innermost up fits top opened
      )

  pub owed_opens : (down items : ℕ) → depth ≡ suc down → owed (slice_set left levels items) (levels + 1) ≡ items + owed left levels
  owed_opens down items up = let fits : levels < length missing = omega arith in owed_at_opens missing levels k items innermost fits

  pub turn_opens_long : (down s items : ℕ) → depth ≡ suc down → IsOpening s items rest → room < s - 1 + items → IsFaulty fault.TooLong (front ++ rest)
  turn_opens_long down s items up w past =
      let less = one_less in
      let more = owed_opens down items up in
      let some = w.some in
      let taken = length-take-le s rest w.there in
      let all = length-append front (take s rest) in
      let same : front ++ rest ≡ (front ++ take s rest) ++ drop s rest = split front rest s in
      long_right (front ++ rest) (shortest_more (front ++ rest) (front ++ take s rest) (drop s rest) (overlong front (take s rest) (slice_set left levels items) down (levels + 1) (items + owed left levels) within (turn_opens down s items up w) more (omega arith) (omega arith)) same)
