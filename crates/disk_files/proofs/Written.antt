-- Which file of a folder in memory was written to last, over each change.
use Rattle.std.proofs.Common.{◌≡◌, ℕ, zero, suc, ◌+◌, ◌==◌, Bool, true, false, cond, List, [], ◌∷◌, ◌++◌, length, Option, Some, None, option_map, slice_get, slice_set, refl, sym, ◌∙◌, ap, arith, length-append}
use Rattle.std.specs.Option.{option_or}
use Rattle.std.proofs.lemmas.Grind.{common_steps}
use Rattle.disk_files.specs.Disk.{File, with_bytes}
use Rattle.disk_files.specs.Entry.{Entry}
use Rattle.disk_files.specs.Table.{ChangesAt}
use Rattle.disk_files.specs.Written.{place_written, last_place}
use Rattle.disk_files.proofs.Table.{same_entry}

same_count : (n : ℕ) → (n == n) ≡ true
same_count n = grind (arith, common_steps)

other_count : (m n : ℕ) (b : Bool) → (m == n) ≡ b → ((m ≡ n) → ⊥) → b ≡ false
other_count m n true same apart = absurd (apart (grind (arith, common_steps)))
other_count m n false same apart = refl

-- a change that writes nothing
pub none_written : (files : List Entry) → place_written files files ≡ None
none_written [] = refl
none_written (d ∷ rest) =
    ap (λ b. cond b (option_map (λ n. n + 1) (place_written rest rest)) (Some 0)) (same_count (length d.state.written)) ∙ ap (option_map (λ n. n + 1)) (none_written rest)

pub none_more : (files : List Entry) (e : Entry) → place_written files (files ++ e ∷ []) ≡ None
none_more [] e = refl
none_more (d ∷ rest) e =
    ap (λ b. cond b (option_map (λ n. n + 1) (place_written rest (rest ++ e ∷ []))) (Some 0)) (same_count (length d.state.written)) ∙ ap (option_map (λ n. n + 1)) (none_more rest e)

same_set : (before files : List Entry) (at : ℕ) (e g : Entry) → slice_get files at ≡ Some e → length g.state.written ≡ length e.state.written
    → place_written before (slice_set files at g) ≡ place_written before files
same_set before [] at e g got same = absurd (cc got)
same_set [] (d ∷ rest) zero e g got same = refl
same_set [] (d ∷ rest) (suc at) e g got same = refl
same_set (b ∷ before) (d ∷ rest) zero e g got same =
    ap (λ n. cond (n == length b.state.written) (option_map (λ n. n + 1) (place_written before rest)) (Some 0))
    (same ∙ ap (λ x. length x.state.written) (sym (same_entry d e got)))
same_set (b ∷ before) (d ∷ rest) (suc at) e g got same =
    ap (λ o. cond (length d.state.written == length b.state.written) (option_map (λ n. n + 1) o) (Some 0)) (same_set before rest at e g got same)

-- a change that writes to one file
written_set : (files : List Entry) (at : ℕ) (e g : Entry) → slice_get files at ≡ Some e → ((length g.state.written ≡ length e.state.written) → ⊥)
    → place_written files (slice_set files at g) ≡ Some at
written_set [] at e g got apart = absurd (cc got)
written_set (d ∷ rest) zero e g got apart =
    ap (λ b. cond b (option_map (λ n. n + 1) (place_written rest rest)) (Some 0))
    (other_count (length g.state.written) (length d.state.written) (length g.state.written == length d.state.written) refl
    (λ same. apart (same ∙ ap (λ x. length x.state.written) (same_entry d e got))))
written_set (d ∷ rest) (suc at) e g got apart =
    ap (λ b. cond b (option_map (λ n. n + 1) (place_written rest (slice_set rest at g))) (Some 0)) (same_count (length d.state.written))
    ∙ ap (option_map (λ n. n + 1)) (written_set rest at e g got apart) ∙ ap Some (omega arith)

module _ (files new : List Entry) (at : ℕ) (how : File → File) (c : ChangesAt at how files new) (past : List (List Entry)) where
  g : Entry
  g = record { name = c.entry.name; state = how c.entry.state; room = c.room; is_open = c.is_open }

  -- after a change that writes nothing, what was written to last is what was
  pub last_kept : ((f : File) → length (how f).written ≡ length f.written) → last_place new (files ∷ past) ≡ last_place files past
  unfolding g
  last_kept keeps =
      ap (λ o. option_or o (last_place files past))
      (ap (place_written files) c.set ∙ same_set files files at c.entry g c.found (keeps c.entry.state) ∙ none_written files)

  -- the same where the change isn't a moment of its own
  pub last_same : ((f : File) → length (how f).written ≡ length f.written) → last_place new past ≡ last_place files past
  unfolding g
  last_same keeps = by past
    where
      by : (p : List (List Entry)) → last_place new p ≡ last_place files p
      by [] = refl
      by (before ∷ earlier) = ap (λ o. option_or o (last_place before earlier)) (ap (place_written before) c.set ∙ same_set before files at c.entry g c.found (keeps c.entry.state))

  -- after a write it is this file
  pub last_moved : ((f : File) → (length (how f).written ≡ length f.written) → ⊥) → last_place new (files ∷ past) ≡ Some at
  unfolding g
  last_moved moves =
      ap (λ o. option_or o (last_place files past)) (ap (place_written files) c.set ∙ written_set files at c.entry g c.found (moves c.entry.state))

-- and after a file was made
pub last_made : (files mid more : List Entry) (e : Entry) (past : List (List Entry)) → mid ≡ files → more ≡ mid ++ e ∷ [] → last_place more (files ∷ past) ≡ last_place files past
last_made files mid more e past mid_is more_is =
    ap (λ o. option_or o (last_place files past)) (ap (place_written files) (more_is ∙ ap (λ fs. fs ++ e ∷ []) mid_is) ∙ none_more files e)

same_as : (n : ℕ) → (n == 0) ≡ true → n ≡ 0
same_as n is = grind (arith, common_steps)

apart_from : (n : ℕ) → (n == 0) ≡ false → n ≡ 0 → ⊥
apart_from n is none = grind (arith, common_steps)

-- after an append it is that file, unless nothing was appended
pub last_grown : (files new : List Entry) (at : ℕ) (bytes : List ℕ) → ChangesAt at (with_bytes bytes) files new → (past : List (List Entry)) (last mid after : Option ℕ) (past' : List (List Entry))
    → last ≡ last_place files past → mid ≡ last → past' ≡ files ∷ past → after ≡ cond (length bytes == 0) mid (Some at) → after ≡ last_place new past'
last_grown files new at bytes change past last mid after past' was same noted is =
    is ∙ by (length bytes == 0) refl ∙ ap (last_place new) (sym noted)
  where
    by : (b : Bool) → (length bytes == 0) ≡ b → cond b mid (Some at) ≡ last_place new (files ∷ past)
    by true none = same ∙ was ∙ sym (last_kept files new at (with_bytes bytes) change past (λ f. omega (arith, length-append f.written bytes, same_as (length bytes) none)))
    by false some = sym (last_moved files new at (with_bytes bytes) change past (λ f eq. apart_from (length bytes) some (omega (arith, length-append f.written bytes, eq))))
