use Rattle.std.proofs.Common.{Result, Ok, Err, OnOk, is_ok, if◌then◌else◌, ◌≡◌, ◌++◌, ◌∷◌, [], ℕ, List, append_assoc, codes, decimal, refl, ◌∙◌}
use Rattle.std.proofs.lemmas.Result.{on_ok_weaker}
use Rattle.folder_listing.specs.Files.{stage_text}
use Rattle.folder_listing.proofs.file.put_chunk.Goals as goal

-- a line by the pieces in which it is added
line_added : (a b c d e f g h i j tag old front behind some more new : List ℕ) → front ≡ a ++ (b ++ (c ++ (d ++ e))) → behind ≡ f ++ (g ++ (h ++ (i ++ (j ++ 10 ∷ [])))) → some ≡ old ++ front → more ≡ some ++ tag → new ≡ more ++ behind
    → new ≡ old ++ ((a ++ b ++ c ++ d ++ e ++ tag ++ f ++ g ++ h ++ i ++ j) ++ 10 ∷ [])
line_added a b c d e f g h i j tag old front behind some more new is ends first second last = rw (last, second, first, is, ends) (simp append_assoc refl)

-- what is added, where it is
added_at : {T E : Type 0} (result : Result T E) (old more new : List ℕ) → new ≡ (if is_ok result then old ++ more else old) → OnOk result (new ≡ old ++ more)
added_at (Ok x) old more new is = is
added_at (Err e) old more new is = tt

pub returns : goal.returns
returns g c =
    let facts = c.args.facts in
    on_ok_weaker c.extend_from_slice-3.result
    (line_added (codes "chunk ") (decimal facts.serial) (codes " ") (stage_text facts.stage) (codes " ") (codes " ") (decimal facts.count) (codes " entries ") (decimal facts.size) (codes " bytes") facts.tag.now c.args.lines.now.items
    c.as_bytes.result.now c.as_bytes-2.result.now c.extend_from_slice.new.self.items c.extend_from_slice-2.new.self.items c.extend_from_slice-3.new.self.items (c.as_bytes.ensures.value ∙ (rw c.stage_text-stage.ensures at c.in_ok-front.ensures.ok))
    (c.as_bytes-2.ensures.value ∙ c.in_ok-behind.ensures.ok) c.in_ok-extend_from_slice.ensures.items c.in_ok-extend_from_slice-2.ensures.items)
    (added_at c.extend_from_slice-3.result c.extend_from_slice-2.new.self.items c.as_bytes-2.result.now c.extend_from_slice-3.new.self.items c.extend_from_slice-3.ensures.items)
