use Rattle.std.proofs.Common.{Result, Ok, Err, OnOk, is_ok, if◌then◌else◌, ◌≡◌, ◌++◌, ◌∷◌, [], ℕ, List, append_assoc, codes, decimal, refl, ◌∙◌}
use Rattle.std.proofs.lemmas.Result.{on_ok_weaker}
use Rattle.plan_advice.proofs.site.Site.put.Goals as goal

-- a line by the pieces in which it is added
line_added : (a words b name c line d shown old front given some new : List ℕ) → front ≡ a ++ (words ++ (b ++ (name ++ (c ++ (line ++ d))))) → given ≡ old ++ front → some ≡ given ++ shown → new ≡ some ++ 10 ∷ []
    → new ≡ old ++ (a ++ (words ++ (b ++ (name ++ (c ++ (line ++ (d ++ (shown ++ 10 ∷ []))))))))
line_added a words b name c line d shown old front given some new is first second last = rw (last, second, first, is) (simp append_assoc refl)

-- what is added, where it is
added_at : {T E : Type 0} (result : Result T E) (old more new : List ℕ) → new ≡ (if is_ok result then old ++ more else old) → OnOk result (new ≡ old ++ more)
added_at (Ok x) old more new is = is
added_at (Err e) old more new is = tt

pub returns : goal.returns
returns g c =
    let shown = c.in_ok-line_text.field-0.now in
    on_ok_weaker c.extend_from_slice-3.result
    (λ last. (
      shown,
      line_added (codes "# ") c.args.words.now (codes " ") c.args.self.now.name.now (codes ", line ") (decimal c.args.self.now.line) (codes ": ") shown c.args.out.now.items c.as_bytes.result.now c.extend_from_slice.new.self.items
          c.extend_from_slice-2.new.self.items c.extend_from_slice-3.new.self.items (c.as_bytes.ensures.value ∙ c.in_ok-front.ensures.ok) c.in_ok-extend_from_slice.ensures.items c.in_ok-extend_from_slice-2.ensures.items last,
    ))
    (added_at c.extend_from_slice-3.result c.extend_from_slice-2.new.self.items (10 ∷ []) c.extend_from_slice-3.new.self.items c.extend_from_slice-3.ensures.items)
