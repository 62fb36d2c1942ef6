use Rattle.std.proofs.Common.{◌≡◌, ◌+◌, ◌<◌, ◌++◌, ◌∷◌, length, take, ap, sym, ◌∙◌, subst, inl, inr, arith, rules}
use Rattle.std.specs.Str.{IsUtf8}
use Rattle.std.proofs.lemmas.Bool.{cases_lt}
use Rattle.numbered_files.specs.Names.{ten_digits}
use Rattle.folder_listing.specs.Files.{kind_text}
use Rattle.folder_counts.proofs.Owners.{none_numbered, none_readable, none_short}
use Rattle.folder_counts.proofs.names.numbered.Goals as goal

pub returns-in_default : goal.returns-in_default
returns-in_default c =
    let most = length (kind_text c.args.kind) + 12 in
    let short : length c.args.name.now < most = elim (cases_lt (length c.args.name.now) most) [
      | inl less ↦ less
      | inr long ↦ absurd (c.in_default.ensures (omega (arith, long, ap length c.ending_of-ending.ensures.text)))
    ] in
    none_short c.args.kind c.args.name.now short

pub returns-in_default-number : goal.returns-in_default-number
returns-in_default-number c =
    let name = c.args.name.now in
    let front = c.in-Some.front in
    let text = c.ending_of-ending.ensures.text in
    let at : front + (length (kind_text c.args.kind) + 12) ≡ length name = omega (arith, c.in-Some.ensures.0, c.in-Some.ensures.1, ap length text) in
    let path : c.split_at.result.0.now ≡ take front name = search rules in
    none_numbered c.args.kind name front at (λ number fits is. c.in_default-number.ensures number fits
    (c.as_bytes-2.ensures.value ∙ is ∙ ap (λ p. p ++ 46 ∷ (ten_digits number ++ 46 ∷ kind_text c.args.kind)) (sym path)
    ∙ ap (λ k. c.split_at.result.0.now ++ 46 ∷ (ten_digits number ++ 46 ∷ k)) (sym text)))

pub returns-in-Err : goal.returns-in-Err
returns-in-Err c =
    let name = c.args.name.now in
    let front = c.in-Some.front in
    let at : front + (length (kind_text c.args.kind) + 12) ≡ length name =
    omega (arith, c.in-Some.ensures.0, c.in-Some.ensures.1, ap length c.ending_of-ending.ensures.text) in
    let path : c.split_at.result.0.now ≡ take front name = search rules in
    none_readable c.args.kind name front at (λ utf8. c.in-Err.ensures.cases.0 (subst IsUtf8 (sym path) utf8))
