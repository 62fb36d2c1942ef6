use Rattle.std.proofs.Common.{ℕ, ◌≡◌, ◌+◌, List, ◌∷◌, length, refl, ap, ◌∙◌, arith, rules}
use Rattle.std.proofs.lemmas.List.{length-append}
use Rattle.tag_pattern.specs.Parts.{dot}
use Rattle.tag_pattern.specs.Prefixes.{prefixed_tag}
use Rattle.tag_pattern.proofs.tag.Tag.prefixed.Goals as goal

size : (front prefix tag : List ℕ) (n : ℕ) → front ≡ prefix → n ≡ length tag → length (prefixed_tag prefix tag) ≡ length front + 1 + n
size front prefix tag n f e = let same = ap length f in omega (arith, length-append prefix (dot ∷ tag))

pub returns-clause-too_long : goal.returns-clause-too_long
returns-clause-too_long g c =
    let n = size c.as_bytes-front.result.now c.args.prefix.now c.args.self.now c.len.result c.as_bytes-front.ensures.bytes (c.len.ensures ∙ c.self.inside.bytes.ok.0 ∙ ap length c.self.view_is) in
    (λ long. absurd (cc), λ long. absurd (omega arith))

pub returns-then-length-gt-MOST_TAG_BYTES-clause-too_long : goal.returns-then-length-gt-MOST_TAG_BYTES-clause-too_long
returns-then-length-gt-MOST_TAG_BYTES-clause-too_long g c =
    let n = size c.as_bytes-front.result.now c.args.prefix.now c.args.self.now c.len.result c.as_bytes-front.ensures.bytes (c.len.ensures ∙ c.self.inside.bytes.ok.0 ∙ ap length c.self.view_is) in
    (λ _. omega arith, λ _. refl)

pub returns-in_err-joined-clause-too_long : goal.returns-in_err-joined-clause-too_long
returns-in_err-joined-clause-too_long g c =
    let n = size c.as_bytes-front.result.now c.args.prefix.now c.args.self.now c.len.result c.as_bytes-front.ensures.bytes (c.len.ensures ∙ c.self.inside.bytes.ok.0 ∙ ap length c.self.view_is) in
    (search rules, λ long. absurd (omega arith))
