use Rattle.std.proofs.Common.{[], ◌∷◌, ◌≡◌, ℕ, ◌<◌, length, get_or, drop, sym, ◌∙◌, ap, arith, refl}
use Rattle.std.proofs.lemmas.Bool.Decides.{nat_tests}
use Rattle.std.proofs.lemmas.Bool.{eq-eqb}
use Rattle.conf_text.specs.Quoted.{quoted}
use Rattle.conf_text.specs.Special.{with_front}
use Rattle.conf_text.proofs.Quotes.{quoted_nil, quoted_close, quoted_one, quoted_escape, quoted_embeds, quoted_stands, is_other, escape_is_ascii, special_rest}
use Rattle.conf_text.proofs.quoted.special_at.Goals as goal

pub returns-then-is_empty : goal.returns-then-is_empty
returns-then-is_empty c = quoted_nil c.args.mark c.args.text.now (grind (arith, nat_tests))

pub returns-then-first-mark : goal.returns-then-first-mark
returns-then-first-mark c =
    let some : 0 < length c.args.text.now = grind (arith, nat_tests) in
    (some, omega arith, quoted_close c.args.mark c.args.text.now some (eq-eqb _ _ c.if-first-mark.true))

pub returns-then-text-eq1 : goal.returns-then-text-eq1
returns-then-text-eq1 c = quoted_one c.args.mark c.args.text.now c.if-text-eq1.true (is_other _ _ c.if-first-mark.false)

pub returns-in-Some : goal.returns-in-Some
returns-in-Some c =
    let two : 1 < length c.args.text.now = grind (arith, nat_tests) in
    let read = quoted_escape c.args.mark c.args.text.now two (is_other _ _ c.if-first-mark.false) (eq-eqb _ _ c.if-first-eq92.true) in
    (c.in-Some.ensures.ascii, omega arith, two, escape_is_ascii _ _ _ (sym c.in-Some.ensures.value), rw (read, ← c.in-Some.ensures.value) refl)

pub returns-in-None : goal.returns-in-None
returns-in-None c =
    let two : 1 < length c.args.text.now = grind (arith, nat_tests) in
    let read = quoted_escape c.args.mark c.args.text.now two (is_other _ _ c.if-first-mark.false) (eq-eqb _ _ c.if-first-eq92.true) in
    rw (read, ← c.in-None.ensures.value) refl

pub returns-then-embeds : goal.returns-then-embeds
returns-then-embeds c =
    let two : 1 < length c.args.text.now = grind (arith, nat_tests) in
    quoted_embeds c.args.mark c.args.text.now two (is_other _ _ c.if-first-mark.false) (is_other _ _ c.if-first-eq92.false) (sym c.embeds.ensures ∙ c.if-embeds.true)

pub returns : goal.returns
returns c =
    let two : 1 < length c.args.text.now = grind (arith, nat_tests) in
    let special = c.requires.special (omega arith) in
    let hash : get_or c.args.text.now 0 0 ≡ 35 = special_rest _ _ special c.if-first-mark.false c.if-first-eq92.false in
    let read = quoted_stands c.args.mark c.args.text.now two (is_other _ _ c.if-first-mark.false) (is_other _ _ c.if-first-eq92.false) (sym c.embeds.ensures ∙ c.if-embeds.false) in
    (omega arith, omega arith, omega arith, omega arith, read ∙ ap (λ (b : ℕ). with_front (b ∷ []) (quoted c.args.mark (drop 1 c.args.text.now))) hash)
