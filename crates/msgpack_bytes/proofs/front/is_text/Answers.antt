use Rattle.std.proofs.Common.{◌≡◌, ◌++◌, List, ℕ, [], length, eqb, ap, subst, sym, ◌∙◌, false, refl}
use Rattle.std.proofs.lemmas.List.{append-nil}
use Rattle.std.proofs.lemmas.Bool.{both_ways}
use Rattle.msgpack_bytes.specs.Kinds.{IsText}
use Rattle.msgpack_bytes.proofs.Cuts.{is_rest}
use Rattle.msgpack_bytes.proofs.front.is_text.Goals as goal

pub returns-in-None : goal.returns-in-None
returns-in-None c = (
  λ no. absurd (both_ways false refl no),
  λ p. absurd (c.in-None.ensures.only c.args.item.now [] p (sym (append-nil c.args.item.now))),
)

pub returns-in-Some : goal.returns-in-Some
returns-in-Some c =
    let item = c.args.item.now in
    let front = c.in-Some.ensures.right in (
      λ t. (let none : c.in-Some.rest.now ≡ [] = is_rest c.in-Some.rest.now (sym t ∙ c.is_empty.ensures) in
          let whole : front.0 ≡ item = sym (front.2 ∙ ap (λ (xs : List ℕ). front.0 ++ xs) none ∙ append-nil front.0) in
          subst (λ (xs : List ℕ). IsText xs c.args.content.now) whole front.1),
      λ p. (let none : c.in-Some.rest.now ≡ [] = c.in-Some.ensures.only item [] p (sym (append-nil item)) in
          c.is_empty.ensures ∙ ap (λ (xs : List ℕ). eqb (length xs) 0) none),
    )
