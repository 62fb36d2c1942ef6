use Rattle.std.proofs.Common.{◌≡◌, ◌<◌, ◌⊎◌, ◌∷◌, ℕ, List, Option, Some, None, length, ap, arith, inl, inr, subst, sym, ◌∙◌}
use Rattle.std.specs.Prelude.{MatchOption}
use Rattle.msgpack_bytes.specs.Containers.{IsArray}
use Rattle.event_modes.specs.declared.places.Elements.{Elements}
use Rattle.event_modes.specs.Places.{elements_list}
use Rattle.event_modes.proofs.Begins.{array_one}
use Rattle.event_modes.proofs.places.elements_of.Goals as goal

pub returns-in_err-items : goal.returns-in_err-items
returns-in_err-items c = rw c.from_residual.ensures (λ items a. absurd (c.in_err-items.ensures items a))

pub returns-in_default-next : goal.returns-in_default-next
returns-in_default-next c =
    let first = ap length c.in-Some.ensures.steps in
    let none = ap length c.in_default-next.ensures.steps.0 in
    λ items a. inl (let same = ap length (array_one items c.in_ok-items.items c.args.item.now a c.in_ok-items.ensures) in omega arith)

found_of : (item x y : List ℕ) (all others rest : List (List ℕ)) (found : Option Elements) → IsArray all item → all ≡ x ∷ others → others ≡ y ∷ rest → MatchOption found (2 < length rest) (λ f. elements_list f ≡ x ∷ y ∷ rest)
    → MatchOption found ((items : List (List ℕ)) → IsArray items item → (length items < 2) ⊎ (4 < length items)) (λ f. IsArray (elements_list f) item)
found_of item x y all others rest None a front next many =
    let first = ap length front in
    let second = ap length next in
    λ items b. inr (let same = ap length (array_one items all item b a) in omega arith)
found_of item x y all others rest (Some f) a front next e =
    let whole : all ≡ elements_list f = front ∙ ap (λ (z : List (List ℕ)). x ∷ z) next ∙ sym e in
    subst (λ (z : List (List ℕ)). IsArray z item) whole a

pub returns : goal.returns
returns c =
    found_of c.args.item.now c.in-Some.first.now c.in-Some-next.second.now c.in_ok-items.items _ _ c.elements_behind.result c.in_ok-items.ensures c.in-Some.ensures.steps c.in-Some-next.ensures.steps c.elements_behind.ensures
