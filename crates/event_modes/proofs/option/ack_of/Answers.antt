use Rattle.std.proofs.Common.{◌≡◌, ℕ, List, ◌∙◌, ap, refl, sym, subst, inl, inr, Option, Some, None, Bor}
use Rattle.std.specs.List.{AllByRecursion}
use Rattle.msgpack_bytes.specs.Containers.{Pair, pair_items, IsMap}
use Rattle.event_modes.specs.Options.{IsFit, AsksFor, IsOption}
use Rattle.event_modes.specs.Pairs.{bytes_of}
use Rattle.event_modes.proofs.Begins.{map_one}
use Rattle.event_modes.proofs.option.ack_of.Goals as goal

-- the pairs are fit, and ask for this
asked : (option : Option (Bor (List ℕ))) (bytes : Bor (List ℕ)) (first second : List (List ℕ)) (ps qs : List Pair) (ack : Option (List ℕ)) → option ≡ Some bytes
    → IsMap ps bytes.now → first ≡ pair_items ps → IsMap qs bytes.now → ((pairs : List Pair) → first ≡ pair_items pairs → AllByRecursion IsFit pairs) → AsksFor qs ack → IsOption (bytes_of option) ack
asked option bytes first second ps qs ack e m f n fit asks =
    subst (λ (o : Option (Bor (List ℕ))). IsOption (bytes_of o) ack) (sym e) (inr (qs, n, fit qs (f ∙ ap pair_items (map_one ps qs bytes.now m n)), asks))

pub returns-in_default-last_value : goal.returns-in_default-last_value
returns-in_default-last_value c =
    let p = c.in-Some-map_of.ensures in
    let q = c.in-Some-map_of-2.ensures in
    asked c.args.option c.in-Some.option c.in-Some-map_of.pairs c.in-Some-map_of-2.pairs p.0 q.0 None c.in-Some.is p.1 p.2 q.1 c.in_ok-examine.ensures (inl (c.in_default-last_value.ensures q.0 q.2))

pub returns-then-is_nil-2 : goal.returns-then-is_nil-2
returns-then-is_nil-2 c =
    let p = c.in-Some-map_of.ensures in
    let q = c.in-Some-map_of-2.ensures in
    asked c.args.option c.in-Some.option c.in-Some-map_of.pairs c.in-Some-map_of-2.pairs p.0 q.0 None c.in-Some.is p.1 p.2 q.1 c.in_ok-examine.ensures
    (inr (c.in-Some-last_value.last.value.now, (c.in-Some-last_value.ensures q.0 q.2).last, c.if-is_nil-2.ensures.0 refl))

pub returns : goal.returns
returns c =
    let p = c.in-Some-map_of.ensures in
    let q = c.in-Some-map_of-2.ensures in
    asked c.args.option c.in-Some.option c.in-Some-map_of.pairs c.in-Some-map_of-2.pairs p.0 q.0 (Some c.in-Some-last_value.last.value.now) c.in-Some.is p.1 p.2 q.1 c.in_ok-examine.ensures
    ((c.in-Some-last_value.ensures q.0 q.2).last, λ n. let f = c.if-is_nil-2.ensures.1 n in cc)
