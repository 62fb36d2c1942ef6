-- Places relay by relay, as a search goes through the relays of a plan.
use Rattle.std.proofs.Common.{◌≡◌, ℕ, ◌+◌, ◌<◌, List, [], ◌∷◌, ◌++◌, Some, slice_get, get_or, take, length, refl, sym, ap, subst, ◌∙◌, arith}
use Rattle.std.proofs.lemmas.List.{append_assoc, append-nil, take_more, length-take-le}
use Rattle.std.proofs.lemmas.Option.{slice_get_within, get_or_from_slice_get}
use Rattle.relay_net.specs.Network.{Network}
use Rattle.relay_net.specs.declared.node.Node.{Node}
use Rattle.loss_rules.specs.Everywhere.{AreByRelays, AreInRelay, AreInConf}
use Rattle.loss_rules.specs.declared.answer.Place.{Place}
use Rattle.loss_rules.proofs.Lines.{same_lines}

-- neither part of nothing is anything
pub none_left : (xs ys : List Place) → xs ++ ys ≡ [] → xs ≡ []
none_left [] ys none = refl
none_left (x ∷ xs) ys none = absurd (cc)

pub none_right : (xs ys : List Place) → xs ++ ys ≡ [] → ys ≡ []
none_right [] ys none = none
none_right (x ∷ xs) ys none = absurd (cc)

module _ {A : Type 0} where
  -- one more relay
  pub one_more_relay : (Are : ℕ → Node A → List Place → Type 0) (at : ℕ) (nodes : List (Node A)) (node : Node A) (places here : List Place)
      → AreByRelays Are at nodes places → Are (at + length nodes) node here → AreByRelays Are at (nodes ++ node ∷ []) (places ++ here)
  one_more_relay Are at [] node places here none is =
      let first : Are at node here = subst (λ (n : ℕ). Are n node here) (let e : at + 0 ≡ at = omega arith in e) is in
      (here, [], first, refl, ap (λ (x : List Place). x ++ here) none ∙ sym (append-nil here))
  one_more_relay Are at (head ∷ nodes) node places here (mine, later, are, rest, places_are) is =
      let count : at + length (head ∷ nodes) ≡ (at + 1) + length nodes = omega arith in (
        mine,
        later ++ here,
        are,
        one_more_relay Are (at + 1) nodes node later here rest (subst (λ (n : ℕ). Are n node here) count is),
        ap (λ (x : List Place). x ++ here) places_are ∙ append_assoc mine later here,
      )

  -- the next relay of a search
  pub next_relay : (Are : ℕ → Node A → List Place → Type 0) (nodes : List (Node A)) (at : ℕ) (node : Node A) (places here : List Place) → slice_get nodes at ≡ Some node
      → AreByRelays Are 0 (take at nodes) places → Are at node here → AreByRelays Are 0 (take (at + 1) nodes) (places ++ here)
  next_relay Are nodes at node places here is before mine =
      let less : at < length nodes = slice_get_within nodes at node is in
      let cut : take (at + 1) nodes ≡ take at nodes ++ get_or nodes at node ∷ [] = take_more nodes at node less in
      let last : get_or nodes at node ≡ node = get_or_from_slice_get nodes at node node is in
      let count : at ≡ 0 + length (take at nodes) = omega (arith, length-take-le at nodes (omega arith)) in
      subst (λ (ns : List (Node A)). AreByRelays Are 0 ns (places ++ here)) (sym (cut ∙ ap (λ (n : Node A). take at nodes ++ n ∷ []) last))
      (one_more_relay Are 0 (take at nodes) node places here before (subst (λ (n : ℕ). Are n node here) count mine))

  -- the same places, said in other words
  pub same_relays : (Are They : ℕ → Node A → List Place → Type 0) → ((at : ℕ) (node : Node A) (places : List Place) → Are at node places → They at node places)
      → (at : ℕ) (nodes : List (Node A)) (places : List Place) → AreByRelays Are at nodes places → AreByRelays They at nodes places
  same_relays Are They there at [] places none = none
  same_relays Are They there at (node ∷ nodes) places (here, later, are, rest, is) = (here, later, there at node here are, same_relays Are They there (at + 1) nodes later rest, is)

  pub same_conf : (net : Network A) (B C : ℕ → ℕ → Type 0) → ((at line : ℕ) → B at line → C at line) → ((at line : ℕ) → C at line → B at line) → (places : List Place) → AreInConf net B places → AreInConf net C places
  same_conf net B C there back places =
      same_relays (AreInRelay B) (AreInRelay C) (λ at node ps are. (are.0, same_lines (B at) (C at) are.0 (there at) (back at) are.1, are.2)) 0 net.relays places
