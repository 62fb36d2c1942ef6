-- At most one match takes an event, so it goes by one list of hops.
use Rattle.std.proofs.Common.{◌≡◌, ℕ, ◌+◌, ◌<◌, ◌≤◌, List, [], ◌∷◌, drop, get_or, length, refl, sym, ap, subst, ◌∙◌, inl, inr, Contains}
use Rattle.std.proofs.lemmas.List.{drop_more, drop_all}
use Rattle.route_graph.specs.Table.{Table, Rule}
use Rattle.route_graph.specs.Ways.{HaveTag, IsTakenBy, IsHandedTo, rules_at}
use Rattle.route_graph.specs.Walks.{AreHopsFrom, taken, let_go}
use Rattle.route_graph.specs.declared.hop.Hop.{Hop}
use Rattle.route_graph.proofs.Members.{nil-none}

pub taker-unique : (rules : List Rule) (tag : List ℕ) (a b : Rule) → IsTakenBy rules tag a → IsTakenBy rules tag b → a ≡ b
taker-unique [] tag a b h k = absurd h
taker-unique (rule ∷ rules) tag a b (inl h) (inl k) = h.1 ∙ sym k.1
taker-unique (rule ∷ rules) tag a b (inl h) (inr k) = absurd (k.0 h.0)
taker-unique (rule ∷ rules) tag a b (inr h) (inl k) = absurd (h.0 k.0)
taker-unique (rule ∷ rules) tag a b (inr h) (inr k) = taker-unique rules tag a b h.1 k.1

-- an event goes by one list of hops
pub hops-unique : (table : Table) (tag : List ℕ) (scope : ℕ) (hops others : List Hop) → AreHopsFrom table tag scope hops → AreHopsFrom table tag scope others → hops ≡ others
hops-unique table tag scope hops others (taken taker h) (taken other k) = ap (λ (x : Rule). x.hops) (taker-unique (rules_at table scope) tag taker other h k)
hops-unique table tag scope hops others (taken taker h) (let_go none) = absurd (none taker h)
hops-unique table tag scope hops others (let_go none) (taken other k) = absurd (none other k)
hops-unique table tag scope hops others (let_go none) (let_go also) = refl

-- each of these hops is one that the event is handed to
pub hops-handed : (table : Table) (tag : List ℕ) (scope : ℕ) (hops : List Hop) → AreHopsFrom table tag scope hops → (hop : Hop) → Contains hops hop → IsHandedTo table tag scope hop
hops-handed table tag scope hops (taken taker h) hop c = (taker, h, c)
hops-handed table tag scope hops (let_go none) hop c = absurd (nil-none hop c)

-- each hop that the event is handed to is one of these
pub handed-hops : (table : Table) (tag : List ℕ) (scope : ℕ) (hops : List Hop) → AreHopsFrom table tag scope hops → (hop : Hop) → IsHandedTo table tag scope hop → Contains hops hop
handed-hops table tag scope hops (taken taker h) hop (other, k, c) = subst (λ (x : Rule). Contains x.hops hop) (taker-unique (rules_at table scope) tag other taker k h) c
handed-hops table tag scope hops (let_go none) hop (other, k, c) = absurd (none other k)

-- None of the first matches, so many of them, takes the event: who takes it is among the others.
pub record IsPassed (rules : List Rule) (tag : List ℕ) (count : ℕ) : Type 0 where
  pub onward : (taker : Rule) → IsTakenBy rules tag taker → IsTakenBy (drop count rules) tag taker
  pub back : (taker : Rule) → IsTakenBy (drop count rules) tag taker → IsTakenBy rules tag taker

pub passed-none : (rules : List Rule) (tag : List ℕ) → IsPassed rules tag 0
passed-none rules tag = record { onward = λ taker h. h; back = λ taker h. h }

not_first : (rule : Rule) (rules : List Rule) (tag : List ℕ) (taker : Rule) → (HaveTag rule.patterns tag → ⊥) → IsTakenBy (rule ∷ rules) tag taker → IsTakenBy rules tag taker
not_first rule rules tag taker n (inl h) = absurd (n h.0)
not_first rule rules tag taker n (inr h) = h.1

pub passed-more : (rules : List Rule) (tag : List ℕ) (count : ℕ) (rule : Rule) → count < length rules → rule ≡ get_or rules count rule → (HaveTag rule.patterns tag → ⊥) → IsPassed rules tag count → IsPassed rules tag (count + 1)
passed-more rules tag count rule less is n passed =
    let cut : drop count rules ≡ rule ∷ drop (count + 1) rules = drop_more rules count rule less ∙ ap (λ (x : Rule). x ∷ drop (count + 1) rules) (sym is) in
    record {
      onward = λ taker h. not_first rule (drop (count + 1) rules) tag taker n (subst (λ (x : List Rule). IsTakenBy x tag taker) cut (passed.onward taker h));
      back = λ taker h. passed.back taker (subst (λ (x : List Rule). IsTakenBy x tag taker) (sym cut) (inr (n, h)));
    }

pub passed-taker : (rules : List Rule) (tag : List ℕ) (count : ℕ) (rule : Rule) → count < length rules → rule ≡ get_or rules count rule → HaveTag rule.patterns tag → IsPassed rules tag count → IsTakenBy rules tag rule
passed-taker rules tag count rule less is h passed =
    let cut : drop count rules ≡ rule ∷ drop (count + 1) rules = drop_more rules count rule less ∙ ap (λ (x : Rule). x ∷ drop (count + 1) rules) (sym is) in
    passed.back rule (subst (λ (x : List Rule). IsTakenBy x tag rule) (sym cut) (inl (h, refl)))

pub passed-all : (rules : List Rule) (tag : List ℕ) (count : ℕ) → length rules ≤ count → IsPassed rules tag count → (taker : Rule) → IsTakenBy rules tag taker → ⊥
passed-all rules tag count all passed taker h = subst (λ (x : List Rule). IsTakenBy x tag taker) (drop_all count rules all) (passed.onward taker h)
