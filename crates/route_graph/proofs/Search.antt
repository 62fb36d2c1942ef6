-- What holds while the way of an event is looked for, step by step.
use Rattle.std.proofs.Common.{◌≡◌, ◌≢◌, ℕ, zero, suc, ◌≤◌, List, [], ◌∷◌, ◌++◌, length, map, replicate, slice_set, refl, sym, ap, subst, ◌∙◌, ◌⊎◌, inl, inr, arith, Contains, append_assoc}
use Rattle.std.proofs.lemmas.Bool.{cases_eq}
use Rattle.std.proofs.lemmas.List.{append-nil, length-set, length-replicate, get_or-set_other}
use Rattle.std.proofs.lemmas.List.Elements.{Contains-append_left, Contains-append_right}
use Rattle.relay_conf.specs.declared.output.BufferNo.{BufferNo}
use Rattle.relay_conf.specs.declared.relay.ScopeNo.{ScopeNo}
use Rattle.route_graph.specs.Listing.{AreFirstReached}
use Rattle.route_graph.specs.Table.{Table, Rule}
use Rattle.route_graph.specs.Visits.{Known, mark_at, IsWith}
use Rattle.route_graph.specs.Walks.{AreHopsFrom, let_go, ended, stored, relabelled, firsts}
use Rattle.route_graph.specs.Ways.{IsTakenBy, IsLoop, rules_at}
use Rattle.route_graph.specs.declared.hop.Hop.{Hop}
use Rattle.route_graph.specs.declared.hop.Hop.TheVariants.{Buffer, Scope}
use Rattle.route_graph.specs.declared.visit.Mark.{Mark}
use Rattle.route_graph.specs.declared.visit.Mark.TheVariants.{New, Open, Done}
use Rattle.route_graph.specs.declared.visit.Step.{Step}
use Rattle.route_graph.specs.declared.visit.Step.TheVariants.{Take, Leave}
use Rattle.route_graph.proofs.Chains.{IsChain, IsOpenIn, chain-loop, chain-entered, open-entered}
use Rattle.route_graph.proofs.Covers.{IsCovered, Covers, covers-replaced, covers-taken, walk-split, walk-scope}
use Rattle.route_graph.proofs.Firsts.{firsts_again, firsts_known, firsts_new}
use Rattle.route_graph.proofs.Takers.{hops-handed}

-- What is known fits the relay.
pub record IsKnown (table : Table) (tag : List ℕ) (start : ℕ) (known : Known) : Type 0 where
  pub sized : length known.marks ≡ length table
  pub chain : IsChain table tag start known.coming
  pub begun : (scope : ℕ) → mark_at known.marks scope ≡ Open → IsOpenIn known.coming scope
  pub done : (scope : ℕ) → mark_at known.marks scope ≡ Done → IsCovered table tag known.found scope
  pub covers : Covers table tag start known.found [] known.coming
  pub once : firsts known.found ≡ known.found

-- ---- marks

mark-done : (marks : List Mark) (scope : ℕ) → mark_at (slice_set marks scope Done) scope ≡ Done
mark-done [] scope = refl
mark-done (mark ∷ marks) zero = refl
mark-done (mark ∷ marks) (suc scope) = mark-done marks scope

mark-open : (marks : List Mark) (scope : ℕ) → mark_at marks scope ≡ New → mark_at (slice_set marks scope Open) scope ≡ Open
mark-open [] scope e = absurd (cc)
mark-open (mark ∷ marks) zero e = refl
mark-open (mark ∷ marks) (suc scope) e = mark-open marks scope e

mark-other : (marks : List Mark) (scope other : ℕ) (mark : Mark) → other ≢ scope → mark_at (slice_set marks scope mark) other ≡ mark_at marks other
mark-other marks scope other mark apart = get_or-set_other marks scope other mark Done apart

mark-new : (count : ℕ) (scope : ℕ) → (mark_at (replicate count New) scope ≡ New) ⊎ ((mark_at (replicate count New) scope ≡ Done) × (count ≤ scope))
mark-new zero scope = inr (refl, omega arith)
mark-new (suc count) zero = inl refl
mark-new (suc count) (suc scope) = elim (mark-new count scope) [
  | inl e ↦ inl e
  | inr e ↦ inr (e.0, omega arith)
]

-- ---- scopes that aren't there

rules_past : (table : Table) (scope : ℕ) → length table ≤ scope → rules_at table scope ≡ []
rules_past [] scope past = refl
rules_past (rules ∷ table) zero past = absurd (omega arith)
rules_past (rules ∷ table) (suc scope) past = rules_past table scope (omega arith)

past-covered : (table : Table) (tag : List ℕ) (found : List ℕ) (scope : ℕ) → length table ≤ scope → IsCovered table tag found scope
past-covered table tag found scope past =
    let none : (taker : Rule) → IsTakenBy (rules_at table scope) tag taker → ⊥ = λ taker h. subst (λ (x : List Rule). IsTakenBy x tag taker) (rules_past table scope past) h in
    ([], ([], let_go none, ended), λ number c. absurd (omega arith))

-- what is covered stays covered
covered-more : (table : Table) (tag : List ℕ) (found more : List ℕ) (scope : ℕ) → ((number : ℕ) → Contains found number → Contains more number) → IsCovered table tag found scope → IsCovered table tag more scope
covered-more table tag found more scope grows c = (c.0, c.1, λ number m. grows number (c.2 number m))

-- ---- the steps

-- a search begins
pub known-begun : (table : Table) (tag : List ℕ) (start : ScopeNo) → IsKnown table tag start.0 (record { marks = replicate (length table) New; coming = Take (Scope start) ∷ []; found = [] })
known-begun table tag start = record {
  sized = length-replicate (length table) New;
  chain = (refl, tt);
  begun = λ scope e. absurd (elim (mark-new (length table) scope) [
    | inl new ↦ (let f : New ≡ Open = sym new ∙ e in cc)
    | inr past ↦ (let f : Done ≡ Open = sym past.0 ∙ e in cc)
  ]);
  done = λ scope e. elim (mark-new (length table) scope) [
    | inl new ↦ absurd (let f : New ≡ Done = sym new ∙ e in cc)
    | inr past ↦ past-covered table tag [] scope past.1
  ];
  covers = λ rest w. (rest, walk-scope table tag start rest w, refl);
  once = refl;
}

-- a scope is left
pub known-left : (table : Table) (tag : List ℕ) (start : ℕ) (marks : List Mark) (coming : List Step) (found : List ℕ) (scope : ScopeNo) → IsKnown table tag start (record { marks = marks; coming = Leave scope ∷ coming; found = found }) → IsKnown table tag start (record { marks = slice_set marks scope.0 Done; coming = coming; found = found })
known-left table tag start marks coming found scope known = record {
  sized = length-set marks scope.0 Done ∙ known.sized;
  chain = known.chain.1;
  begun = λ other e. elim (cases_eq other scope.0) [
    | inl same ↦ absurd (let f : mark_at (slice_set marks scope.0 Done) other ≡ Done = rw same (mark-done marks scope.0) in let i : Open ≡ Done = sym e ∙ f in cc)
    | inr apart ↦ elim (known.begun other (sym (mark-other marks scope.0 other Done apart) ∙ e)) [
      | inl same ↦ absurd (apart (sym same))
      | inr h ↦ h
    ]
  ];
  done = λ other e. elim (cases_eq other scope.0) [
    | inl same ↦ rw same (covered-more table tag (found ++ []) found scope.0 (λ number c. subst (λ (x : List ℕ). Contains x number) (append-nil found) c) (known.covers.0 [] ended))
    | inr apart ↦ known.done other (sym (mark-other marks scope.0 other Done apart) ∙ e)
  ];
  covers = known.covers.1;
  once = known.once;
}

with-grows : (found more : List ℕ) (number : ℕ) → IsWith found number more → (other : ℕ) → Contains found other → Contains more other
with-grows found more number (inl h) other c = subst (λ (x : List ℕ). Contains x other) (sym h.1) c
with-grows found more number (inr h) other c = subst (λ (x : List ℕ). Contains x other) (sym h.1) (Contains-append_left found (number ∷ []) other c)

with-once : (found more : List ℕ) (number : ℕ) → firsts found ≡ found → IsWith found number more → firsts more ≡ more
with-once found more number once (inl h) = ap firsts h.1 ∙ once ∙ sym h.1
with-once found more number once (inr h) = ap firsts h.1 ∙ firsts_new found number h.0 ∙ ap (λ (x : List ℕ). x ++ number ∷ []) once ∙ sym h.1

with-same : (found more rest : List ℕ) (number : ℕ) → IsWith found number more → firsts (found ++ number ∷ rest) ≡ firsts (more ++ rest)
with-same found more rest number (inl h) = firsts_again found number rest h.0 ∙ ap (λ (x : List ℕ). firsts (x ++ rest)) (sym h.1)
with-same found more rest number (inr h) = ap firsts (sym (append_assoc found (number ∷ []) rest)) ∙ ap (λ (x : List ℕ). firsts (x ++ rest)) (sym h.1)

-- a buffer is reached
pub known-stored : (table : Table) (tag : List ℕ) (start : ℕ) (marks : List Mark) (coming : List Step) (found more : List ℕ) (buffer : BufferNo) → IsWith found buffer.0 more → IsKnown table tag start (record { marks = marks; coming = Take (Buffer buffer) ∷ coming; found = found }) → IsKnown table tag start (record { marks = marks; coming = coming; found = more })
known-stored table tag start marks coming found more buffer with known = record {
  sized = known.sized;
  chain = known.chain.1;
  begun = known.begun;
  done = λ scope e. covered-more table tag found more scope (with-grows found more buffer.0 with) (known.done scope e);
  covers = covers-replaced table tag start more [] found (Buffer buffer ∷ []) coming (λ others rest w. (buffer.0 ∷ rest, stored w, with-same found more rest buffer.0 with)) known.covers;
  once = with-once found more buffer.0 known.once with;
}

-- a relabel to a scope that is done
pub known-done : (table : Table) (tag : List ℕ) (start : ℕ) (marks : List Mark) (coming : List Step) (found : List ℕ) (scope : ScopeNo) → mark_at marks scope.0 ≡ Done → IsKnown table tag start (record { marks = marks; coming = Take (Scope scope) ∷ coming; found = found }) → IsKnown table tag start (record { marks = marks; coming = coming; found = found })
known-done table tag start marks coming found scope e known =
    let covered = known.done scope.0 e in
    record {
      sized = known.sized;
      chain = known.chain.1;
      begun = known.begun;
      done = known.done;
      covers = covers-replaced table tag start found [] found (Scope scope ∷ []) coming (λ others rest w. (covered.0 ++ rest, relabelled covered.1.1 covered.1.2 w, firsts_known found covered.0 rest covered.2)) known.covers;
      once = known.once;
    }

-- a relabel to a scope that is open
pub known-loop : (table : Table) (tag : List ℕ) (start : ℕ) (marks : List Mark) (coming : List Step) (found : List ℕ) (scope : ScopeNo) → mark_at marks scope.0 ≡ Open → IsKnown table tag start (record { marks = marks; coming = Take (Scope scope) ∷ coming; found = found }) → IsLoop table tag start
known-loop table tag start marks coming found scope e known = chain-loop table tag start coming known.chain.1 scope known.chain.0 (known.begun scope.0 e)

-- a relabel to a scope that is new
pub known-entered : (table : Table) (tag : List ℕ) (start : ℕ) (marks : List Mark) (coming : List Step) (found : List ℕ) (scope : ScopeNo) (hops : List Hop) → mark_at marks scope.0 ≡ New → AreHopsFrom table tag scope.0 hops → IsKnown table tag start (record { marks = marks; coming = Take (Scope scope) ∷ coming; found = found }) → IsKnown table tag start (record { marks = slice_set marks scope.0 Open; coming = map Take hops ++ Leave scope ∷ coming; found = found })
known-entered table tag start marks coming found scope hops e from known =
    let onward : Covers table tag start found hops coming =
    covers-replaced table tag start found hops found (Scope scope ∷ []) coming (λ more rest w. (
    let cut = walk-split table tag hops more rest w in
    (cut.0 ++ cut.1, relabelled from cut.2 cut.3, ap (λ (x : List ℕ). firsts (found ++ x)) (sym cut.4)))) known.covers in
    record {
      sized = length-set marks scope.0 Open ∙ known.sized;
      chain = chain-entered table tag start hops scope coming (hops-handed table tag scope.0 hops from) known.chain.0 known.chain.1;
      begun = λ other f. elim (cases_eq other scope.0) [
        | inl same ↦ open-entered hops (Leave scope ∷ coming) other (inl (sym same))
        | inr apart ↦ open-entered hops (Leave scope ∷ coming) other (inr (known.begun other (sym (mark-other marks scope.0 other Open apart) ∙ f)))
      ];
      done = λ other f. elim (cases_eq other scope.0) [
        | inl same ↦ absurd (let i : mark_at (slice_set marks scope.0 Open) other ≡ Open = rw same (mark-open marks scope.0 e) in let j : Open ≡ Done = sym i ∙ f in cc)
        | inr apart ↦ known.done other (sym (mark-other marks scope.0 other Open apart) ∙ f)
      ];
      covers = covers-taken table tag start found [] hops (Leave scope ∷ coming) (λ rest w. (rest, (hops, from, w), λ number c. Contains-append_right found rest number c), onward);
      once = known.once;
    }

-- nothing is left to do
pub known-ended : (table : Table) (tag : List ℕ) (start : ℕ) (known : Known) (found : List ℕ) → IsKnown table tag start known → known.coming ≡ [] → found ≡ known.found → AreFirstReached table tag start found
known-ended table tag start known found is none same =
    let covers : Covers table tag start known.found [] [] = subst (λ (x : List Step). Covers table tag start known.found [] x) none is.covers in
    let all = covers [] ended in
    (all.0, all.1, same ∙ sym is.once ∙ ap firsts (sym (append-nil known.found)) ∙ sym all.2)

-- what is known, by its parts
pub known-parts : (table : Table) (tag : List ℕ) (start : ℕ) (known : Known) (marks : List Mark) (coming : List Step) (found : List ℕ) → known.marks ≡ marks → known.coming ≡ coming → known.found ≡ found → IsKnown table tag start (record { marks = marks; coming = coming; found = found }) → IsKnown table tag start known
known-parts table tag start known marks coming found e f g h =
    subst (λ (x : List Mark). IsKnown table tag start (record { marks = x; coming = known.coming; found = known.found })) (sym e)
    (subst (λ (x : List Step). IsKnown table tag start (record { marks = marks; coming = x; found = known.found })) (sym f)
    (subst (λ (x : List ℕ). IsKnown table tag start (record { marks = marks; coming = coming; found = x })) (sym g) h))
