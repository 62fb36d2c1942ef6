-- The match that takes an event, by its place in the configuration.
use Rattle.std.proofs.Common.{◌≡◌, ℕ, zero, suc, ◌<◌, List, [], ◌∷◌, map, Option, Some, None, slice_get, refl, sym, subst, ◌∙◌, inl, inr, arith, IsSomeAnd}
use Rattle.std.specs.Prelude.{unwrap_or}
use Rattle.std.specs.Option.{option_and_then, option_map_or}
use Rattle.std.proofs.lemmas.Option.{same_Some}
use Rattle.relay_conf.specs.declared.relay.MatchRule.{MatchRule}
use Rattle.relay_conf.specs.declared.relay.Relay.{Relay}
use Rattle.relay_conf.specs.declared.relay.Scope.{Scope}
use Rattle.relay_net.specs.Network.{Network, relay_at}
use Rattle.relay_net.specs.Ways.{table_at}
use Rattle.route_graph.specs.Table.{Rule, rule_of, rules_of, table_of}
use Rattle.route_graph.specs.Ways.{HaveTag, IsTakenBy, rules_at}
use Rattle.loss_rules.specs.Sites.{rule_at, matches_at}
use Rattle.loss_rules.specs.SafeWays.{IsFirstTaker}
use Rattle.loss_rules.proofs.Decisions.{tag_decided, some_decided, least_of}

-- ---- the matches of a scope, as rules of the table

scopes-are : {A : Type 0} (scopes : List (Scope A)) (scope : ℕ) → unwrap_or (slice_get (map rules_of scopes) scope) [] ≡ map rule_of (option_map_or (λ s. s.matches.items) (slice_get scopes scope) [])
scopes-are [] scope = refl
scopes-are (s ∷ scopes) zero = refl
scopes-are (s ∷ scopes) (suc scope) = scopes-are scopes scope

relay-rules : {A : Type 0} (relay : Option (Relay A)) (scope : ℕ) → rules_at (option_map_or table_of relay []) scope ≡ map rule_of (option_map_or (λ s. s.matches.items) (option_and_then (λ r. slice_get r.scopes.items scope) relay) [])
relay-rules None scope = refl
relay-rules (Some relay) scope = scopes-are relay.scopes.items scope

scope-rule : {A : Type 0} (scope : Option (Scope A)) (rule : ℕ) → option_and_then (λ s. slice_get s.matches.items rule) scope ≡ slice_get (option_map_or (λ s. s.matches.items) scope []) rule
scope-rule None rule = refl
scope-rule (Some s) rule = refl

rules-are : {A : Type 0} (net : Network A) (place scope : ℕ) → rules_at (table_at net place) scope ≡ map rule_of (matches_at net place scope)
rules-are net place scope = relay-rules (relay_at net place) scope

rule-is : {A : Type 0} (net : Network A) (place scope rule : ℕ) → rule_at net place scope rule ≡ slice_get (matches_at net place scope) rule
rule-is net place scope rule = scope-rule (option_and_then (λ r. slice_get r.scopes.items scope) (relay_at net place)) rule

-- ---- who takes an event

-- The match with this place is the first of these with the tag.
record IsFirstWithTag {A : Type 0} (matches : List (MatchRule A)) (tag : List ℕ) (rule : ℕ) (found : MatchRule A) : Type 0 where
  there : slice_get matches rule ≡ Some found
  has : HaveTag found.patterns.items tag
  others : (before : ℕ) (other : MatchRule A) → before < rule → slice_get matches before ≡ Some other → ¬ HaveTag other.patterns.items tag

first-further : {A : Type 0} (first : MatchRule A) (matches : List (MatchRule A)) (tag : List ℕ) (rule : ℕ) (found : MatchRule A) → ¬ HaveTag first.patterns.items tag → IsFirstWithTag matches tag rule found → IsFirstWithTag (first ∷ matches) tag (suc rule) found
first-further {A} first matches tag rule found none is = record { there = is.there; has = is.has; others = by }
  where
    by : (before : ℕ) (other : MatchRule A) → before < suc rule → slice_get (first ∷ matches) before ≡ Some other → ¬ HaveTag other.patterns.items tag
    by zero other less e = subst (λ m. ¬ HaveTag m.patterns.items tag) (same_Some first other e) none
    by (suc before) other less e = is.others before other (omega arith) e

taken-first : {A : Type 0} (matches : List (MatchRule A)) (tag : List ℕ) (taker : Rule) → IsTakenBy (map rule_of matches) tag taker → (rule : ℕ) × (found : MatchRule A) × IsFirstWithTag matches tag rule found × (taker ≡ rule_of found)
taken-first [] tag taker h = absurd h
taken-first (m ∷ matches) tag taker (inl h) = (zero, m, record { there = refl; has = h.0; others = λ before other less e. absurd (omega arith) }, h.1)
taken-first (m ∷ matches) tag taker (inr h) = let r = taken-first matches tag taker h.1 in (suc r.0, r.1, first-further m matches tag r.0 r.1 h.0 r.2, r.3)

first-taken : {A : Type 0} (matches : List (MatchRule A)) (tag : List ℕ) (rule : ℕ) (found : MatchRule A) → IsFirstWithTag matches tag rule found → IsTakenBy (map rule_of matches) tag (rule_of found)
first-taken [] tag rule found is = let e = is.there in absurd (cc)
first-taken (m ∷ matches) tag zero found is = subst (λ x. IsTakenBy (map rule_of (m ∷ matches)) tag (rule_of x)) same (inl (subst (λ x. HaveTag x.patterns.items tag) (sym same) is.has, refl))
  where
    same : m ≡ found
    same = same_Some m found is.there
first-taken (m ∷ matches) tag (suc rule) found is =
    inr (is.others zero m (omega arith) refl, first-taken matches tag rule found (record { there = is.there; has = is.has; others = λ before other less e. is.others (suc before) other (omega arith) e }))

-- who takes the event is the first match with its tag
pub taker-first : {A : Type 0} (net : Network A) (place scope : ℕ) (tag : List ℕ) (taker : Rule) → IsTakenBy (rules_at (table_at net place) scope) tag taker
    → (rule : ℕ) × (first : IsFirstTaker net place scope tag rule) × (taker ≡ rule_of first.found)
taker-first net place scope tag taker h =
    let r = taken-first (matches_at net place scope) tag taker (subst (λ rules. IsTakenBy rules tag taker) (rules-are net place scope) h) in
    let is = r.2 in
    (r.0, record { found = r.1; is_found = rule-is net place scope r.0 ∙ is.there; has = is.has; others = λ before other less e. is.others before other less (sym (rule-is net place scope before) ∙ e) }, r.3)

-- the first match with its tag takes the event
pub first-taker : {A : Type 0} (net : Network A) (place scope : ℕ) (tag : List ℕ) (rule : ℕ) → (first : IsFirstTaker net place scope tag rule) → IsTakenBy (rules_at (table_at net place) scope) tag (rule_of first.found)
first-taker net place scope tag rule first =
    subst (λ rules. IsTakenBy rules tag (rule_of first.found)) (sym (rules-are net place scope)) (first-taken (matches_at net place scope) tag rule first.found (record {
      there = sym (rule-is net place scope rule) ∙ first.is_found;
      has = first.has;
      others = λ before other less e. first.others before other less (rule-is net place scope before ∙ e);
    }))

some-value : {X : Type 0} (found : Option X) (P : X → Type 0) → IsSomeAnd found P → (x : X) × (found ≡ Some x) × P x
some-value None P h = absurd h
some-value (Some x) P h = (x, refl, h)

-- One of the match's patterns has the tag.
abbrev Has : {A : Type 0} → List ℕ → MatchRule A → Type 0
Has tag found = HaveTag found.patterns.items tag

-- where a match has the tag, there is a first one
pub some-taker : {A : Type 0} (net : Network A) (place scope : ℕ) (tag : List ℕ) (rule : ℕ) (found : MatchRule A) → rule_at net place scope rule ≡ Some found → HaveTag found.patterns.items tag → (first : ℕ) × IsFirstTaker net place scope tag first
some-taker {A} net place scope tag rule found e h =
    let least = least_of (λ n. IsSomeAnd (rule_at net place scope n) (Has tag)) (λ n. some_decided (Has tag) (λ (m : MatchRule A). tag_decided m.patterns.items tag) (rule_at net place scope n)) rule (subst (λ (x : Option (MatchRule A)). IsSomeAnd x (Has tag)) (sym e) h) in
    let taken = some-value (rule_at net place scope least.0) (Has tag) least.1.holds in (
      least.0,
      record {
        found = taken.0;
        is_found = taken.1;
        has = taken.2;
        others = λ before other less f k. least.1.others before less (subst (λ (x : Option (MatchRule A)). IsSomeAnd x (Has tag)) (sym f) k);
      },
    )
