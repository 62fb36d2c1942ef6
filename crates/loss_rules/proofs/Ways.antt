-- The way of an event whose tag is one of a label.
use Rattle.std.proofs.Common.{◌≡◌, ℕ, zero, suc, ◌+◌, ◌<◌, ◌≤◌, List, [], ◌∷◌, length, Option, Some, None, slice_get, refl, sym, ap, subst, ◌∙◌, ◌⊎◌, inl, inr, arith, All, Any, Contains, IsSomeAnd}
use Rattle.std.specs.Option.{option_and_then}
use Rattle.std.proofs.lemmas.List.Elements.{All-contains}
use Rattle.std.proofs.lemmas.Option.{same_Some, slice_get_read}
use Rattle.relay_conf.specs.declared.output.Output.{Output}
use Rattle.relay_conf.specs.declared.relay.MatchRule.{MatchRule}
use Rattle.relay_net.specs.Network.{Network, relay_at, prefix_at, address_of_server, output_at}
use Rattle.relay_net.specs.Outputs.{servers_of, Keeps}
use Rattle.relay_net.specs.Ways.{table_at}
use Rattle.route_graph.specs.Chains.{Chain, here, onward}
use Rattle.route_graph.specs.Table.{hop_of, rule_of}
use Rattle.route_graph.specs.Ways.{IsHandedTo, IsRelabelled, IsLeaf, own, further, IsLoop}
use Rattle.route_graph.specs.declared.hop.Hop.{Hop}
use Rattle.route_graph.proofs.Members.{cons-cases, nil-none}
use Rattle.route_graph.proofs.WalkLaws.{leads-on}
use Rattle.loss_rules.specs.Labels.{IsLabelledTag, IsReachedTag}
use Rattle.loss_rules.specs.Rules.{GoesOn, KeepsOrRelabels}
use Rattle.loss_rules.specs.Sites.{rule_at, output_in_rule, line_of, BuffersAreDistinct}
use Rattle.loss_rules.specs.declared.label.Label.{Label}
use Rattle.loss_rules.specs.declared.label.Reach.{Reach}
use Rattle.loss_rules.specs.SafeWays.{IsFirstTaker, IsLabelledOnward, IsSafeWay}
use Rattle.loss_rules.proofs.Counts.{AreApart, apart-few}
use Rattle.loss_rules.proofs.Hops.{to_buffer, to_scope, hop-output, output-hop, buffer-number, number-buffer, scope-relabel, relabel-scope, keeps-number}
use Rattle.loss_rules.proofs.Keeping.{KeepingRules, EachOutputKeeps}
use Rattle.loss_rules.proofs.Passing.{reached-tag, reach-labelled, label-pattern, pattern-taken, taken-reached}
use Rattle.loss_rules.proofs.Sites.{output-found, place-contains, scope_count, scope-within}
use Rattle.loss_rules.proofs.Takers.{taker-first, first-taker}

-- The hop is that of an output in a match that has a reach with the tag.
record IsHandedBy {A : Type 0} (net : Network A) (reaches : List (Reach A)) (place scope : ℕ) (tag : List ℕ) (hop : Hop) : Type 0 where
  rule : ℕ
  output : ℕ
  found : Output A
  there : output_in_rule net place scope rule output ≡ Some found
  is : hop_of found ≡ Some hop
  reached : IsReachedTag reaches place scope rule tag

-- A buffer on the tag's way, of an output that keeps.
record IsKeptAt {A : Type 0} (net : Network A) (place scope : ℕ) (tag : List ℕ) : Type 0 where
  buffer : ℕ
  leaf : IsLeaf (table_at net place) tag scope buffer
  keeps : IsSomeAnd (output_at net place buffer) Keeps

-- The scope was gone through: it is one of the relay, and a chain of relabels leads on from it to
-- the other.
record IsBehind {A : Type 0} (net : Network A) (place : ℕ) (tag : List ℕ) (scope before : ℕ) : Type 0 where
  within : before < scope_count (relay_at net place)
  next : ℕ
  left : IsRelabelled (table_at net place) tag before next
  leads : Chain (IsRelabelled (table_at net place) tag) next scope

-- Each of these scopes was.
abbrev AreBehind : {A : Type 0} → Network A → ℕ → List ℕ → List ℕ → ℕ → Type 0
AreBehind net place tag seen scope = (before : ℕ) → Contains seen before → IsBehind net place tag scope before

-- an output of a match whose outputs all keep or are relabels is one of these
each-output : {A : Type 0} (o : Option (MatchRule A)) (output : ℕ) (found : Output A) → option_and_then (λ r. slice_get r.outputs.items output) o ≡ Some found → ((r : MatchRule A) → o ≡ Some r → All KeepsOrRelabels r.outputs.items)
    → KeepsOrRelabels found
each-output None output found e all = absurd (cc)
each-output (Some r) output found e all = All-contains KeepsOrRelabels r.outputs.items found (all r refl) (place-contains r.outputs.items output found e)

-- ---- the way, under the rules

module _ {A : Type 0} (net : Network A) (labels : List (Label A)) (reaches : List (Reach A)) (distinct : BuffersAreDistinct net) (kept : KeepingRules net labels reaches) (place : ℕ) (tag : List ℕ) where
  some-first : (scope : ℕ) → IsLabelledTag labels place scope tag → (rule : ℕ) × IsFirstTaker net place scope tag rule
  some-first scope labelled = pattern-taken net reaches place scope tag (label-pattern net labels reaches kept.labels_matched kept.covered place scope tag labelled)

  first-reached : (scope : ℕ) → IsLabelledTag labels place scope tag → (rule : ℕ) → IsFirstTaker net place scope tag rule → IsReachedTag reaches place scope rule tag
  first-reached scope labelled rule taker = taken-reached net reaches place scope tag (label-pattern net labels reaches kept.labels_matched kept.covered place scope tag labelled) rule taker

  handed-by : (scope : ℕ) (hop : Hop) → IsLabelledTag labels place scope tag → IsHandedTo (table_at net place) tag scope hop → IsHandedBy net reaches place scope tag hop
  handed-by scope hop labelled (taker, taken, c) =
      let first = taker-first net place scope tag taker taken in
      let found = hop-output first.1.found.outputs.items hop (subst (λ t. Contains t.hops hop) first.2 c) in
      record {
        rule = first.0;
        output = found.0;
        found = found.1;
        there = ap (option_and_then (λ (r : MatchRule A). slice_get r.outputs.items found.0)) first.1.is_found ∙ found.2;
        is = found.3;
        reached = first-reached scope labelled first.0 first.1;
      }

  -- ---- relabels

  relabel-goes : (scope target : ℕ) → IsLabelledTag labels place scope tag → IsRelabelled (table_at net place) tag scope target → GoesOn net reaches place scope target
  relabel-goes scope target labelled relabelled =
      let by = handed-by scope (to_scope target) labelled relabelled in
      (line_of by.found, (by.rule, by.output, by.found, by.there, reached-tag reaches place scope by.rule tag by.reached, scope-relabel by.found target by.is, refl))

  relabel-labelled : (scope target : ℕ) → IsLabelledTag labels place scope tag → IsRelabelled (table_at net place) tag scope target → IsLabelledTag labels place target tag
  relabel-labelled scope target labelled relabelled =
      let by = handed-by scope (to_scope target) labelled relabelled in
      reach-labelled labels reaches place scope by.rule place target None tag (kept.relabels place scope by.rule by.output by.found by.there target (scope-relabel by.found target by.is)) by.reached

  leads-labelled : {scope last : ℕ} → Chain (IsRelabelled (table_at net place) tag) scope last → IsLabelledTag labels place scope tag → IsLabelledTag labels place last tag
  leads-labelled here labelled = labelled
  leads-labelled (onward {start = scope} {next = target} r l) labelled = leads-labelled l (relabel-labelled scope target labelled r)

  leads-goes : {scope last : ℕ} → Chain (IsRelabelled (table_at net place) tag) scope last → IsLabelledTag labels place scope tag → Chain (GoesOn net reaches place) scope last
  leads-goes here labelled = here
  leads-goes (onward {start = scope} {next = target} r l) labelled = onward (relabel-goes scope target labelled r) (leads-goes l (relabel-labelled scope target labelled r))

  -- no chain of relabels comes back
  not_back : (scope next : ℕ) → IsLabelledTag labels place scope tag → IsRelabelled (table_at net place) tag scope next → Chain (IsRelabelled (table_at net place) tag) next scope → ⊥
  not_back scope next labelled relabelled back =
      let goes = (relabel-goes scope next labelled relabelled).1 in
      kept.no_cycle place scope goes.0 goes.1 goes.2 goes.3 goes.4 next goes.5 (leads-goes back (relabel-labelled scope next labelled relabelled))

  no_loop : (scope : ℕ) → IsLabelledTag labels place scope tag → ¬ IsLoop (table_at net place) tag scope
  no_loop scope labelled loop = not_back loop.again loop.next (leads-labelled loop.reached labelled) loop.left loop.back

  -- ---- leaves

  own-onward : (scope buffer : ℕ) → IsLabelledTag labels place scope tag → IsHandedTo (table_at net place) tag scope (to_buffer buffer) → IsLabelledOnward net labels place buffer tag
  own-onward scope buffer labelled handed found server at is c enters =
      let by = handed-by scope (to_buffer buffer) labelled handed in
      let there = output-found net distinct place scope by.rule by.output by.found buffer by.there (buffer-number by.found buffer by.is) in
      let same : found ≡ by.found = same_Some found by.found (sym is ∙ there) in
      reach-labelled labels reaches place scope by.rule at.relay at.scope (prefix_at net (address_of_server server)) tag
      (kept.forwards place scope by.rule by.output by.found by.there server (subst (λ (o : Output A). Contains (servers_of o) server) same c) at enters) by.reached

  leaf-onward : {scope buffer : ℕ} → IsLeaf (table_at net place) tag scope buffer → IsLabelledTag labels place scope tag → IsLabelledOnward net labels place buffer tag
  leaf-onward (own {scope = scope} {buffer = buffer} h) labelled = own-onward scope buffer labelled h
  leaf-onward (further {scope = scope} {target = target} r l) labelled = leaf-onward l (relabel-labelled scope target labelled r)

  -- where each output keeps or is a relabel, each leaf keeps
  own-keeps : EachOutputKeeps net reaches → (scope buffer : ℕ) → IsLabelledTag labels place scope tag → IsHandedTo (table_at net place) tag scope (to_buffer buffer) → IsSomeAnd (output_at net place buffer) Keeps
  own-keeps each scope buffer labelled handed =
      let by = handed-by scope (to_buffer buffer) labelled handed in
      let there = output-found net distinct place scope by.rule by.output by.found buffer by.there (buffer-number by.found buffer by.is) in
      let does = each-output (rule_at net place scope by.rule) by.output by.found by.there (λ r at. each place scope by.rule r at (reached-tag reaches place scope by.rule tag by.reached)) in
      let keeps : Keeps by.found = elim does [
        | inl keeps ↦ keeps
        | inr (target, relabels) ↦ absurd (let e = sym by.is ∙ relabel-scope by.found target relabels in cc)
      ] in
      subst (λ (x : Option (Output A)). IsSomeAnd x Keeps) (sym there) keeps

  pub leaf-keeps : EachOutputKeeps net reaches → {scope buffer : ℕ} → IsLeaf (table_at net place) tag scope buffer → IsLabelledTag labels place scope tag → IsSomeAnd (output_at net place buffer) Keeps
  leaf-keeps each (own {scope = scope} {buffer = buffer} h) labelled = own-keeps each scope buffer labelled h
  leaf-keeps each (further {scope = scope} {target = target} r l) labelled = leaf-keeps each l (relabel-labelled scope target labelled r)

  -- an output of the match that takes the event hands it on
  handed-on : (scope rule : ℕ) → (first : IsFirstTaker net place scope tag rule) → (o : ℕ) (found : Output A) (hop : Hop) → slice_get first.found.outputs.items o ≡ Some found → hop_of found ≡ Some hop → IsHandedTo (table_at net place) tag scope hop
  handed-on scope rule first o found hop e h = (rule_of first.found, first-taker net place scope tag rule first, output-hop first.found.outputs.items o found hop e h)

  -- the event comes to an output that keeps, or goes on to another scope
  step-of : (scope rule : ℕ) → (first : IsFirstTaker net place scope tag rule) → Any KeepsOrRelabels first.found.outputs.items → IsKeptAt net place scope tag ⊎ ((target : ℕ) × IsRelabelled (table_at net place) tag scope target)
  step-of scope rule first (o, found, less, is, inl keeps) =
      let e : slice_get first.found.outputs.items o ≡ Some found = slice_get_read first.found.outputs.items (length first.found.outputs.items) o found refl less (sym is) in
      let there : output_in_rule net place scope rule o ≡ Some found = ap (option_and_then (λ (r : MatchRule A). slice_get r.outputs.items o)) first.is_found ∙ e in
      let n = keeps-number found keeps in
      inl (record {
        buffer = n.0;
        leaf = own (handed-on scope rule first o found (to_buffer n.0) e (number-buffer found n.0 n.1));
        keeps = subst (λ (x : Option (Output A)). IsSomeAnd x Keeps) (sym (output-found net distinct place scope rule o found n.0 there n.1)) keeps;
      })
  step-of scope rule first (o, found, less, is, inr (target, relabels)) =
      let e : slice_get first.found.outputs.items o ≡ Some found = slice_get_read first.found.outputs.items (length first.found.outputs.items) o found refl less (sym is) in
      inr (target, handed-on scope rule first o found (to_scope target) e (relabel-scope found target relabels))

  step : (scope : ℕ) → IsLabelledTag labels place scope tag → IsKeptAt net place scope tag ⊎ ((target : ℕ) × IsRelabelled (table_at net place) tag scope target)
  step scope labelled =
      let first = some-first scope labelled in
      step-of scope first.0 first.1 (kept.kept place scope first.0 first.1.found first.1.is_found (reached-tag reaches place scope first.0 tag (first-reached scope labelled first.0 first.1)))

  -- a scope with a label is one of the relay
  labelled-within : (scope : ℕ) → IsLabelledTag labels place scope tag → scope < scope_count (relay_at net place)
  labelled-within scope labelled = let first = some-first scope labelled in scope-within (relay_at net place) scope first.0 first.1.found first.1.is_found

  -- the scope that comes now is behind the next one, as those before it are
  further-behind : (seen : List ℕ) (scope target : ℕ) → IsLabelledTag labels place scope tag → IsRelabelled (table_at net place) tag scope target → AreBehind net place tag seen scope → AreBehind net place tag (scope ∷ seen) target
  further-behind seen scope target labelled r behind before c =
      elim (cons-cases scope seen before c) [
        | inl same ↦ subst (λ x. IsBehind net place tag target x) same (record { within = labelled-within scope labelled; next = target; left = r; leads = here })
        | inr k ↦ let b = behind before k in record { within = b.within; next = b.next; left = b.left; leads = leads-on b.leads (onward r here) }
      ]

  not_seen : (seen : List ℕ) (scope : ℕ) → IsLabelledTag labels place scope tag → AreBehind net place tag seen scope → ¬ Contains seen scope
  not_seen seen scope labelled behind c = let b = behind scope c in not_back scope b.next labelled b.left b.leads

  -- so many scopes are at most those of the relay
  few-seen : (seen : List ℕ) (scope : ℕ) → IsLabelledTag labels place scope tag → AreApart seen → AreBehind net place tag seen scope → suc (length seen) ≤ scope_count (relay_at net place)
  few-seen seen scope labelled apart behind =
      apart-few (scope ∷ seen) (scope_count (relay_at net place)) (not_seen seen scope labelled behind, apart)
      (λ x c. elim (cons-cases scope seen x c) [
        | inl same ↦ subst (λ y. y < scope_count (relay_at net place)) same (labelled-within scope labelled)
        | inr k ↦ (behind x k).within
      ])

  -- a way that has gone through these scopes comes to an output that keeps
  kept-from : (left : ℕ) (seen : List ℕ) (scope : ℕ) → IsLabelledTag labels place scope tag → AreApart seen → AreBehind net place tag seen scope → scope_count (relay_at net place) ≤ length seen + left → IsKeptAt net place scope tag
  kept-from zero seen scope labelled apart behind enough =
      let few = few-seen seen scope labelled apart behind in
      absurd (omega (arith, few, enough))
  kept-from (suc left) seen scope labelled apart behind enough =
      elim (step scope labelled) [
        | inl found ↦ found
        | inr (target, r) ↦ (
            let k = kept-from left (scope ∷ seen) target (relabel-labelled scope target labelled r) (not_seen seen scope labelled behind, apart) (further-behind seen scope target labelled r behind) (omega (arith, enough)) in
            record { buffer = k.buffer; leaf = further r k.leaf; keeps = k.keeps })
      ]

  kept-at : (scope : ℕ) → IsLabelledTag labels place scope tag → IsKeptAt net place scope tag
  kept-at scope labelled = kept-from (scope_count (relay_at net place)) [] scope labelled tt (λ before c. absurd (nil-none before c)) (omega arith)

  pub safe-way : (scope : ℕ) → IsLabelledTag labels place scope tag → IsSafeWay net labels reaches place scope tag
  safe-way scope labelled =
      let first = some-first scope labelled in
      let k = kept-at scope labelled in
      record {
        rule = first.0;
        taken = first.1;
        reached = first-reached scope labelled first.0 first.1;
        no_loop = no_loop scope labelled;
        buffer = k.buffer;
        leaf = k.leaf;
        keeps = k.keeps;
        onward = λ other leaf. leaf-onward leaf labelled;
      }

-- under the rules each tag of a label has a safe way from the label's scope
pub labelled_safe : {A : Type 0} (net : Network A) (labels : List (Label A)) (reaches : List (Reach A)) → BuffersAreDistinct net → KeepingRules net labels reaches → (place scope : ℕ) (tag : List ℕ) → IsLabelledTag labels place scope tag → IsSafeWay net labels reaches place scope tag
labelled_safe net labels reaches distinct kept place scope tag labelled = safe-way net labels reaches distinct kept place tag scope labelled

-- where each output of each reached match keeps or is a relabel besides, each leaf of the way keeps
pub labelled_kept : {A : Type 0} (net : Network A) (labels : List (Label A)) (reaches : List (Reach A)) → BuffersAreDistinct net → KeepingRules net labels reaches → EachOutputKeeps net reaches
    → (place scope : ℕ) (tag : List ℕ) → IsLabelledTag labels place scope tag → (buffer : ℕ) → IsLeaf (table_at net place) tag scope buffer → IsSomeAnd (output_at net place buffer) Keeps
labelled_kept net labels reaches distinct kept each place scope tag labelled buffer leaf = leaf-keeps net labels reaches distinct kept place tag each leaf labelled
