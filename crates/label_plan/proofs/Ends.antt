-- Where events end that a match takes whose one output is a sink.
use Rattle.std.proofs.Common.{◌≡◌, ◌<◌, ◌⊎◌, inl, ℕ, zero, suc, List, [], ◌∷◌, length, get_or, slice_get, Some, All, Any, Contains, refl, sym, ap, subst, ◌∙◌, arith}
use Rattle.std.specs.Option.{option_and_then}
use Rattle.std.proofs.lemmas.Option.{same_Some}
use Rattle.relay_conf.specs.Buffers.{buffer_number}
use Rattle.relay_conf.specs.declared.output.Output.{Output}
use Rattle.relay_conf.specs.declared.output.Output.TheVariants as output
use Rattle.relay_conf.specs.declared.relay.MatchRule.{MatchRule}
use Rattle.relay_net.specs.Network.{Network}
use Rattle.relay_net.specs.Outputs.{Keeps}
use Rattle.relay_net.specs.Ways.{table_at}
use Rattle.route_graph.specs.Chains.{Chain, here, onward}
use Rattle.route_graph.specs.Table.{Rule, hop_of, rule_of}
use Rattle.route_graph.specs.Ways.{IsHandedTo, IsRelabelled, IsLeaf, own, further, IsLoop, rules_at}
use Rattle.route_graph.specs.declared.hop.Hop.{Hop}
use Rattle.route_graph.proofs.Takers.{taker-unique}
use Rattle.loss_rules.specs.Rules.{DoesDuty, KeepsOrRelabels}
use Rattle.loss_rules.specs.SafeWays.{IsFirstTaker}
use Rattle.loss_rules.specs.Sites.{rule_at, output_in_rule, BuffersAreDistinct, RelabelsTo}
use Rattle.loss_rules.specs.declared.label.Duty.{Duty}
use Rattle.loss_rules.specs.declared.label.Duty.TheVariants as duty
use Rattle.loss_rules.proofs.Hops.{to_buffer, to_scope, hop-output, output-hop, buffer-number, number-buffer, scope-relabel, keeps-number}
use Rattle.loss_rules.proofs.Sites.{output-found}
use Rattle.loss_rules.proofs.Takers.{first-taker}
use Rattle.label_plan.specs.Laws.{EndsThere}
use Rattle.label_plan.specs.Sinks.{IsKeepingSink, EndsInSink}
use Rattle.label_plan.proofs.Dropping.{only_one}

pub sink_keeps : {A : Type 0} (line : ℕ) (found : Output A) → IsKeepingSink line found → Keeps found
sink_keeps line (output.Null at) h = absurd h
sink_keeps line (output.Relabel target at) h = absurd h
sink_keeps line (output.Forward settings at) h = absurd h
sink_keeps line (output.File settings at) h = h.0

sink_stays : {A : Type 0} (line : ℕ) (found : Output A) (scope : ℕ) → IsKeepingSink line found → ¬ RelabelsTo found scope
sink_stays line (output.Null at) scope h goes = absurd h
sink_stays line (output.Relabel target at) scope h goes = absurd h
sink_stays line (output.Forward settings at) scope h goes = absurd h
sink_stays line (output.File settings at) scope h goes = absurd goes

module _ {A : Type 0} (net : Network A) (distinct : BuffersAreDistinct net) (place scope rule : ℕ) (e : EndsInSink net place scope rule) (tag : List ℕ) (first : IsFirstTaker net place scope tag rule) where
  keeps : Keeps e.sink
  keeps = sink_keeps e.found.line e.sink e.keeps

  number : (n : ℕ) × (buffer_number e.sink ≡ Some n)
  number = keeps-number e.sink keeps

  outputs_are : first.found.outputs.items ≡ e.sink ∷ []
  outputs_are = ap (λ (m : MatchRule A). m.outputs.items) (same_Some first.found e.found (sym first.is_found ∙ e.is_found)) ∙ e.outputs_are

  sink_there : slice_get first.found.outputs.items 0 ≡ Some e.sink
  sink_there = ap (λ l. slice_get l 0) outputs_are

  sink_is : output_in_rule net place scope rule 0 ≡ Some e.sink
  sink_is = ap (option_and_then (λ m. slice_get m.outputs.items 0)) first.is_found ∙ sink_there

  -- what such an event is handed to is the sink
  handed : (hop : Hop) → IsHandedTo (table_at net place) tag scope hop → hop_of e.sink ≡ Some hop
  handed hop (taker, taken, c) =
      let same : taker ≡ rule_of first.found = taker-unique (rules_at (table_at net place) scope) tag taker (rule_of first.found) taken (first-taker net place scope tag rule first) in
      let found = hop-output first.found.outputs.items hop (subst (λ (t : Rule). Contains t.hops hop) same c) in
      ap hop_of (only_one e.sink found.1 found.0 (ap (λ l. slice_get l found.0) (sym outputs_are) ∙ found.2)).1 ∙ found.3

  stays : (target : ℕ) → ¬ IsRelabelled (table_at net place) tag scope target
  stays target goes = sink_stays e.found.line e.sink target e.keeps (scope-relabel e.sink target (handed (to_scope target) goes))

  leaf : IsLeaf (table_at net place) tag scope number.0
  leaf = own (rule_of first.found, first-taker net place scope tag rule first, output-hop first.found.outputs.items 0 e.sink (to_buffer number.0) sink_there (number-buffer e.sink number.0 number.1))

  only : (other : ℕ) → IsLeaf (table_at net place) tag scope other → other ≡ number.0
  only other (own h) = same_Some other number.0 (sym (buffer-number e.sink other (handed (to_buffer other) h)) ∙ number.1)
  only other (further {target = target} goes more) = absurd (stays target goes)

  no_loop : ¬ IsLoop (table_at net place) tag scope
  no_loop loop = by loop.again loop.reached loop.next loop.left
    where
      by : (again : ℕ) → Chain (IsRelabelled (table_at net place) tag) scope again → (next : ℕ) → IsRelabelled (table_at net place) tag again next → ⊥
      by again here next left = stays next left
      by again (onward {next = target} goes more) next left = stays target goes

  pub ends_there : EndsThere net place scope rule tag
  ends_there = record {
    sink = e.sink;
    sink_is = sink_is;
    keeps = keeps;
    buffer = number.0;
    output_is = output-found net distinct place scope rule 0 e.sink number.0 sink_is number.1;
    leaf = leaf;
    only = only;
    no_loop = no_loop;
  }

-- the output keeps, or sends events on
abbrev Does : {A : Type 0} → Output A → Type 0
Does o = Keeps o ⊎ ((target : ℕ) × RelabelsTo o target)

pub does_duty : {A : Type 0} (net : Network A) (place scope rule : ℕ) → EndsInSink net place scope rule → (found : MatchRule A) → rule_at net place scope rule ≡ Some found → (asked : Duty) → DoesDuty asked found
does_duty {A} net place scope rule e found is asked = by asked
  where
    outputs : found.outputs.items ≡ e.sink ∷ []
    outputs = ap (λ (m : MatchRule A). m.outputs.items) (same_Some found e.found (sym is ∙ e.is_found)) ∙ e.outputs_are

    does : Does e.sink
    does = inl (sink_keeps e.found.line e.sink e.keeps)

    one : Any KeepsOrRelabels found.outputs.items
    one = subst (λ l. Any Does l) (sym outputs) (0, e.sink, omega arith, refl, does)

    each_one : (k : ℕ) (d : Output A) → k < length (e.sink ∷ []) → Does (get_or (e.sink ∷ []) k d)
    each_one zero d less = does
    each_one (suc k) d less = absurd (omega (arith, less))

    all : All KeepsOrRelabels found.outputs.items
    all = subst (λ l. All Does l) (sym outputs) each_one

    by : (asked : Duty) → DoesDuty asked found
    by duty.Any = one
    by duty.Every = (one, all)
