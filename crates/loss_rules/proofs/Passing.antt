-- How the tags of labels go on: to the reaches of the match that takes an event, and from there to
-- further labels.
use Rattle.std.proofs.Common.{ℕ, List, Option, Some, None, subst₂, inl, inr, Any, All}
use Rattle.std.proofs.lemmas.List.Elements.{All-contains}
use Rattle.tag_pattern.specs.Items.{Item}
use Rattle.tag_pattern.specs.Parts.{parts_of}
use Rattle.tag_pattern.specs.Patterns.{IsTagOf, Fits}
use Rattle.tag_pattern.specs.Prefixes.{entered_items, entered_tag}
use Rattle.tag_pattern.proofs.Prefixing.{same_behind}
use Rattle.tag_pattern.proofs.Sets.{subset, common_meets}
use Rattle.relay_net.specs.Network.{Network}
use Rattle.route_graph.specs.Ways.{HaveTag}
use Rattle.loss_rules.specs.Labels.{IsReachOf, FitsLabelWith, IsReached, EachReach, IsLabelledTag, IsReachedTag}
use Rattle.loss_rules.specs.Rules.{IsMatched, IsMatchedLabel, LabelsAreMatched, IsCovered, IsCoveredLabel, ReachesCoverLabel, ReachesCover, FitsMatch}
use Rattle.loss_rules.specs.declared.label.Label.{Label}
use Rattle.loss_rules.specs.declared.label.Reach.{Reach}
use Rattle.loss_rules.specs.SafeWays.{IsFirstTaker}
use Rattle.loss_rules.proofs.Takers.{some-taker}
use Rattle.relay_conf.specs.declared.relay.MatchRule.{MatchRule}
use Rattle.loss_rules.specs.Sites.{rule_at}
use Rattle.std.specs.Prelude.{◌<◌, ◌≡◌}

-- what fits one of some patterns has no tag that they lack
fits-have : (p : List Item) (patterns : List (List Item)) (tag : List ℕ) → Any (Fits p) patterns → IsTagOf p tag → HaveTag patterns tag
fits-have p patterns tag (k, q, less, is, fit) h = (k, q, less, is, subset fit (parts_of tag) h)

pub reached-tag : {A : Type 0} (reaches : List (Reach A)) (place scope rule : ℕ) (tag : List ℕ) → IsReachedTag reaches place scope rule tag → IsReached reaches place scope rule
reached-tag reaches place scope rule tag (k, reach, less, is, h) = (k, reach, less, is, h.0)

-- a tag of the pattern, with what is put in front of it, is one of the pattern with that in front
pub entered-tag : (prefix : Option (List ℕ)) (p : List Item) (tag : List ℕ) → IsTagOf p tag → IsTagOf (entered_items prefix p) (entered_tag prefix tag)
entered-tag None p tag h = h
entered-tag (Some prefix) p tag h = (same_behind prefix p tag).0 h

-- where each reach of a match fits a label of a scope, with this in front, a tag of a reach with
-- this in front is one of a label there
pub reach-labelled : {A : Type 0} (labels : List (Label A)) (reaches : List (Reach A)) (place scope rule to_place to_scope : ℕ) (prefix : Option (List ℕ)) (tag : List ℕ) → EachReach reaches place scope rule (FitsLabelWith labels to_place to_scope prefix)
    → IsReachedTag reaches place scope rule tag → IsLabelledTag labels to_place to_scope (entered_tag prefix tag)
reach-labelled labels reaches place scope rule to_place to_scope prefix tag each (k, reach, less, is, (of, (i, p, within, here, h))) =
    let fits = All-contains (λ r. IsReachOf place scope rule r → All (FitsLabelWith labels to_place to_scope prefix) r.patterns.items) reaches reach each (k, less, is) of in
    let fit = All-contains (FitsLabelWith labels to_place to_scope prefix) reach.patterns.items p fits (i, within, here) in
    (fit.0, fit.1, fit.2, fit.3, (fit.4.0, fits-have (entered_items prefix p) fit.1.patterns.items (entered_tag prefix tag) fit.4.1 (entered-tag prefix p tag h)))

-- A pattern of a label of the scope that has the tag.
pub record IsLabelPattern {A : Type 0} (net : Network A) (reaches : List (Reach A)) (place scope : ℕ) (tag : List ℕ) : Type 0 where
  pub pattern : List Item
  pub has : IsTagOf pattern tag
  pub matched : IsMatched net place scope pattern
  pub covered : ReachesCoverLabel net reaches place scope pattern

pub label-pattern : {A : Type 0} (net : Network A) (labels : List (Label A)) (reaches : List (Reach A)) → LabelsAreMatched net labels → ReachesCover net labels reaches → (place scope : ℕ) (tag : List ℕ) → IsLabelledTag labels place scope tag
    → IsLabelPattern net reaches place scope tag
label-pattern net labels reaches matched covered place scope tag (k, label, less, is, (of, (i, p, within, here, h))) =
    let all_matched = All-contains (IsMatchedLabel net) labels label matched (k, less, is) in
    let all_covered = All-contains (IsCoveredLabel net reaches) labels label covered (k, less, is) in
    record {
      pattern = p;
      has = h;
      matched = subst₂ (λ a b. IsMatched net a b p) of.0 of.1 (All-contains (IsMatched net label.place label.scope) label.patterns.items p all_matched (i, within, here));
      covered = subst₂ (λ a b. ReachesCoverLabel net reaches a b p) of.0 of.1 (All-contains (ReachesCoverLabel net reaches label.place label.scope) label.patterns.items p all_covered (i, within, here));
    }

-- an event with the label's tag is taken by some match
pub pattern-taken : {A : Type 0} (net : Network A) (reaches : List (Reach A)) (place scope : ℕ) (tag : List ℕ) → IsLabelPattern net reaches place scope tag → (rule : ℕ) × IsFirstTaker net place scope tag rule
pattern-taken net reaches place scope tag labelled =
    let matched = labelled.matched in
    some-taker net place scope tag matched.0 matched.1 matched.2 (fits-have labelled.pattern matched.1.patterns.items tag matched.3 labelled.has)

covered-reached : {A : Type 0} (reaches : List (Reach A)) (place scope rule : ℕ) (label pattern : List Item) (tag : List ℕ) → IsTagOf label tag → IsTagOf pattern tag → IsCovered reaches place scope rule label pattern → IsReachedTag reaches place scope rule tag
covered-reached reaches place scope rule label pattern tag of_label of_pattern (inl apart) = absurd (apart (common_meets pattern label (parts_of tag) of_pattern of_label))
covered-reached reaches place scope rule label pattern tag of_label of_pattern (inr (inl (k, reach, less, is, (of, fits)))) = (k, reach, less, is, (of, fits-have label reach.patterns.items tag fits of_label))
covered-reached reaches place scope rule label pattern tag of_label of_pattern (inr (inr (k, reach, less, is, (of, fits)))) = (k, reach, less, is, (of, fits-have pattern reach.patterns.items tag fits of_pattern))

-- the match that takes such an event has a reach with the tag
pub taken-reached : {A : Type 0} (net : Network A) (reaches : List (Reach A)) (place scope : ℕ) (tag : List ℕ) → IsLabelPattern net reaches place scope tag → (rule : ℕ) → IsFirstTaker net place scope tag rule → IsReachedTag reaches place scope rule tag
taken-reached {A} net reaches place scope tag labelled rule taker = by taker.has
  where
    fits_none : ((before : ℕ) (found : MatchRule A) → before < rule → rule_at net place scope before ≡ Some found → ¬ FitsMatch labelled.pattern found)
    fits_none before other less e fits = taker.others before other less e (fits-have labelled.pattern other.patterns.items tag fits labelled.has)

    by : HaveTag taker.found.patterns.items tag → IsReachedTag reaches place scope rule tag
    by (k, p, less, is, h) =
        covered-reached reaches place scope rule labelled.pattern p tag labelled.has h
        (All-contains (IsCovered reaches place scope rule labelled.pattern) taker.found.patterns.items p (labelled.covered labelled.matched rule taker.found taker.is_found fits_none) (k, less, is))
