-- The rules by what they say of a network, labels and reaches.
use Rattle.std.proofs.Common.{◌≡◌, List, get_or, refl, subst, Any, All, Contains}
use Rattle.std.proofs.lemmas.List.Elements.{All-contains}
use Rattle.std.proofs.lemmas.Option.{slice_get-get_or}
use Rattle.relay_conf.specs.declared.relay.MatchRule.{MatchRule}
use Rattle.relay_net.specs.Network.{Network}
use Rattle.loss_rules.specs.Breaks.{Subject, IsKept, AreKeepingRulesKept}
use Rattle.loss_rules.specs.Labels.{IsReached}
use Rattle.loss_rules.specs.Rules.{ServersAreSources, IsLabelledClient, ClientsAreLabelled, IsMatchedLabel, LabelsAreMatched, IsCoveredLabel, ReachesCover, KeepsOrRelabels, DoesDuty, ReachedMatchesDo, RelabelsAreLabelled, ForwardsAreLabelled, PathsAreDistinct, NoRelabelCycle}
use Rattle.loss_rules.specs.Sites.{EachMatch, line_of}
use Rattle.loss_rules.specs.declared.answer.Rule.TheVariants as rule
use Rattle.loss_rules.specs.declared.label.Duty.{Duty}
use Rattle.loss_rules.specs.declared.label.Duty.TheVariants as duty
use Rattle.loss_rules.specs.declared.label.Label.{Label}
use Rattle.loss_rules.specs.declared.label.Reach.{Reach}
use Rattle.loss_rules.proofs.Places.{contained, place_of_contained}
use Rattle.loss_rules.proofs.SharedPaths.{distinct_are_first}

module _ {A : Type 0} (s : Subject A) where
  -- What is so of all holds in each line.

  pub servers_kept : ServersAreSources s.net → IsKept s rule.ServersAreSources
  servers_kept all = ((λ line. tt), λ place line x at. all place x.0 x.1 x.2 x.3 at.0 x.4 at.1)

  pub clients_kept : ClientsAreLabelled s.net s.labels → IsKept s rule.ClientsAreLabelled
  clients_kept all = ((λ line x at. All-contains (IsLabelledClient s.net s.labels) s.net.clients x.1 all (contained s.net.clients x.0 x.1 at.0)), λ place line. tt)

  pub labels_kept : LabelsAreMatched s.net s.labels → IsKept s rule.LabelsAreMatched
  labels_kept all = ((λ line label at. All-contains (IsMatchedLabel s.net) s.labels label all at.0), λ place line. tt)

  pub covers_kept : ReachesCover s.net s.labels s.reaches → IsKept s rule.ReachesCover
  covers_kept all = ((λ line label at. All-contains (IsCoveredLabel s.net s.reaches) s.labels label all at.0), λ place line. tt)

  pub matches_kept : ReachedMatchesDo s.net s.duty s.reaches → IsKept s rule.ReachedMatchesKeep
  matches_kept all = ((λ line. tt), λ place line x at. all place x.0 x.1 x.2 at.0)

  pub relabels_kept : RelabelsAreLabelled s.net s.labels s.reaches → IsKept s rule.RelabelsAreLabelled
  relabels_kept all = ((λ line. tt), λ place line x at. all place x.0 x.1 x.2 x.3 at.0)

  pub forwards_kept : ForwardsAreLabelled s.net s.labels s.reaches → IsKept s rule.ForwardsAreLabelled
  forwards_kept all = ((λ line. tt), λ place line x at. all place x.0 x.1 x.2 x.3 at.0 x.4 at.1)

  pub paths_kept : PathsAreDistinct s.net → IsKept s rule.PathsAreDistinct
  paths_kept all = ((λ line. tt), λ place line x at. distinct_are_first s.net all place x.0 x.1 x.2 x.3 at.0)

  pub cycles_kept : NoRelabelCycle s.net s.reaches → IsKept s rule.NoRelabelCycle
  cycles_kept all = ((λ line. tt), λ place line x at. all place x.0 x.1 x.2 x.3 at.0)

-- The rules that keep events.
pub record KeepingRules {A : Type 0} (net : Network A) (labels : List (Label A)) (reaches : List (Reach A)) : Type 0 where
  pub servers : ServersAreSources net
  pub clients : ClientsAreLabelled net labels
  pub labels_matched : LabelsAreMatched net labels
  pub covered : ReachesCover net labels reaches
  pub kept : EachMatch net (λ place scope rule found. IsReached reaches place scope rule → Any KeepsOrRelabels found.outputs.items)
  pub relabels : RelabelsAreLabelled net labels reaches
  pub forwards : ForwardsAreLabelled net labels reaches
  pub no_cycle : NoRelabelCycle net reaches

-- Each output of each reached match keeps, or sends events on to another scope.
abbrev pub EachOutputKeeps : {A : Type 0} → Network A → List (Reach A) → Type 0
EachOutputKeeps net reaches = EachMatch net (λ place scope rule found. IsReached reaches place scope rule → All KeepsOrRelabels found.outputs.items)

-- a match that does its duty, whichever it is, has an output that keeps or a relabel
does_any : {A : Type 0} (asked : Duty) (found : MatchRule A) → DoesDuty asked found → Any KeepsOrRelabels found.outputs.items
does_any duty.Any found does = does
does_any duty.Every found does = does.0

does_every : {A : Type 0} (asked : Duty) (found : MatchRule A) → asked ≡ duty.Every → DoesDuty asked found → All KeepsOrRelabels found.outputs.items
does_every duty.Any found is does = absurd (cc)
does_every duty.Every found is does = does.1

-- where this is so of each element that is contained, it is so of all
all_contained : {X : Type 0} (P : X → Type 0) (xs : List X) → ((x : X) → Contains xs x → P x) → All P xs
all_contained P xs each k d less = each (get_or xs k d) (contained xs k (get_or xs k d) (slice_get-get_or xs k d less))

module _ {A : Type 0} (s : Subject A) (rules : AreKeepingRulesKept s) where
  -- What holds in each line is so of all.

  pub matches_do : ReachedMatchesDo s.net s.duty s.reaches
  matches_do place scope r found at = (rules rule.ReachedMatchesKeep (λ e. absurd (cc)) (λ e. absurd (cc))).1 place found.line (scope, r, found) (at, refl)

  pub keeping_rules : KeepingRules s.net s.labels s.reaches
  keeping_rules = record {
    servers = λ place scope r output found at server among. (rules rule.ServersAreSources (λ e. absurd (cc)) (λ e. absurd (cc))).1 place server.line (scope, r, output, found, server) (at, among, refl);
    clients = all_contained (IsLabelledClient s.net s.labels) s.net.clients (λ client among.
        let at = place_of_contained s.net.clients client among in
        (rules rule.ClientsAreLabelled (λ e. absurd (cc)) (λ e. absurd (cc))).0 (get_or s.client_lines at.0 0) (at.0, client) (at.1, refl));
    labels_matched = all_contained (IsMatchedLabel s.net) s.labels (λ label among. (rules rule.LabelsAreMatched (λ e. absurd (cc)) (λ e. absurd (cc))).0 label.line label (among, refl));
    covered = all_contained (IsCoveredLabel s.net s.reaches) s.labels (λ label among. (rules rule.ReachesCover (λ e. absurd (cc)) (λ e. absurd (cc))).0 label.line label (among, refl));
    kept = λ place scope r found at reached. does_any s.duty found (matches_do place scope r found at reached);
    relabels = λ place scope r output found at. (rules rule.RelabelsAreLabelled (λ e. absurd (cc)) (λ e. absurd (cc))).1 place (line_of found) (scope, r, output, found) (at, refl);
    forwards = λ place scope r output found at server among. (rules rule.ForwardsAreLabelled (λ e. absurd (cc)) (λ e. absurd (cc))).1 place server.line (scope, r, output, found, server) (at, among, refl);
    no_cycle = λ place scope r output found at. (rules rule.NoRelabelCycle (λ e. absurd (cc)) (λ e. absurd (cc))).1 place (line_of found) (scope, r, output, found) (at, refl);
  }

  pub each_output_keeps : s.duty ≡ duty.Every → EachOutputKeeps s.net s.reaches
  each_output_keeps every place scope r found at reached = does_every s.duty found every (matches_do place scope r found at reached)

-- The same in the network that a plan has.

pub keeping_rules_in : {A : Type 0} (s : Subject A) (net : Network A) → s.net ≡ net → AreKeepingRulesKept s → KeepingRules net s.labels s.reaches
keeping_rules_in s net is rules = subst (λ (n : Network _). KeepingRules n s.labels s.reaches) is (keeping_rules s rules)

pub each_output_keeps_in : {A : Type 0} (s : Subject A) (net : Network A) → s.net ≡ net → AreKeepingRulesKept s → s.duty ≡ duty.Every → EachOutputKeeps net s.reaches
each_output_keeps_in s net is rules every = subst (λ (n : Network _). EachOutputKeeps n s.reaches) is (each_output_keeps s rules every)
