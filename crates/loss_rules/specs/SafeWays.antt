-- What the rules on labels give to every tag of a label.
use Rattle.std.specs.Prelude.{◌≡◌, ◌<◌, ℕ, List, Some, Contains, IsSomeAnd}
use Rattle.relay_conf.specs.declared.output.Output.{Output}
use Rattle.relay_conf.specs.declared.output.Server.{Server}
use Rattle.relay_conf.specs.declared.relay.MatchRule.{MatchRule}
use Rattle.relay_net.specs.Network.{Network, entrance, tag_at, address_of_server, output_at}
use Rattle.relay_net.specs.Outputs.{servers_of, Keeps}
use Rattle.relay_net.specs.Ways.{table_at}
use Rattle.relay_net.specs.declared.address.Entrance.{Entrance}
use Rattle.route_graph.specs.Ways.{HaveTag, IsLeaf, IsLoop}
use Rattle.loss_rules.specs.Breaks.{Subject, AreKeepingRulesKept}
use Rattle.loss_rules.specs.Labels.{IsLabelledTag, IsReachedTag}
use Rattle.loss_rules.specs.Sites.{rule_at, BuffersAreDistinct}
use Rattle.loss_rules.specs.declared.label.Duty.TheVariants as duty
use Rattle.loss_rules.specs.declared.label.Label.{Label}
use Rattle.loss_rules.specs.declared.label.Reach.{Reach}

-- The match with this place is the first of the scope one of whose patterns has the tag.
pub record IsFirstTaker {A : Type 0} (net : Network A) (place scope : ℕ) (tag : List ℕ)
    (rule : ℕ) : Type 0 where
  pub found : MatchRule A
  pub is_found : rule_at net place scope rule ≡ Some found
  pub has : HaveTag found.patterns.items tag
  pub others : (before : ℕ) (other : MatchRule A) → before < rule → rule_at net place scope before
      ≡ Some other → ¬ HaveTag other.patterns.items tag

-- Wherever the output of this buffer forwards to, the tag is one of a label there, with the prefix
-- that it gets there.
abbrev pub IsLabelledOnward : {A : Type 0} → Network A → List (Label A) → ℕ → ℕ → List ℕ → Type 0
IsLabelledOnward {A} net labels place buffer tag = (found : Output A) (server : Server A)
    (at : Entrance) → output_at net place buffer ≡ Some found
    → Contains (servers_of found) server → entrance net (address_of_server server) ≡ Some at
    → IsLabelledTag labels at.relay at.scope (tag_at net (address_of_server server) tag)

-- The tag's way from this scope keeps the event: the match that takes it has a reach with the tag;
-- no chain of relabels comes back; an output that keeps is among those reached; and whatever is
-- reached forwards only to where the tag, as it is prefixed there, is one of a label.
pub record IsSafeWay {A : Type 0} (net : Network A) (labels : List (Label A))
    (reaches : List (Reach A)) (place scope : ℕ) (tag : List ℕ) : Type 0 where
  pub rule : ℕ
  pub taken : IsFirstTaker net place scope tag rule
  pub reached : IsReachedTag reaches place scope rule tag
  pub no_loop : ¬ IsLoop (table_at net place) tag scope
  pub buffer : ℕ
  pub leaf : IsLeaf (table_at net place) tag scope buffer
  pub keeps : IsSomeAnd (output_at net place buffer) Keeps
  pub onward : (other : ℕ) → IsLeaf (table_at net place) tag scope other
      → IsLabelledOnward net labels place other tag

-- Under the rules, each tag of a label has such a way from the label's scope.
abbrev pub LabelledTagsAreSafe : Type 0 → Type 0
LabelledTagsAreSafe A = (s : Subject A) → BuffersAreDistinct s.net → AreKeepingRulesKept s
    → (place scope : ℕ) (tag : List ℕ) → IsLabelledTag s.labels place scope tag
    → IsSafeWay s.net s.labels s.reaches place scope tag

-- Under the duty every each leaf of such a way is of an output that keeps.
abbrev pub LabelledLeavesKeep : Type 0 → Type 0
LabelledLeavesKeep A = (s : Subject A) → BuffersAreDistinct s.net → AreKeepingRulesKept s
    → s.duty ≡ duty.Every → (place scope : ℕ) (tag : List ℕ)
    → IsLabelledTag s.labels place scope tag → (buffer : ℕ)
    → IsLeaf (table_at s.net place) tag scope buffer
    → IsSomeAnd (output_at s.net place buffer) Keeps
