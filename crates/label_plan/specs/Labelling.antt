-- What a plan's text is with the labels and reaches that it lacks.
use Rattle.std.specs.Prelude.{◌≡◌, ℕ, List, ◌++◌}
use Rattle.label_plan.specs.Plans.{IsDropped}
use Rattle.label_plan.specs.declared.name.DropName.{DropName}
use Rattle.loss_rules.specs.Breaks.{Subject}
use Rattle.loss_rules.specs.Rules.{ClientsAreLabelled, ReachesCover, RelabelsAreLabelled, ForwardsAreLabelled}
use Rattle.loss_rules.specs.declared.label.Label.{Label}
use Rattle.loss_rules.specs.declared.label.Reach.{Reach}
use Rattle.plan_lines.specs.Plans.{IsPlanOf}
use Rattle.relay_net.specs.Network.{Network}
use Rattle.text_lines.specs.Lines.{text_lines}

-- The second plan is the first with labels and reaches added behind its own: it has the same
-- relays, clients and duty.
pub record Extends {A : Type 0} (before after : Subject A) : Type 0 where
  pub net_is : after.net ≡ before.net
  pub relay_lines_are : after.relay_lines ≡ before.relay_lines
  pub client_lines_are : after.client_lines ≡ before.client_lines
  pub duty_is : after.duty ≡ before.duty
  pub labels : List (Label A)
  pub labels_are : after.labels ≡ before.labels ++ labels
  pub reaches : List (Reach A)
  pub reaches_are : after.reaches ≡ before.reaches ++ reaches

-- Labels and reaches close a network: whatever its clients send is of a label and of reaches where
-- it comes, and where it is sent on to. These are the rules on clients, coverage, relabels and
-- forwards.
pub record IsClosed {A : Type 0} (net : Network A) (labels : List (Label A))
    (reaches : List (Reach A)) : Type 0 where
  pub clients : ClientsAreLabelled net labels
  pub covered : ReachesCover net labels reaches
  pub relabels : RelabelsAreLabelled net labels reaches
  pub forwards : ForwardsAreLabelled net labels reaches

-- The second text has the lines of the first, and others behind them; with them it says the plan of
-- the first with labels and reaches added, and these close it.
pub record IsLabelled (A : Type 0) (confs : List (List ℕ)) (given text : List ℕ) : Type 0 where
  pub lines : List (List ℕ)
  pub lines_are : text_lines text ≡ text_lines given ++ lines
  pub before : Subject A
  pub was : IsPlanOf given confs before
  pub after : Subject A
  pub is : IsPlanOf text confs after
  pub extends : Extends before after
  pub closed : IsClosed after.net after.labels after.reaches

-- The same of the plan at whose named matches events are let go: the labels and reaches close that
-- one.
pub record IsLabelledDropping (A : Type 0) (confs : List (List ℕ)) (names : List DropName)
    (given text : List ℕ) : Type 0 where
  pub lines : List (List ℕ)
  pub lines_are : text_lines text ≡ text_lines given ++ lines
  pub before : Subject A
  pub was : IsPlanOf given confs before
  pub after : Subject A
  pub is : IsPlanOf text confs after
  pub extends : Extends before after
  pub changed : Subject A
  pub dropped : IsDropped after names changed
  pub closed : IsClosed changed.net changed.labels changed.reaches
