-- Where no matches are named.
use Rattle.std.proofs.Common.{ℕ, List, [], Option, Some, None, refl, subst}
use Rattle.std.specs.Prelude.{IfSome}
use Rattle.std.specs.declared.vec.Vec.{Vec}
use Rattle.loss_rules.specs.Breaks.{Subject}
use Rattle.label_plan.specs.Labelling.{IsClosed, IsLabelled, IsLabelledDropping}

-- the plan itself is closed
all_closed : {A : Type 0} (confs : List (List ℕ)) (given text : List ℕ) → IsLabelledDropping A confs [] given text → IsLabelled A confs given text
all_closed confs given text h = record {
  lines = h.lines;
  lines_are = h.lines_are;
  before = h.before;
  was = h.was;
  after = h.after;
  is = h.is;
  extends = h.extends;
  closed = subst (λ (plan : Subject _). IsClosed plan.net plan.labels plan.reaches) (h.dropped.unchanged refl) h.closed;
}

pub all_kept : {A : Type 0} (confs : List (List ℕ)) (given : List ℕ) (found : Option (Vec ℕ A)) → IfSome found (λ text. IsLabelledDropping A confs [] given text.items) → IfSome found (λ text. IsLabelled A confs given text.items)
all_kept confs given None h = tt
all_kept confs given (Some text) h = all_closed confs given text.items h
