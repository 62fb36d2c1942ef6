use Rattle.std.proofs.Common.{sym, ◌∙◌, subst, arith}
use Rattle.std.specs.Prelude.{vec_len}
use Rattle.loss_rules.specs.Rules.{ReachesCover}
use Rattle.label_plan.proofs.Nones.{none_listed}
use Rattle.label_plan.proofs.certificate.is_closed_by.Goals as goal

pub returns : goal.returns
returns g c closed = record {
  clients = none_listed c.in_ok-clients.clients.items (vec_len c.in_ok-clients.clients) c.if-not-is_empty.ensures (omega (arith, c.in_ok-clients.clients.ok.0)) c.in_ok-clients.ensures.kept;
  covered = subst (λ labels. ReachesCover c.args.net.now labels c.args.reaches.now) (sym c.requires.same) (none_listed c.in_ok-covered.covered.items (vec_len c.in_ok-covered.covered) c.if-not-is_empty-2.ensures (omega (arith, c.in_ok-covered.covered.ok.0)) c.in_ok-covered.ensures.kept);
  relabels = none_listed c.in_ok-relabels.relabels.items (vec_len c.in_ok-relabels.relabels) c.if-not-is_empty-3.ensures (omega (arith, c.in_ok-relabels.relabels.ok.0)) c.in_ok-relabels.ensures.kept;
  forwards = none_listed c.in_ok-forwards.forwards.items (vec_len c.in_ok-forwards.forwards) (sym closed ∙ c.is_empty-4.ensures) (omega (arith, c.in_ok-forwards.forwards.ok.0)) c.in_ok-forwards.ensures.kept;
}
