use Rattle.std.proofs.Common.{sym, refl}
use Rattle.plan_lines.proofs.draft.Draft.add_label.Goals as goal

pub returns-clause-adds : goal.returns-clause-adds
returns-clause-adds g c = λ confs. record {
  label = record { place = c.in-Some-place.place; scope = c.in-Some-scope.scope; patterns = c.in_ok-patterns.patterns; line = c.args.line };
  meant = c.in-Some.number;
  number_is = sym c.in-Some.ensures;
  place_is = sym c.in-Some-place.ensures;
  scope_is = sym c.in-Some-scope.ensures;
  patterns_are = c.in_ok-patterns.ensures.patterns;
  line_is = refl;
  after_is = rw c.in_ok-push.ensures.items refl;
}
