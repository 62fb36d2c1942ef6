use Rattle.std.proofs.Common.{◌∙◌, ℕ, Some, IsSome, sym, ap, subst, refl}
use Rattle.conf_values.specs.Numbers.{number_of}
use Rattle.loss_rules.specs.Sites.{rule_at}
use Rattle.plan_lines.specs.Drafts.{draft_of}
use Rattle.plan_lines.proofs.Found.{index_found}
use Rattle.plan_lines.proofs.draft.Draft.add_reach.Goals as goal

pub returns-clause-adds : goal.returns-clause-adds
returns-clause-adds g c = λ confs.
    let net = (draft_of c.args.self.now).net in
    let found = index_found c.in-Some-whole_number.index c.in-Some-rule.rule (rule_at net c.in-Some-place.place c.in-Some-scope.scope c.in-Some-whole_number.index) c.in-Some-rule.ensures in
    record {
      reach = record { place = c.in-Some-place.place; scope = c.in-Some-scope.scope; rule = c.in-Some-rule.rule; patterns = c.in_ok-patterns.patterns; line = c.args.line };
      meant = c.in-Some.number;
      number_is = sym c.in-Some.ensures;
      place_is = sym c.in-Some-place.ensures;
      scope_is = sym c.in-Some-scope.ensures;
      rule_is = ap number_of (sym c.as_bytes.ensures.value) ∙ sym c.in-Some-whole_number.ensures ∙ ap Some (sym found.0);
      rule_there = subst (λ (n : ℕ). IsSome (rule_at net c.in-Some-place.place c.in-Some-scope.scope n)) (sym found.0) found.1;
      patterns_are = c.in_ok-patterns.ensures.patterns;
      line_is = refl;
      after_is = rw c.in_ok-push.ensures.items refl;
    }
