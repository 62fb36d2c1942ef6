use Rattle.std.proofs.Common.{◌≡◌, ◌↔◌, Some, None, IsTrue, slice_get, length, sym, ap, ◌∙◌, arith}
use Rattle.std.specs.Prelude.{vec_len}
use Rattle.std.specs.Option.{option_copied}
use Rattle.relay_net.proofs.Gets.{got}
use Rattle.loss_rules.specs.Breaks.{IsFirstOfPath}
use Rattle.loss_rules.specs.Lines.{StandsBehind}
use Rattle.loss_rules.proofs.Lines.{added_unless, kept_adds, is_empty_iff}
use Rattle.loss_rules.proofs.Places.{kept_outputs, broken_output, no_output}
use Rattle.loss_rules.proofs.paths.HasOwnPathsRequirementOutput.add_lines.Goals as goal

pub returns-in_default : goal.returns-in_default
returns-in_default g c =
    let none : slice_get c.args.self.now.net.now.relays c.args.at.place ≡ None =
    sym (got c.args.self.now.net.now.relays c.relays.result.now c.args.at.place c.get.result c.relays.ensures c.get.ensures.lookup) ∙ ap option_copied c.in_default.is in
    let kept : IsFirstOfPath c.args.self.now.net.now c.args.at.place c.args.at.scope c.args.at.rule c.args.at.output c.args.found.now = λ s r o other is. absurd (no_output c.args.self.now.net.now c.args.at.place s r o other none is) in
    kept_adds (IsFirstOfPath c.args.self.now.net.now c.args.at.place c.args.at.scope c.args.at.rule c.args.at.output c.args.found.now) _ _ kept (λ line b. b.1 kept)

pub returns : goal.returns
returns g c =
    let there : slice_get c.args.self.now.net.now.relays c.args.at.place ≡ Some c.in-Some.node.now =
    sym (got c.args.self.now.net.now.relays c.relays.result.now c.args.at.place c.get.result c.relays.ensures c.get.ensures.lookup) ∙ ap option_copied c.in-Some.is in
    let size : vec_len c.in_ok-before.before ≡ length c.in_ok-before.before.items = omega (arith, c.in_ok-before.before.ok.0) in
    let iff : IsTrue c.is_empty.result ↔ IsFirstOfPath c.args.self.now.net.now c.args.at.place c.args.at.scope c.args.at.rule c.args.at.output c.args.found.now =
    is_empty_iff _ _ c.in_ok-before.before.items (vec_len c.in_ok-before.before) c.is_empty.result size c.is_empty.ensures
    (λ none. kept_outputs c.args.self.now.net.now c.args.at.place c.in-Some.node.now (λ s r o other. StandsBehind c.args.at c.args.found.now (record { place = c.args.at.place; scope = s; rule = r; output = o }) other) there (c.in_ok-before.ensures.kept none))
    c.in_ok-before.ensures.lines
    (λ line b. broken_output c.args.self.now.net.now c.args.at.place c.in-Some.node.now (λ s r o other. StandsBehind c.args.at c.args.found.now (record { place = c.args.at.place; scope = s; rule = r; output = o }) other) line there b) in
    added_unless c.add_unless.result (IsFirstOfPath c.args.self.now.net.now c.args.at.place c.args.at.scope c.args.at.rule c.args.at.output c.args.found.now) c.is_empty.result _ _ _ iff (rw c.line_of.ensures at c.add_unless.ensures)
