use Rattle.std.proofs.Common.{◌≡◌, ℕ, ◌++◌, length, ap, sym, ◌∙◌, subst, rules}
use Rattle.std.proofs.lemmas.List.{length-map}
use Rattle.custody_store.specs.Book.{told_of}
use Rattle.plan_answers.proofs.replay.list_world.Goals as goal
use Rattle.std.specs.Prelude.{codes, decimal}
use Rattle.program_text.specs.Lines.{line}

pub returns : goal.returns
returns g c =
    let said = c.in_ok-said.said in
    let w = c.args.world.now.shown.world in
    let all : length c.acknowledged-acknowledged.result.now ≡ length w.acknowledged = sym (length-map c.acknowledged-acknowledged.result.now told_of) ∙ ap length c.acknowledged-acknowledged.ensures in
    let written = λ (n : ℕ). c.extend_from_slice.new.self.items ≡ said.lines.items ++ (line (codes "steps " ++ decimal c.args.steps ++ codes " acknowledged " ++ decimal n ++ codes " lost " ++ decimal said.lost)) in
    let whole : written (length c.acknowledged-acknowledged.result.now) = search rules in
    let last = line (codes "steps " ++ decimal c.args.steps ++ codes " acknowledged " ++ decimal (length w.acknowledged) ++ codes " lost " ++ decimal said.lost) in
    record {
      held = c.in_ok-said.ensures.0;
      are_held = c.in_ok-said.ensures.1;
      lost = said.lost;
      lost_is = c.in_ok-said.ensures.3;
      written_is = subst written all whole ∙ ap (λ lines. lines ++ last) c.in_ok-said.ensures.2;
      is_status = c.status_of_loss.ensures;
    }
