use Rattle.std.proofs.Common.{◌≡◌, ℕ, List, ap, subst, ◌∙◌}
use Rattle.plan_lines.specs.Faults.{IsRefusal}
use Rattle.plan_lines.specs.Forms.{confs_named}
use Rattle.plan_lines.specs.Plans.{IsPlanOf, texts as texts_of}
use Rattle.plan_lines.proofs.LinesRead.{bytes_of}
use Rattle.program_text.proofs.PlanSteps.{are_read, refused_stop}
use Rattle.program_text.proofs.plan_text.read_plan.Goals as goal

pub returns-in-Ok-clause-plan : goal.returns-in-Ok-clause-plan
returns-in-Ok-clause-plan g c =
    let text = c.in_ok-text.text.items in
    let confs = texts_of c.in_ok-confs.confs.items in
    let names : bytes_of c.deref-2.result.now ≡ confs_named text = ap bytes_of c.deref-2.ensures.value ∙ c.in_ok-names.ensures.names ∙ ap confs_named c.deref.ensures.value in
    let said : IsPlanOf text confs c.in-Ok.plan =
    subst (λ (t : List ℕ). IsPlanOf t confs c.in-Ok.plan) c.deref-3.ensures.value
    (subst (λ v. IsPlanOf c.deref-3.result.now (texts_of v) c.in-Ok.plan) c.deref-4.ensures.value c.in-Ok.ensures.plan) in
    record {
      text = text;
      confs = confs;
      read = are_read (g.R.CountedRead.remaining c.args.net.now) (g.O.Open.text_of c.args.files.now) text c.deref-2.result.now confs c.in_ok-text.ensures.whole names c.in_ok-confs.ensures.texts;
      plan_is = said;
    }

pub returns : goal.returns
returns g c =
    let text = c.in_ok-text.text.items in
    let confs = texts_of c.in_ok-confs.confs.items in
    let names : bytes_of c.deref-2.result.now ≡ confs_named text = ap bytes_of c.deref-2.ensures.value ∙ c.in_ok-names.ensures.names ∙ ap confs_named c.deref.ensures.value in
    let said : IsRefusal g.row.A.Denot text confs c.in-Err.fault =
    subst (λ (t : List ℕ). IsRefusal g.row.A.Denot t confs c.in-Err.fault) c.deref-3.ensures.value
    (subst (λ v. IsRefusal g.row.A.Denot c.deref-3.result.now (texts_of v) c.in-Err.fault) c.deref-4.ensures.value c.in-Err.ensures.refused) in
    record {
      plan = tt;
      stop = refused_stop g.row.A.Denot (g.R.CountedRead.remaining c.args.net.now) (g.O.Open.text_of c.args.files.now) c.in-Err.fault c.plan_stop.result
          (record {
            text = text;
            confs = confs;
            read = are_read (g.R.CountedRead.remaining c.args.net.now) (g.O.Open.text_of c.args.files.now) text c.deref-2.result.now confs c.in_ok-text.ensures.whole names c.in_ok-confs.ensures.texts;
            refused = said;
          })
          c.plan_stop.ensures;
      calls = c.in_ok-text.ensures.calls;
    }
