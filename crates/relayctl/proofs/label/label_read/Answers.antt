use Rattle.std.proofs.Common.{◌≡◌, ℕ, List, ap, subst, ◌∙◌}
use Rattle.plan_lines.specs.Faults.{IsRefusal}
use Rattle.plan_lines.specs.Forms.{confs_named}
use Rattle.plan_lines.specs.Plans.{texts as texts_of}
use Rattle.program_text.proofs.PlanSteps.{bytes, are_read, refused_stop}
use Rattle.relayctl.proofs.label.label_read.Goals as goal

pub returns : goal.returns
returns g c =
    let text = c.in_ok-text.text.items in
    let confs = texts_of c.in_ok-confs.confs.items in
    let names : bytes c.deref-2.result.now ≡ confs_named text = ap bytes c.deref-2.ensures.value ∙ c.in_ok-names.ensures.names ∙ ap confs_named c.deref.ensures.value in
    let said : IsRefusal g.row.A.Denot text confs c.in-Err.fault =
    subst (λ (t : List ℕ). IsRefusal g.row.A.Denot t confs c.in-Err.fault) c.deref-3.ensures.value
    (subst (λ v. IsRefusal g.row.A.Denot c.deref-3.result.now (texts_of v) c.in-Err.fault) c.deref-4.ensures.value c.in-Err.ensures.refused) in
    record {
      labelled = tt;
      stop = refused_stop g.row.A.Denot (g.R.CountedRead.remaining c.args.net.now) (g.O.Open.text_of c.args.files.now) c.in-Err.fault c.plan_stop.result
          (record {
            text = text;
            confs = confs;
            read = are_read (g.R.CountedRead.remaining c.args.net.now) (g.O.Open.text_of c.args.files.now) text c.deref-2.result.now confs c.in_ok-text.ensures.whole names c.in_ok-confs.ensures.texts;
            refused = said;
          })
          c.plan_stop.ensures;
    }
