use Rattle.std.proofs.Common.{◌≡◌, ap, ◌∙◌, subst, List, ℕ}
use Rattle.program_text.specs.Plans.{AreRead}
use Rattle.plan_lines.specs.Forms.{confs_named}
use Rattle.plan_lines.specs.Plans.{texts as texts_of}
use Rattle.relayctl.specs.Checking.{IsTextsCheck}
use Rattle.program_text.proofs.PlanSteps.{bytes, are_read}
use Rattle.relayctl.proofs.check.check_read.Goals as goal

pub returns : goal.returns
returns g c =
    let net = g.R.CountedRead.remaining c.args.net.now in
    let named = g.O.Open.text_of c.args.files.now in
    let text = c.in_ok-text.text.items in
    let confs = texts_of c.in_ok-confs.confs.items in
    let names : bytes c.deref-2.result.now ≡ confs_named text = ap bytes c.deref-2.ensures.value ∙ c.in_ok-names.ensures.names ∙ ap confs_named c.deref.ensures.value in
    record {
      given = text;
      confs = confs;
      read = are_read net named text c.deref-2.result.now confs c.in_ok-text.ensures.whole names c.in_ok-confs.ensures.texts;
      is = subst (λ (t : List ℕ). IsTextsCheck g.row.A.Denot t confs c.args.drops.now c.in_ok-found.found) c.deref-3.ensures.value
          (subst (λ v. IsTextsCheck g.row.A.Denot c.deref-3.result.now (texts_of v) c.args.drops.now c.in_ok-found.found) c.deref-5.ensures.value c.in_ok-found.ensures);
    }
