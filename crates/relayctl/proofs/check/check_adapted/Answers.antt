use Rattle.std.proofs.Common.{rules, ◌≡◌, ap, ◌∙◌, subst, inl, inr, map, List, ℕ}
use Rattle.std.specs.Prelude.{string_bytes}
use Rattle.conf_listing.specs.Networks.{AreAdaptedTexts, AreNotAdapted}
use Rattle.program_text.specs.Plans.{AreRead}
use Rattle.plan_lines.specs.Forms.{confs_named}
use Rattle.plan_lines.specs.Plans.{texts as texts_of}
use Rattle.relayctl.specs.Checking.{IsTextsCheck}
use Rattle.program_text.proofs.PlanSteps.{bytes, are_read}
use Rattle.relayctl.proofs.check.check_adapted.Goals as goal

pub returns-in-Texts : goal.returns-in-Texts
returns-in-Texts g c =
    let net = g.R.CountedRead.remaining c.args.net.now in
    let named = g.O.Open.text_of c.args.files.now in
    let text = c.in_ok-text.text.items in
    let confs = texts_of c.in_ok-confs.confs.items in
    let adapted = texts_of c.in-Texts.adapted.texts.items in
    let names : bytes c.deref-2.result.now ≡ confs_named text = ap bytes c.deref-2.ensures.value ∙ c.in_ok-names.ensures.names ∙ ap confs_named c.deref.ensures.value in
    let each : AreAdaptedTexts g.row.A.Denot confs (map string_bytes c.args.accepted.now) adapted = search rules in
    let is : IsTextsCheck g.row.A.Denot text adapted c.args.drops.now c.in_ok-found-in-Texts.found = search rules in
    record {
      given = text;
      confs = confs;
      read = are_read net named text c.deref-2.result.now confs c.in_ok-text.ensures.whole names c.in_ok-confs.ensures.texts;
      is = inl (record { adapted = adapted; each = each; before = c.in_ok-found-in-Texts.found; is = is; noted = c.in_ok-as_adapted-in-Texts.ensures });
    }

pub returns : goal.returns
returns g c =
    let net = g.R.CountedRead.remaining c.args.net.now in
    let named = g.O.Open.text_of c.args.files.now in
    let text = c.in_ok-text.text.items in
    let confs = texts_of c.in_ok-confs.confs.items in
    let names : bytes c.deref-2.result.now ≡ confs_named text = ap bytes c.deref-2.ensures.value ∙ c.in_ok-names.ensures.names ∙ ap confs_named c.deref.ensures.value in
    let are : AreNotAdapted g.row.A.Denot (confs_named text) confs (map string_bytes c.args.accepted.now) c.in-Stopped.stopped.lines.items c.in-Stopped.stopped.has_fault = search rules in
    record {
      given = text;
      confs = confs;
      read = are_read net named text c.deref-2.result.now confs c.in_ok-text.ensures.whole names c.in_ok-confs.ensures.texts;
      is = inr (record { stopped = c.in-Stopped.stopped; are = are; says = c.not_adapted.ensures });
    }
