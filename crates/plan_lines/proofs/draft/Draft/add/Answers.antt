use Rattle.std.proofs.Common.{◌≡◌, ℕ, List, length, sym, ap, subst, refl}
use Rattle.std.specs.Prelude.{OnOk, IfErr}
use Rattle.std.proofs.lemmas.Str.{is_utf8-from_IsUtf8}
use Rattle.relay_conf.specs.Examined.{words_of}
use Rattle.plan_lines.specs.Drafts.{draft_of, HasItsConf}
use Rattle.plan_lines.specs.Faults.{Refuses}
use Rattle.plan_lines.specs.Forms.{form_of, line_form}
use Rattle.plan_lines.specs.Plans.{Adds, texts}
use Rattle.plan_lines.proofs.Texts.{not_utf8}
use Rattle.plan_lines.proofs.draft.Draft.add.Goals as goal

pub add_text-requires : goal.add_text-requires
add_text-requires g c =
    let form_is : line_form c.args.text.now ≡ form_of (words_of c.in-Ok.text.now) = rw (is_utf8-from_IsUtf8 c.args.text.now c.in-Ok.ensures.cases.1) (ap (λ (t : List ℕ). form_of (words_of t)) (sym c.in-Ok.ensures.cases.0)) in
    subst (λ form. HasItsConf form (length c.args.self.now.relays) (length c.args.confs.now)) form_is c.requires

pub returns-in-Ok : goal.returns-in-Ok
returns-in-Ok g c =
    let form_is : line_form c.args.text.now ≡ form_of (words_of c.in-Ok.text.now) = rw (is_utf8-from_IsUtf8 c.args.text.now c.in-Ok.ensures.cases.1) (ap (λ (t : List ℕ). form_of (words_of t)) (sym c.in-Ok.ensures.cases.0)) in
    record {
      adds = subst (λ form. OnOk c.add_text.result (Adds (texts c.args.confs.now) c.args.line form (draft_of c.args.self.now) (draft_of c.add_text.new.self))) (sym form_is) c.add_text.ensures.adds;
      refuses = subst (λ form. IfErr c.add_text.result (Refuses (texts c.args.confs.now) c.args.line form (draft_of c.args.self.now))) (sym form_is) c.add_text.ensures.refuses;
    }

pub returns-in-Err-clause-refuses : goal.returns-in-Err-clause-refuses
returns-in-Err-clause-refuses g c = (refl, rw (not_utf8 c.args.text.now c.in-Err.ensures.cases.0) refl)
