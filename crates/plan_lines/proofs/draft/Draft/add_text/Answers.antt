use Rattle.std.proofs.Common.{◌≡◌, ◌∙◌, ℕ, List, length, map, sym, ap, subst}
use Rattle.std.specs.Borrow.{Bor}
use Rattle.std.specs.Prelude.{OnOk, IfErr}
use Rattle.relay_conf.specs.Examined.{words_of}
use Rattle.plan_lines.specs.Drafts.{draft_of, HasItsConf}
use Rattle.plan_lines.specs.Faults.{Refuses}
use Rattle.plan_lines.specs.Forms.{form_of}
use Rattle.plan_lines.specs.Plans.{Adds, texts}
use Rattle.plan_lines.specs.Views.{form_view}
use Rattle.plan_lines.proofs.draft.Draft.add_text.Goals as goal

pub add_form-requires : goal.add_form-requires
add_form-requires g c =
    let form_is : form_view c.form_of.result ≡ form_of (words_of c.args.text.now) =
    c.form_of.ensures ∙ ap (λ (fields : List (Bor (List ℕ))). form_of (map (λ field. field.now) fields)) c.deref.ensures.value ∙ ap form_of c.in_ok-fields.ensures in
    subst (λ form. HasItsConf form (length c.args.self.now.relays) (length c.args.confs.now)) (sym form_is) c.requires

pub returns : goal.returns
returns g c =
    let form_is : form_view c.form_of.result ≡ form_of (words_of c.args.text.now) =
    c.form_of.ensures ∙ ap (λ (fields : List (Bor (List ℕ))). form_of (map (λ field. field.now) fields)) c.deref.ensures.value ∙ ap form_of c.in_ok-fields.ensures in
    record {
      adds = subst (λ form. OnOk c.add_form.result (Adds (texts c.args.confs.now) c.args.line form (draft_of c.args.self.now) (draft_of c.add_form.new.self))) form_is c.add_form.ensures.adds;
      refuses = subst (λ form. IfErr c.add_form.result (Refuses (texts c.args.confs.now) c.args.line form (draft_of c.args.self.now))) form_is c.add_form.ensures.refuses;
    }
