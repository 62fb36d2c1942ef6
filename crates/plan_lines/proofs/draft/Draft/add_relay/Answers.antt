use Rattle.std.proofs.Common.{◌≡◌, ◌∙◌, ℕ, ◌<◌, length, sym, ap, subst, refl, slice_get, arith}
use Rattle.plan_lines.specs.Drafts.{draft_of}
use Rattle.plan_lines.specs.Faults.{IsTextFault}
use Rattle.plan_lines.specs.Plans.{texts}
use Rattle.plan_lines.proofs.RefusedTexts.{text_refused_as, full}
use Rattle.plan_lines.proofs.Texts.{text_there}
use Rattle.plan_lines.proofs.draft.Draft.add_relay.Goals as goal

pub returns-clause-adds : goal.returns-clause-adds
returns-clause-adds g c = λ conf. record {
  node = record { number = c.in-Some.number; host = c.in_ok-host.host; relay = c.in_ok-relay.relay };
  entry = record { folder = c.in_ok-folder.folder; line = c.args.line };
  number_is = sym c.in-Some.ensures;
  host_is = c.in_ok-host.ensures.ok;
  text = c.index-confs-nodes.result.items;
  text_is =
      let same : length c.nodes.result.now ≡ length c.args.self.now.relays = ap length c.nodes.ensures in
      ap (slice_get (texts c.args.confs.now)) (sym same) ∙ text_there c.args.confs.now (length c.nodes.result.now) c.index-confs-nodes.result (omega arith) c.index-confs-nodes.is;
  relay_is = rw c.deref.ensures.value at c.in_ok-relay.ensures.relay;
  folder_is = c.in_ok-folder.ensures.ok;
  line_is = refl;
  after_is = rw (c.in_ok-add.ensures, c.in_ok-push.ensures.items) refl;
}

pub returns-in_default-clause-refuses : goal.returns-in_default-clause-refuses
returns-in_default-clause-refuses g c = λ conf. (refl, sym c.relay_number.ensures ∙ c.in_default.is)

pub returns-in_err-relay-clause-refuses : goal.returns-in_err-relay-clause-refuses
returns-in_err-relay-clause-refuses g c =
    let same : length c.nodes.result.now ≡ length c.args.self.now.relays = ap length c.nodes.ensures in
    let text_is = ap (slice_get (texts c.args.confs.now)) (sym same) ∙ text_there c.args.confs.now (length c.nodes.result.now) c.index-confs-nodes.result (omega arith) c.index-confs-nodes.is in
    text_refused_as (texts c.args.confs.now) c.args.line c.args.number.now c.args.host.now c.args.folder.now c.index-confs-nodes.result.items c.in-Some.number (draft_of c.args.self.now) (sym c.in-Some.ensures) text_is
    c.from_residual.result c.in_err-relay.field-0.0 c.from_residual.ensures.1 (subst (λ text. IsTextFault c.args.line text c.in_err-relay.field-0.0) c.deref.ensures.value c.in_err-relay.ensures.fault)

pub bounds-confs-nodes : goal.bounds-confs-nodes
bounds-confs-nodes g c =
    let same : length c.nodes.result.now ≡ length c.args.self.now.relays = ap length c.nodes.ensures in
    subst (λ (n : ℕ). n < length c.args.confs.now) (sym same) c.requires

pub returns-in_err-host-clause-refuses : goal.returns-in_err-host-clause-refuses
returns-in_err-host-clause-refuses g c = full (texts c.args.confs.now) c.args.line c.args.number.now c.args.host.now c.args.folder.now (draft_of c.args.self.now) c.from_residual-in_err-host.result c.from_residual-in_err-host.ensures.1

pub returns-in_err-folder-clause-refuses : goal.returns-in_err-folder-clause-refuses
returns-in_err-folder-clause-refuses g c = full (texts c.args.confs.now) c.args.line c.args.number.now c.args.host.now c.args.folder.now (draft_of c.args.self.now) c.from_residual-in_err-folder.result c.from_residual-in_err-folder.ensures.1

pub returns-in_err-add-clause-refuses : goal.returns-in_err-add-clause-refuses
returns-in_err-add-clause-refuses g c = full (texts c.args.confs.now) c.args.line c.args.number.now c.args.host.now c.args.folder.now (draft_of c.args.self.now) c.from_residual-in_err-add.result c.from_residual-in_err-add.ensures.1

pub returns-in_err-push-clause-refuses : goal.returns-in_err-push-clause-refuses
returns-in_err-push-clause-refuses g c = full (texts c.args.confs.now) c.args.line c.args.number.now c.args.host.now c.args.folder.now (draft_of c.args.self.now) c.from_residual-in_err-push.result c.from_residual-in_err-push.ensures.1
