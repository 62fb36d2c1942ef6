use Rattle.std.proofs.Common.{◌≡◌, refl, sym, ap, ◌∙◌, length}
use Rattle.std.specs.List.{concat}
use Rattle.std.proofs.lemmas.Bool.Decides.{Decides-eqb}
use Rattle.std.proofs.lemmas.Slice.Eq.{slice_eq-Decides}
use Rattle.event_modes.specs.Rows.{AreEntries}
use Rattle.event_modes.proofs.Again.{one_list}
use Rattle.ack_receipt.proofs.booked.leaving.are_same.Goals as goal

pub returns-then-count : goal.returns-then-count
returns-then-count g c = (
  (λ t.
      let bytes : concat c.args.other.now ≡ concat c.args.one.now = sym (sym c.as_bytes.ensures.all ∙ (slice_eq-Decides Decides-eqb c.as_bytes.result.now c.as_bytes-then-count.result.now c.eq.result c.eq.ensures).0 t ∙ c.as_bytes-then-count.ensures.all) in
      let many : length c.args.one.now ≡ length c.args.other.now = sym c.count.ensures ∙ c.if-count.true ∙ c.count-2.ensures in
      let a : AreEntries c.args.one.now (length c.args.other.now) (concat c.args.other.now) = record { each = c.as_bytes.ensures.stored; all = many; whole = sym bytes } in
      let b : AreEntries c.args.other.now (length c.args.other.now) (concat c.args.other.now) = record { each = c.as_bytes-then-count.ensures.stored; all = refl; whole = refl } in
      sym (one_list (length c.args.other.now) (concat c.args.other.now) c.args.one.now a).1 ∙ (one_list (length c.args.other.now) (concat c.args.other.now) c.args.other.now b).1),
  (λ same. (slice_eq-Decides Decides-eqb c.as_bytes.result.now c.as_bytes-then-count.result.now c.eq.result c.eq.ensures).1 (c.as_bytes.ensures.all ∙ ap concat same ∙ sym c.as_bytes-then-count.ensures.all)),
)
