use Rattle.std.proofs.Common.{[], ◌∷◌, ◌++◌, refl, sym, ap, ◌∙◌, arith, inl, inr}
use Rattle.std.proofs.lemmas.List.{append-nil}
use Rattle.std.proofs.lemmas.Option.{slice_get_read}
use Rattle.loss_rules.specs.declared.answer.Place.TheVariants as place
use Rattle.loss_rules.specs.declared.label.RelayLine.{RelayLine}
use Rattle.loss_rules.proofs.Seeks.{not_true}
use Rattle.loss_rules.proofs.addresses.put_own_place.Goals as goal

pub returns-in_ok-push : goal.returns-in_ok-push
returns-in_ok-push g c = (
  place.Plan c.index-lines-place.result.line ∷ [],
  inr (c.index-lines-place.result, slice_get_read c.args.lines.now _ c.args.place c.index-lines-place.result refl (omega arith) c.index-lines-place.is, λ new. not_true (c.if-not-relay_is_new.ensures.1 new), refl),
  c.in_ok-push.ensures.items ∙ ap (λ (x : RelayLine g.row.A.Denot). c.args.places.now.items ++ place.Plan x.line ∷ []) (sym c.index-lines-place.is),
)

pub returns-else-not-relay_is_new : goal.returns-else-not-relay_is_new
returns-else-not-relay_is_new g c = ([], inl (c.if-not-relay_is_new.ensures.0 refl, refl), sym (append-nil c.args.places.now.items))
