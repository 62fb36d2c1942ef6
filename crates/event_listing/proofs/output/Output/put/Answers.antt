use Rattle.std.proofs.Common.{Some, refl, sym, ap, ◌∙◌, subst}
use Rattle.event_listing.specs.Shown.{IsWritten, Shown}
use Rattle.event_listing.proofs.Outputs.{all_put, unique_put}
use Rattle.event_listing.proofs.output.Output.put.Goals as goal

pub returns-in-None : goal.returns-in-None
returns-in-None g c =
    let new : Shown = record { written = g.W.Write.contents c.write_all.new.out; recent = c.self.inside.recent } in
    all_put c.args.self.now new c.args.text.now c.write_all.result (sym (ap (λ o. o.recent) c.self.view_is) ∙ c.in-None.is) c.in-None.is
    (subst (λ w. IsWritten w (g.W.Write.contents c.write_all.new.out) c.args.text.now c.write_all.result) (ap (λ o. o.written) c.self.view_is) c.write_all.ensures)

pub returns-in-Ok : goal.returns-in-Ok
returns-in-Ok g c =
    let out = g.W.Write.contents c.write_all-in-Ok.new.out in
    let new : Shown = record { written = out; recent = Some c.keep.new.self } in
    let takes = subst (λ k. IsWritten (g.W.Write.contents c.self.inside.writer) out k c.write_all-in-Ok.result) c.deref.ensures.value c.write_all-in-Ok.ensures in
    unique_put c.args.self.now new c.args.text.now c.in-Ok.kept.items c.in-Some.recent c.keep.new.self c.write_all-in-Ok.result (sym (ap (λ o. o.recent) c.self.view_is) ∙ c.in-Some.is) refl c.in-Ok.ensures
    (subst (λ w. IsWritten w out c.in-Ok.kept.items c.write_all-in-Ok.result) (ap (λ o. o.written) c.self.view_is) takes)
