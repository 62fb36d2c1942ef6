use Rattle.std.proofs.Common.{◌≡◌, ◌+◌, true, false, length, ap, sym, subst, ◌∙◌}
use Rattle.buffer_state.specs.State.{State}
use Rattle.buffer_state.specs.Steps.{settled}
use Rattle.buffer_state.proofs.Serials.{on_ok_at}
use Rattle.chunk_journal.specs.Outlines.{IsOutlined}
use Rattle.chunk_journal.specs.Places.{Spots}
use Rattle.chunk_journal.specs.Feeding.{Heard, IsAfter}
use Rattle.chunk_journal.proofs.Fed.{going, reading, outlined, unsealed}
use Rattle.chunk_journal.proofs.outline.Outline.finish.Goals as goal

pub returns-then-not-outline-clause-not_sealed : goal.returns-then-not-outline-clause-not_sealed
returns-then-not-outline-clause-not_sealed g c = λ seen a e.
    let mid : Heard = c.read_on.new.self in
    let unread : mid.place.is_sealed ≡ false = ap (λ (h : Heard). h.place.is_sealed) (sym c.outline.view_is) ∙ c.if-not-outline.true in
    unsealed mid seen (reading mid seen (going mid c.in_default.ensures.going) (c.read_on.ensures.after seen a)) c.in_default.ensures.torn unread

pub returns-clause-ok : goal.returns-clause-ok
returns-clause-ok g c = λ seen a.
    let mid : Heard = c.read_on.new.self in
    let a1 : IsAfter mid seen = c.read_on.ensures.after seen a in
    let sealed : mid.place.is_sealed ≡ true = ap (λ (h : Heard). h.place.is_sealed) (sym c.outline.view_is) ∙ c.if-not-outline.false in
    let end : Heard = record mid { place = record { is_sealed = mid.place.is_sealed; state = settled mid.place.state } } in
    let is : c.settle.new.self ≡ end = on_ok_at c.settle.result c.settle.ensures.ok (sym c.is_err.ensures.value ∙ c.if-is_err.false) in
    let ends : c.into_outlined.result.used + length mid.rest ≡ mid.fed = subst (λ (h : Heard). c.into_outlined.result.used + length h.rest ≡ h.fed) is c.into_outlined.ensures.used in
    subst (λ (chunks : State). IsOutlined seen chunks c.into_outlined.result.places c.into_outlined.result.used) (sym (c.into_outlined.ensures.chunks ∙ ap (λ (h : Heard). h.place.state) is))
    (subst (λ (spots : Spots). IsOutlined seen (settled mid.place.state) spots c.into_outlined.result.used) (sym (c.into_outlined.ensures.places ∙ ap (λ (h : Heard). h.spots) is))
    (outlined mid seen (reading mid seen (going mid c.in_default.ensures.going) a1) c.into_outlined.result.used c.in_default.ensures.torn sealed a1.fed ends))
