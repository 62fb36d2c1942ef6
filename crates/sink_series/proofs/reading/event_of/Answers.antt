use Rattle.std.proofs.Common.{ℕ, ◌≡◌, ◌≤◌, List, [], ◌∷◌, ◌++◌, length, ap, sym, subst, ◌∙◌, arith}
use Rattle.sink_series.specs.Events.{Event}
use Rattle.event_modes.specs.Rows.{IsStored}
use Rattle.sink_series.proofs.Items.{none_stored, some_stored}
use Rattle.sink_series.proofs.reading.event_of.Goals as goal

pub returns-in-None : goal.returns-in-None
returns-in-None g c is =
    let same : c.deref.result.now ≡ 0x92 ∷ c.args.body.now =
    c.deref.ensures.value ∙ c.in_ok-extend_from_slice.ensures.items
    ∙ ap (λ (z : List ℕ). z ++ c.args.body.now) (c.in_ok-push.ensures.items ∙ ap (λ (z : List ℕ). z ++ 0x92 ∷ []) c.in_ok-entry.ensures.items) in
    none_stored c.in_ok-read.field-0 c.deref.result.now c.in-None.is c.in_ok-read.ensures.only (subst IsStored (sym same) is.stored)

pub returns-in_ok-tag-in-Some : goal.returns-in_ok-tag-in-Some
returns-in_ok-tag-in-Some g c =
    let items : c.extend_from_slice.new.self.items ≡ 0x92 ∷ c.args.body.now =
    c.in_ok-extend_from_slice.ensures.items ∙ ap (λ (z : List ℕ). z ++ c.args.body.now) (c.in_ok-push.ensures.items ∙ ap (λ (z : List ℕ). z ++ 0x92 ∷ []) c.in_ok-entry.ensures.items) in
    let tag_is = c.in_ok-tag-in-Some.ensures.items in
    let stored = some_stored c.in_ok-read.field-0 c.deref.result.now _ c.in-Some.is c.in_ok-read.ensures.found in
    let short : length c.in_ok-tag-in-Some.tag.items ≤ 1024 = omega (arith, ap length tag_is) in (
      record { short = short; stored = subst IsStored c.deref.ensures.value stored },
      ap (λ (t : List ℕ). let e : Event = record { tag = t; entry = c.extend_from_slice.new.self.items } in e) tag_is
          ∙ ap (λ (z : List ℕ). let e : Event = record { tag = c.args.tag.now; entry = z } in e) items,
    )
