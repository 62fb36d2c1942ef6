use Rattle.std.proofs.Common.{ℕ, ◌≡◌, List, ◌∷◌, ◌++◌, ap, sym, ◌∙◌}
use Rattle.sink_series.specs.Events.{Event, item_of}
use Rattle.sink_series.proofs.Onward.{some_case, none_case}
use Rattle.sink_series.proofs.reading.next_event.Goals as goal

pub returns : goal.returns
returns g c event rest is same =
    let found = some_case c.in_ok-event.field-0 c.in-Some-2.event _ _ c.in-Some-2.is c.in_ok-event.ensures in
    let parts = c.in-Some.ensures event rest is same in
    let own : c.in-Some-2.event ≡ event =
    found.1 ∙ ap (λ (t : List ℕ). let e : Event = record { tag = t; entry = 0x92 ∷ c.in-Some.body.now } in e) parts.0
    ∙ ap (λ (z : List ℕ). let e : Event = record { tag = event.tag; entry = z } in e) parts.1 in
    let told : (let e : Event = record { tag = c.tag.result.now; entry = c.entry.result.now } in e) ≡ c.in-Some-2.event =
    ap (λ (t : List ℕ). let e : Event = record { tag = t; entry = c.entry.result.now } in e) c.tag.ensures
    ∙ ap (λ (z : List ℕ). let e : Event = record { tag = c.in-Some-2.event.tag; entry = z } in e) c.entry.ensures in
    let none = none_case c.in_ok-rest.field-0 _ _ c.in-None.is c.in_ok-rest.ensures in
    none rest (same ∙ ap (λ (e : Event). item_of e ++ rest) (sym (told ∙ own)))
