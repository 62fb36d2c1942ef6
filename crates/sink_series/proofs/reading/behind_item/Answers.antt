use Rattle.std.proofs.Common.{ℕ, ◌≡◌, List, ◌∷◌, ◌++◌, drop, Some, None, refl, ap, sym, ◌∙◌, append_assoc}
use Rattle.msgpack_bytes.specs.Spelling.{str_of}
use Rattle.std.proofs.lemmas.Bool.Decides.{Decides-eqb}
use Rattle.std.proofs.lemmas.Slice.Eq.{strip_prefix_is}
use Rattle.sink_series.specs.Events.{Event, item_of}
use Rattle.sink_series.proofs.Items.{item_parts, item_stripped}
use Rattle.sink_series.proofs.reading.behind_item.Goals as goal

pub returns : goal.returns
returns g c =
    let event : Event = record { tag = c.args.tag.now; entry = c.args.entry.now } in
    let front : c.as_slice.result.now ≡ 0x93 ∷ str_of c.args.tag.now = c.as_slice.ensures.value ∙ c.in_ok-put_front.ensures ∙ ap (λ (z : List ℕ). z ++ 0x93 ∷ str_of c.args.tag.now) c.new-front.ensures.items in
    item_stripped c.args.bytes.now c.in-Some.content.now c.as_slice.result.now c.split_at.result.1.now (item_of event) c.strip_prefix-2.result
    (strip_prefix_is Decides-eqb c.args.bytes.now c.as_slice.result.now (Some c.in-Some.content) c.in-Some.ensures.cases)
    (item_parts c.as_slice.result.now c.split_at.result.1.now event front c.split_at.ensures.back)
    (strip_prefix_is Decides-eqb c.in-Some.content.now c.split_at.result.1.now c.strip_prefix-2.result c.strip_prefix-2.ensures.cases)

pub returns-in_default : goal.returns-in_default
returns-in_default g c rest same =
    let event : Event = record { tag = c.args.tag.now; entry = c.args.entry.now } in
    let front : c.as_slice.result.now ≡ 0x93 ∷ str_of c.args.tag.now = c.as_slice.ensures.value ∙ c.in_ok-put_front.ensures ∙ ap (λ (z : List ℕ). z ++ 0x93 ∷ str_of c.args.tag.now) c.new-front.ensures.items in
    let none = strip_prefix_is Decides-eqb c.args.bytes.now c.as_slice.result.now None c.in_default.ensures.cases in
    none (drop 1 c.args.entry.now ++ rest)
    (same ∙ ap (λ (z : List ℕ). z ++ rest) (sym (item_parts c.as_slice.result.now (drop 1 c.args.entry.now) event front refl)) ∙ append_assoc c.as_slice.result.now (drop 1 c.args.entry.now) rest)
