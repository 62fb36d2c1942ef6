use Rattle.std.proofs.Common.{◌≡◌, ◌≢◌, ◌↔◌, IsTrue, Some, slice_get, refl, sym, ap, ◌∙◌, string_bytes, not}
use Rattle.std.proofs.lemmas.Option.{slice_get_read}
use Rattle.std.proofs.lemmas.Bool.Decides.{Decides-not}
use Rattle.relay_net.specs.declared.node.Node.{Node}
use Rattle.loss_rules.specs.declared.label.RelayLine.{RelayLine}
use Rattle.loss_rules.proofs.News.{of_pair, before_too, shown_within, read_there}
use Rattle.loss_rules.proofs.Seeks.{not_true}
use Rattle.loss_rules.proofs.addresses.is_new_to.Goals as goal

pub bounds-relays-before : goal.bounds-relays-before
bounds-relays-before g c = shown_within c.args.net.now.relays c.relays-relays.result.now c.relays-relays.ensures c.args.before (before_too c.args.before c.args.place _ c.requires.before c.requires.relay)

pub bounds-relays-place : goal.bounds-relays-place
bounds-relays-place g c = shown_within c.args.net.now.relays c.relays-relays.result.now c.relays-relays.ensures c.args.place c.requires.relay

pub bounds-lines-before : goal.bounds-lines-before
bounds-lines-before g c = before_too c.args.before c.args.place _ c.requires.before c.requires.line

pub bounds-lines-place : goal.bounds-lines-place
bounds-lines-place g c = c.requires.line

pub returns-then-relays-before : goal.returns-then-relays-before
returns-then-relays-before g c =
    let one_is : slice_get c.args.net.now.relays c.args.before ≡ Some c.index-relays-before.result = read_there c.args.net.now.relays c.relays-relays.result.now c.relays-relays.ensures c.args.before (before_too c.args.before c.args.place _ c.requires.before c.requires.relay) c.index-relays-before.result c.index-relays-before.is in
    let two_is : slice_get c.args.net.now.relays c.args.place ≡ Some c.index-relays-place.result = read_there c.args.net.now.relays c.relays-relays.result.now c.relays-relays.ensures c.args.place c.requires.relay c.index-relays-place.result c.index-relays-place.is in
    let same : c.index-relays-before.result.number ≡ c.index-relays-place.result.number = ap (λ (x : Node g.row.A.Denot). x.number) c.index-relays-before.is ∙ (c.if-relays-before.true ∙ ap (λ (x : Node g.row.A.Denot). x.number) (sym c.index-relays-place.is)) in
    (λ e. absurd (not_true e), λ h. absurd (h.0 c.index-relays-before.result c.index-relays-place.result one_is two_is same))

pub returns : goal.returns
returns g c =
    let one_is : slice_get c.args.net.now.relays c.args.before ≡ Some c.index-relays-before.result = read_there c.args.net.now.relays c.relays-relays.result.now c.relays-relays.ensures c.args.before (before_too c.args.before c.args.place _ c.requires.before c.requires.relay) c.index-relays-before.result c.index-relays-before.is in
    let two_is : slice_get c.args.net.now.relays c.args.place ≡ Some c.index-relays-place.result = read_there c.args.net.now.relays c.relays-relays.result.now c.relays-relays.ensures c.args.place c.requires.relay c.index-relays-place.result c.index-relays-place.is in
    let first_is : slice_get c.args.lines.now c.args.before ≡ Some c.index-lines-before.result = slice_get_read c.args.lines.now _ c.args.before c.index-lines-before.result refl (before_too c.args.before c.args.place _ c.requires.before c.requires.line) c.index-lines-before.is in
    let second_is : slice_get c.args.lines.now c.args.place ≡ Some c.index-lines-place.result = slice_get_read c.args.lines.now _ c.args.place c.index-lines-place.result refl c.requires.line c.index-lines-place.is in
    let differ : c.index-relays-before.result.number ≢ c.index-relays-place.result.number = λ p. c.if-relays-before.false (ap (λ (x : Node g.row.A.Denot). x.number) (sym c.index-relays-before.is) ∙ (p ∙ ap (λ (x : Node g.row.A.Denot). x.number) c.index-relays-place.is)) in
    let one : c.as_bytes.result.now ≡ string_bytes c.index-lines-before.result.folder = c.as_bytes.ensures.value ∙ ap (λ (x : RelayLine g.row.A.Denot). string_bytes x.folder) (sym c.index-lines-before.is) in
    let two : c.as_bytes-2.result.now ≡ string_bytes c.index-lines-place.result.folder = c.as_bytes-2.ensures.value ∙ ap (λ (x : RelayLine g.row.A.Denot). string_bytes x.folder) (sym c.index-lines-place.is) in
    let same : IsTrue c.is_same_text.result ↔ (string_bytes c.index-lines-before.result.folder ≡ string_bytes c.index-lines-place.result.folder) = (λ t. sym one ∙ (c.is_same_text.ensures.0 t ∙ two), λ h. c.is_same_text.ensures.1 (one ∙ (h ∙ sym two))) in
    let other : IsTrue (not c.is_same_text.result) ↔ (string_bytes c.index-lines-before.result.folder ≢ string_bytes c.index-lines-place.result.folder) = Decides-not c.is_same_text.result same in (
      λ t. (
        of_pair c.args.net.now.relays c.args.before c.args.place c.index-relays-before.result c.index-relays-place.result (λ x y. x.number ≢ y.number) one_is two_is differ,
        of_pair c.args.lines.now c.args.before c.args.place c.index-lines-before.result c.index-lines-place.result (λ x y. string_bytes x.folder ≢ string_bytes y.folder) first_is second_is (other.0 t),
      ),
      λ h. other.1 (h.1 c.index-lines-before.result c.index-lines-place.result first_is second_is),
    )

pub as_bytes-requires : goal.as_bytes-requires
as_bytes-requires g c = λ κs lives. lives

pub as_bytes-requires-2 : goal.as_bytes-requires-2
as_bytes-requires-2 g c = λ κs lives. lives
