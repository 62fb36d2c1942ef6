use Rattle.std.proofs.Common.{◌≡◌, ℕ, ◌<◌, ◌++◌, Some, slice_get, length, refl, ap, sym, subst, ◌∙◌, arith}
use Rattle.std.proofs.lemmas.List.{append_assoc, take_all}
use Rattle.loss_rules.specs.Everywhere.{AreByRelays, AreTwiceInRelay, conf_places}
use Rattle.loss_rules.proofs.Lines.{no_conf_lines}
use Rattle.loss_rules.proofs.News.{new_more, all_new, own_is_new, shown_within, read_there}
use Rattle.loss_rules.proofs.Relays.{next_relay, none_left, none_right}
use Rattle.loss_rules.proofs.addresses.addresses_are_distinct.Goals as goal

pub put_own_place-requires : goal.put_own_place-requires
put_own_place-requires g c =
    let within : c.loop-place.place < length c.args.net.now.relays = shown_within c.relays-node-items.result.now c.args.net.now.relays (sym c.relays-node-items.ensures) c.loop-place.place c.loop-place-test.true in
    record { relay = within; line = subst (λ (n : ℕ). c.loop-place.place < n) (sym c.requires) within }

pub source_lines-requires : goal.source_lines-requires
source_lines-requires g c = shown_within c.relays-node-items.result.now c.args.net.now.relays (sym c.relays-node-items.ensures) c.loop-place.place c.loop-place-test.true

pub loop-place-preserved : goal.loop-place-preserved
loop-place-preserved g c =
    let within : c.loop-place.place < length c.args.net.now.relays = shown_within c.relays-node-items.result.now c.args.net.now.relays (sym c.relays-node-items.ensures) c.loop-place.place c.loop-place-test.true in
    let is : slice_get c.args.net.now.relays c.loop-place.place ≡ Some c.node-item.result = read_there c.args.net.now.relays c.relays-node-items.result.now c.relays-node-items.ensures c.loop-place.place within c.node-item.result c.node-item.is in
    let at = c.loop-place.place in
    let own = c.in_ok-put_own_place.ensures in
    let sources = conf_places c.node-item.result.number c.in_ok-lines.lines.items in
    let put = rw c.deref.ensures.value at c.in_ok-put_conf_places.ensures in
    let all = put ∙ (ap (λ ps. ps ++ sources) own.2 ∙ append_assoc c.loop-place.places.items own.0 sources) in
    record {
      listed = rw all (next_relay (AreTwiceInRelay c.args.net.now c.args.relay_lines.now) c.args.net.now.relays at c.node-item.result c.loop-place.places.items (own.0 ++ sources) is c.loop-place.invariant.listed
          (own.0, sources, own.1, (c.in_ok-lines.lines.items, c.in_ok-lines.ensures.lines, refl), refl));
      kept = λ none. (
          let here = none_right c.loop-place.places.items (own.0 ++ sources) (sym all ∙ none) in
          new_more c.args.net.now c.args.relay_lines.now at (c.loop-place.invariant.kept (none_left c.loop-place.places.items (own.0 ++ sources) (sym all ∙ none)))
          (own_is_new c.args.net.now c.args.relay_lines.now at own.0 own.1 (none_left own.0 sources here)) (c.in_ok-lines.ensures.kept (no_conf_lines c.node-item.result.number _ (none_right own.0 sources here)))
          );
    }

pub returns-clause-listed : goal.returns-clause-listed
returns-clause-listed g c =
    let size : length c.relays-node-items.result.now ≡ length c.args.net.now.relays = ap length c.relays-node-items.ensures in
    subst (λ ns. AreByRelays (AreTwiceInRelay c.args.net.now c.args.relay_lines.now) 0 ns c.loop-place.places.items) (take_all c.loop-place.place c.args.net.now.relays (omega arith)) c.loop-place.invariant.listed

pub returns-clause-kept : goal.returns-clause-kept
returns-clause-kept g c none =
    let size : length c.relays-node-items.result.now ≡ length c.args.net.now.relays = ap length c.relays-node-items.ensures in
    all_new c.args.net.now c.args.relay_lines.now c.loop-place.place (omega arith) c.requires (c.loop-place.invariant.kept none)
