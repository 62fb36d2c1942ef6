use Rattle.std.proofs.Common.{◌≡◌, Some, length, slice_get, refl, ap, sym, subst, ◌∙◌, arith}
use Rattle.std.proofs.lemmas.Option.{slice_get_read}
use Rattle.std.proofs.lemmas.List.{take_all}
use Rattle.loss_rules.specs.Everywhere.{AreByRelays, AreInRelay}
use Rattle.loss_rules.proofs.Cycles.{IsBroken, cycle-lines, kept-more, kept-all}
use Rattle.loss_rules.proofs.Lines.{no_conf_lines}
use Rattle.loss_rules.proofs.Relays.{next_relay, none_left, none_right}
use Rattle.loss_rules.proofs.cycle.no_relabel_cycle.Goals as goal

pub loop-place-preserved : goal.loop-place-preserved
loop-place-preserved g c =
    let is : slice_get c.args.net.now.relays c.loop-place.place ≡ Some c.node-item.result = rw (← c.relays-node-items.ensures) (slice_get_read c.relays-node-items.result.now _ c.loop-place.place c.node-item.result refl (omega arith) c.node-item.is) in
    let at = c.loop-place.place in
    let mine = cycle-lines c.args.net.now c.args.reaches.now at c.in_ok-graph.graph c.in_ok-lines.lines.items c.in_ok-graph.ensures c.in_ok-lines.ensures in
    let put = rw c.deref.ensures.value at c.in_ok-put_conf_places.ensures in
    record {
      listed = rw put (next_relay (AreInRelay (IsBroken c.args.net.now c.args.reaches.now)) c.args.net.now.relays at c.node-item.result _ _ is c.loop-place.invariant.listed (c.in_ok-lines.lines.items, mine, refl));
      kept = λ none. kept-more c.args.net.now c.args.reaches.now at c.in_ok-lines.lines.items mine (no_conf_lines _ _ (none_right _ _ (sym put ∙ none))) (c.loop-place.invariant.kept (none_left _ _ (sym put ∙ none)));
    }

pub returns-clause-listed : goal.returns-clause-listed
returns-clause-listed g c =
    let all : length c.relays-node-items.result.now ≡ length c.args.net.now.relays = ap length c.relays-node-items.ensures in
    subst (λ ns. AreByRelays (AreInRelay (IsBroken c.args.net.now c.args.reaches.now)) 0 ns c.loop-place.places.items) (take_all c.loop-place.place c.args.net.now.relays (omega arith)) c.loop-place.invariant.listed

pub returns-clause-kept : goal.returns-clause-kept
returns-clause-kept g c none =
    let all : length c.relays-node-items.result.now ≡ length c.args.net.now.relays = ap length c.relays-node-items.ensures in
    kept-all c.args.net.now c.args.reaches.now c.loop-place.place (omega arith) (c.loop-place.invariant.kept none)
