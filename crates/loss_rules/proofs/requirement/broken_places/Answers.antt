use Rattle.std.proofs.Common.{◌≡◌, ◌<◌, Some, slice_get, length, refl, ap, sym, subst, ◌∙◌, arith}
use Rattle.std.proofs.lemmas.Option.{slice_get_read, slice_get_within}
use Rattle.std.proofs.lemmas.List.{take_all}
use Rattle.loss_rules.specs.Everywhere.{AreByRelays, AreInRelay}
use Rattle.loss_rules.specs.Lines.{site_of, KeptInRelay, BrokenInRelay, BrokenInNet}
use Rattle.loss_rules.proofs.Lines.{kept_more, same_lines, no_conf_lines}
use Rattle.loss_rules.proofs.Relays.{next_relay, none_left, none_right}
use Rattle.loss_rules.proofs.Places.{each_match, in_relay, in_net}
use Rattle.loss_rules.proofs.requirement.broken_places.Goals as goal

pub loop-place-preserved : goal.loop-place-preserved
loop-place-preserved g c =
    let is : slice_get c.args.net.now.relays c.loop-place.place ≡ Some c.node-item.result = rw (← c.relays-node-items.ensures) (slice_get_read c.relays-node-items.result.now _ c.loop-place.place c.node-item.result refl (omega arith) c.node-item.is) in
    let at = c.loop-place.place in
    let mine = same_lines (BrokenInRelay (λ scope rule found line. g.R.Requirement.breaks c.args.asked.now (site_of at scope rule) found line) c.node-item.result.relay) (BrokenInNet c.args.net.now (λ place scope rule found line. g.R.Requirement.breaks c.args.asked.now (site_of place scope rule) found line) at) c.in_ok-lines.lines.items
    (λ line b. in_net c.args.net.now (λ place scope rule found line. g.R.Requirement.breaks c.args.asked.now (site_of place scope rule) found line) at line c.node-item.result is b) (λ line b. in_relay c.args.net.now (λ place scope rule found line. g.R.Requirement.breaks c.args.asked.now (site_of place scope rule) found line) at line c.node-item.result is b) c.in_ok-lines.ensures.lines in
    let put = rw c.deref.ensures.value at c.in_ok-put_conf_places.ensures in
    record {
      listed = rw put (next_relay (AreInRelay (BrokenInNet c.args.net.now (λ place scope rule found line. g.R.Requirement.breaks c.args.asked.now (site_of place scope rule) found line))) c.args.net.now.relays at c.node-item.result _ _ is c.loop-place.invariant.listed (c.in_ok-lines.lines.items, mine, refl));
      kept = λ none. kept_more (λ place node. KeptInRelay (λ scope rule found. g.R.Requirement.keeps c.args.asked.now (site_of place scope rule) found) node.relay) c.args.net.now.relays at c.node-item.result is (c.loop-place.invariant.kept (none_left _ _ (sym put ∙ none))) (c.in_ok-lines.ensures.kept (no_conf_lines _ _ (none_right _ _ (sym put ∙ none))));
    }

pub returns-clause-listed : goal.returns-clause-listed
returns-clause-listed g c =
    let all : length c.relays-node-items.result.now ≡ length c.args.net.now.relays = ap length c.relays-node-items.ensures in
    subst (λ ns. AreByRelays (AreInRelay (BrokenInNet c.args.net.now (λ place scope rule found line. g.R.Requirement.breaks c.args.asked.now (site_of place scope rule) found line))) 0 ns c.loop-place.places.items) (take_all c.loop-place.place c.args.net.now.relays (omega arith)) c.loop-place.invariant.listed

pub returns-clause-kept : goal.returns-clause-kept
returns-clause-kept g c none = each_match c.args.net.now (λ place scope rule found. g.R.Requirement.keeps c.args.asked.now (site_of place scope rule) found) (λ place node is. let within : place < length c.args.net.now.relays = slice_get_within c.args.net.now.relays place node is in
    let all : length c.relays-node-items.result.now ≡ length c.args.net.now.relays = ap length c.relays-node-items.ensures in c.loop-place.invariant.kept none place node (omega arith) is)
