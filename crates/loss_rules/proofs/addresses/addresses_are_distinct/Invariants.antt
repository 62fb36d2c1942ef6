use Rattle.std.specs.Prelude.{◌≡◌, [], take}
use Rattle.loss_rules.specs.Breaks.{AreNewBefore}
use Rattle.loss_rules.specs.Everywhere.{AreByRelays, AreTwiceInRelay}
use Rattle.loss_rules.proofs.addresses.addresses_are_distinct.Given as goal

abbrev pub invariant-loop-place : goal.invariant-loop-place
invariant-loop-place g l = record {
  listed : AreByRelays (AreTwiceInRelay l.net l.relay_lines) 0 (take l.place l.net.relays) l.places.items;
  kept : l.places.items ≡ [] → AreNewBefore l.net l.relay_lines l.place;
}
