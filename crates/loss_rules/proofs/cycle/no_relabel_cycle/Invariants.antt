use Rattle.std.specs.Prelude.{◌≡◌, [], take}
use Rattle.loss_rules.specs.Everywhere.{AreByRelays, AreInRelay}
use Rattle.loss_rules.proofs.Cycles.{IsBroken, IsKeptBefore}
use Rattle.loss_rules.proofs.cycle.no_relabel_cycle.Given as goal

abbrev pub invariant-loop-place : goal.invariant-loop-place
invariant-loop-place g l = record {
  listed : AreByRelays (AreInRelay (IsBroken l.net l.reaches)) 0 (take l.place l.net.relays) l.places.items;
  kept : l.places.items ≡ [] → IsKeptBefore l.net l.reaches l.place;
}
