use Rattle.std.specs.Prelude.{◌≡◌, [], take}
use Rattle.loss_rules.specs.Everywhere.{AreByRelays, AreInRelay}
use Rattle.loss_rules.specs.Lines.{site_of, KeptInRelay, BrokenInNet}
use Rattle.loss_rules.proofs.Lines.{KeptBelow}
use Rattle.loss_rules.proofs.requirement.broken_places.Given as goal

abbrev pub invariant-loop-place : goal.invariant-loop-place
invariant-loop-place g l = record {
  listed : AreByRelays (AreInRelay (BrokenInNet l.net (λ place scope rule found line. g.R.Requirement.breaks l.asked (site_of place scope rule) found line))) 0 (take l.place l.net.relays) l.places.items;
  kept : l.places.items ≡ [] → KeptBelow (λ place node. KeptInRelay (λ scope rule found. g.R.Requirement.keeps l.asked (site_of place scope rule) found) node.relay) l.net.relays l.place;
}
