use Rattle.std.proofs.Common.{◌≡◌, length}
use Rattle.folder_listing.specs.Placed.{SameLeft}
use Rattle.folder_listing.proofs.places.PlacesReader.here.Given as goal

abbrev pub invariant-loop-self : goal.invariant-loop-self
invariant-loop-self g l = record {
  same : SameLeft l.fn.self.places.now l.fn.self.done l.self.places.now l.self.done;
  file : l.self.file ≡ l.fn.self.file;
}

abbrev pub decreases-loop-self : goal.decreases-loop-self
decreases-loop-self g l = length l.self.places.now
