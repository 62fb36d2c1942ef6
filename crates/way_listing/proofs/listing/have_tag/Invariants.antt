use Rattle.std.proofs.Common.{◌≡◌, ℕ, ◌<◌, get_or}
use Rattle.way_listing.specs.Sendings.{Sending}
use Rattle.way_listing.proofs.listing.have_tag.Given as goal

abbrev pub invariant-loop-one : goal.invariant-loop-one
invariant-loop-one g l = (k : ℕ) (d : Sending) → k < l.one-index → (get_or l.sent k d).tag ≡ l.tag → ⊥
