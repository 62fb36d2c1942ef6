use Rattle.std.proofs.Common.{◌≡◌, ℕ, ◌<◌, get_or}
use Rattle.way_listing.specs.Sendings.{Sending, sending}
use Rattle.way_listing.proofs.sent.is_among.Given as goal

abbrev pub invariant-loop-one : goal.invariant-loop-one
invariant-loop-one g l = (k : ℕ) (d : Sending) → k < l.one-index → get_or l.found k d ≡ sending (record { host = l.host; port = l.port }) l.tag → ⊥
