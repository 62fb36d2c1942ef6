-- From what is listed, or want of memory, to what is printed.
use Rattle.std.proofs.Common.{ℕ, List, Result, Ok, Err, inl, inr}
use Rattle.std.specs.Prelude.{IfOk, MatchResult, Option}
use Rattle.std.specs.declared.vec.Vec.{Vec}
use Rattle.loss_rules.specs.Breaks.{Subject}
use Rattle.program_text.specs.Lines.{memory_line}
use Rattle.program_text.specs.Output.{IsPrinted}
use Rattle.program_text.specs.Plans.{IsPlanRead}
use Rattle.program_text.specs.Stops.{IsRelayRead}
use Rattle.program_text.specs.declared.status.Status.{Status}
use Rattle.program_text.specs.declared.status.Status.TheVariants.{Done, Usage}
use Rattle.relay_conf.specs.declared.relay.Relay.{Relay}
use Rattle.way_listing.specs.Lines.{AreWays as AreWaysOfPlan, PrintsPlanWays}
use Rattle.way_listing.specs.Ways.{AreWays, PrintsWays}

-- the ways of a relay
pub printed_ways : {A E : Type 0} (conf : Option (List ℕ)) (tags : List (List ℕ)) (old new : Option (List ℕ)) (status : Status) (relay : Relay A) (found : Result (Vec ℕ A) E) → IsRelayRead conf relay
    → IfOk found (λ lines. AreWays relay tags lines.items)
    → MatchResult found (λ lines. IsPrinted old new lines.items Done status) (λ _. IsPrinted old new memory_line Usage status) → PrintsWays A conf tags old new status
printed_ways conf tags old new status relay (Ok lines) read ways printed = inl (record { relay = relay; is_read = read; lines = lines.items; ways = ways; printed = printed })
printed_ways conf tags old new status relay (Err e) read ways printed = inr (inr printed)

-- the ways through a plan
pub printed_plan_ways : {A E : Type 0} (net : Option (List ℕ)) (named : List ℕ → Option (List ℕ)) (tags : List (List ℕ)) (old new : Option (List ℕ)) (status : Status) (plan : Subject A) (found : Result (Vec ℕ A) E) → IsPlanRead net named plan
    → IfOk found (λ lines. AreWaysOfPlan plan tags lines.items)
    → MatchResult found (λ lines. IsPrinted old new lines.items Done status) (λ _. IsPrinted old new memory_line Usage status) → PrintsPlanWays A net named tags old new status
printed_plan_ways net named tags old new status plan (Ok lines) read ways printed = inl (record { plan = plan; is_read = read; lines = lines.items; ways = ways; printed = printed })
printed_plan_ways net named tags old new status plan (Err e) read ways printed = inr (inr printed)
