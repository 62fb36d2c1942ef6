use Rattle.std.proofs.Common.{◌-◌, length, refl, rules, sym, subst}
use Rattle.std.proofs.lemmas.Int.{to_z-of_z}
use mir.Syntax.{w128}
use mir.Val.{SFits, of_z, to_z}
use Rattle.event_listing.specs.Forms.{BeginsNo}
use Rattle.sink_series.proofs.Onward.{none_case, some_case}
use Rattle.folder_counts.specs.Tallies.{IsFirst}
use Rattle.folder_counts.proofs.Tallied.{fewer_left, front_end, front_more, front_start, FrontOn}
use Rattle.folder_counts.proofs.events.count_front.Goals as goal

pub events-init : goal.events-init
events-init g c = front_start (g.S.Spelling.form) c.args.before c.args.bytes.now

pub events-smaller : goal.events-smaller
events-smaller g c =
    let first = some_case c.in_ok-first.field-0 c.in-Some.first (BeginsNo (g.S.Spelling.form) c.events.rest.now)
    (λ one. IsFirst (g.S.Spelling.form) c.events.rest.now one.nanos one.behind.now) c.in-Some.is c.in_ok-first.ensures in
    fewer_left (g.S.Spelling.form) c.events.rest.now c.in-Some.first.behind.now c.in-Some.first.nanos first

pub events-preserved : goal.events-preserved
events-preserved g c =
    let form = g.S.Spelling.form in
    let first = some_case c.in_ok-first.field-0 c.in-Some.first (BeginsNo form c.events.rest.now)
    (λ one. IsFirst form c.events.rest.now one.nanos one.behind.now) c.in-Some.is c.in_ok-first.ensures in
    let nanos = c.in-Some.first.nanos in
    let fits : SFits w128 nanos = search rules in
    subst (λ tally. FrontOn form c.args.before c.args.bytes.now tally c.in-Some.first.behind.now) (sym c.in_ok-tally-in-Some.ensures)
    (front_more form c.args.before c.events.tally c.args.bytes.now c.events.rest.now c.in-Some.first.behind.now (to_z w128 (of_z w128 nanos)) c.events.invariant
    (subst (λ n. IsFirst form c.events.rest.now n c.in-Some.first.behind.now) (sym (to_z-of_z w128 nanos fits)) first))

pub returns-clause-all : goal.returns-clause-all
returns-clause-all g c =
    let form = g.S.Spelling.form in
    let none = none_case c.in_ok-first.field-0 (BeginsNo form c.events.rest.now) (λ one. IsFirst form c.events.rest.now one.nanos one.behind.now) c.in-None.is c.in_ok-first.ensures in
    front_end form c.args.before c.events.tally c.args.bytes.now c.events.rest.now (length c.args.bytes.now - length c.events.rest.now) c.events.invariant none refl
