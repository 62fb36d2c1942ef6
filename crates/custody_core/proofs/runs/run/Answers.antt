use Rattle.std.proofs.Common.{◌≡◌, suc, take, drop, sym, subst, ◌∙◌, arith}
use Rattle.std.proofs.lemmas.List.{length-take-le, take_all}
use Rattle.relay_net.specs.Network.{Network}
use Rattle.custody_steps.specs.Rules.{Names, Allowed, effect}
use Rattle.custody_steps.specs.Steps.{IsRefused, Steps}
use Rattle.custody_steps.specs.World.{initial_world}
use Rattle.custody_core.proofs.EveryBranch.{each_branch}
use Rattle.custody_core.proofs.EveryNetwork.{nothing_lost}
use Rattle.custody_core.proofs.HeldOnward.{held_onward}
use Rattle.custody_core.proofs.Leads.{labelled, lead_on}
use Rattle.custody_core.proofs.Made.{sourced}
use Rattle.custody_core.proofs.StepsMore.{steps_more}
use Rattle.loss_rules.proofs.Keeping.{keeping_rules_in, each_output_keeps_in}
use Rattle.loss_rules.proofs.Ways.{labelled_kept}
use Rattle.step_lines.proofs.Places.{split_at, take_next}
use Rattle.custody_core.proofs.runs.run.Goals as goal

pub returns-in-Err-clause-refused : goal.returns-in-Err-clause-refused
returns-in-Err-clause-refused g c =
    let steps = c.args.steps.now in
    let place = c.loop-place.place in
    let step = c.index-steps-place.result in
    let before = c.loop-place.world.shown.world in
    record {
      before = take place steps;
      refused = step;
      others = drop (suc place) steps;
      steps_are = split_at steps place step c.loop-place-test.true c.index-steps-place.is;
      number_is = let n = length-take-le place steps (omega arith) in omega arith;
      world = before;
      taken = c.loop-place.invariant.1;
      is_refused = subst (λ (net : Network _). IsRefused net before step c.in-Err.fault) c.loop-place.invariant.0 c.in-Err.ensures.refused;
    }

pub loop-place-preserved : goal.loop-place-preserved
loop-place-preserved g c =
    let net = c.args.net.now in
    let steps = c.args.steps.now in
    let place = c.loop-place.place in
    let step = c.index-steps-place.result in
    let before = c.loop-place.world.shown.world in
    let after = c.step.new.self.shown.world in
    let ok = subst (λ (net : Network _). Names net before step × Allowed net before step × (after ≡ effect net before step)) c.loop-place.invariant.0 c.in_default.ensures.ok in (
      c.step.ensures.net ∙ c.loop-place.invariant.0,
      rw (take_next steps place step c.loop-place-test.true c.index-steps-place.is, ok.2)
          (steps_more net initial_world (take place steps) before step c.loop-place.invariant.1 ok.0 ok.1),
    )

pub returns-clause-net : goal.returns-clause-net
returns-clause-net g c = c.collect.ensures.net ∙ c.loop-place.invariant.0

pub returns-clause-taken : goal.returns-clause-taken
returns-clause-taken g c = subst (Steps c.args.net.now initial_world c.args.steps.now) (sym c.collect.ensures.same) (rw (take_all c.loop-place.place c.args.steps.now c.loop-place-test.false) at c.loop-place.invariant.1)

pub returns-clause-labelled_nothing_is_lost : goal.returns-clause-labelled_nothing_is_lost
returns-clause-labelled_nothing_is_lost g c =
    let net = c.args.net.now in
    let taken = subst (Steps c.args.net.now initial_world c.args.steps.now) (sym c.collect.ensures.same) (rw (take_all c.loop-place.place c.args.steps.now c.loop-place-test.false) at c.loop-place.invariant.1) in
    λ s is distinct rules.
    let kept = keeping_rules_in s net is rules in
    nothing_lost net (labelled net s.labels s.reaches distinct kept) (lead_on net s.labels s.reaches distinct kept) c.args.steps.now _ taken

pub returns-clause-held_onward : goal.returns-clause-held_onward
returns-clause-held_onward g c =
    let net = c.args.net.now in
    let taken = subst (Steps c.args.net.now initial_world c.args.steps.now) (sym c.collect.ensures.same) (rw (take_all c.loop-place.place c.args.steps.now c.loop-place-test.false) at c.loop-place.invariant.1) in
    λ s is distinct rules.
    let kept = keeping_rules_in s net is rules in
    held_onward net (labelled net s.labels s.reaches distinct kept) (lead_on net s.labels s.reaches distinct kept) c.args.steps.now _ taken

pub returns-clause-nothing_is_made_up : goal.returns-clause-nothing_is_made_up
returns-clause-nothing_is_made_up g c =
    let taken = subst (Steps c.args.net.now initial_world c.args.steps.now) (sym c.collect.ensures.same) (rw (take_all c.loop-place.place c.args.steps.now c.loop-place-test.false) at c.loop-place.invariant.1) in
    sourced c.args.net.now c.args.steps.now _ taken

pub returns-clause-each_branch_keeps : goal.returns-clause-each_branch_keeps
returns-clause-each_branch_keeps g c =
    let net = c.args.net.now in
    let taken = subst (Steps c.args.net.now initial_world c.args.steps.now) (sym c.collect.ensures.same) (rw (take_all c.loop-place.place c.args.steps.now c.loop-place-test.false) at c.loop-place.invariant.1) in
    λ s is distinct rules every.
    let kept = keeping_rules_in s net is rules in
    each_branch net (labelled net s.labels s.reaches distinct kept) (lead_on net s.labels s.reaches distinct kept)
    (λ at tag labelled buffer leaf. labelled_kept net s.labels s.reaches distinct kept (each_output_keeps_in s net is rules every) at.relay at.scope tag labelled buffer leaf) c.args.steps.now _ taken
