use Rattle.std.proofs.Common.{◌≡◌, ℕ, [], ap, get_or, length, arith, refl}
use Rattle.std.proofs.lemmas.Option.{slice_get-get_or}
use Rattle.plan_lines.specs.Parts.{plan_of}
use Rattle.label_plan.specs.declared.name.DropName.{DropName}
use Rattle.label_plan.proofs.Dropping.{paths_still}
use Rattle.label_plan.proofs.Gone.{none_gone, more_gone, all_gone, whole_still, refused_before}
use Rattle.label_plan.proofs.drops.with_drops.Goals as goal

-- what stands behind the names
no_name : DropName
no_name = record { relay = 0; scope = record { ref_ptr = (0, 0); now = [] }; index = 0 }

pub loop-at-init : goal.loop-at-init
loop-at-init g c = record { so_far = none_gone (plan_of c.args.parts) c.args.drops.now; unchanged = λ none. refl; whole = c.requires; paths = λ are. are }

pub loop-at-preserved : goal.loop-at-preserved
unfolding no_name
loop-at-preserved g c =
    let names = c.args.drops.now in
    let at = c.loop-at.at in
    let mid = plan_of c.loop-at.changed in
    let after = plan_of c.let_go.new.parts in
    let name = get_or names at no_name in
    record {
      so_far = more_gone (plan_of c.args.parts) mid after names at name (slice_get-get_or names at no_name c.loop-at-test.true) c.loop-at.invariant.so_far c.in-Ok.ensures.lets;
      unchanged = λ none. absurd (omega (arith, none));
      whole = whole_still mid after name c.in-Ok.ensures.lets c.loop-at.invariant.whole;
      paths = λ are. paths_still mid after name c.in-Ok.ensures.lets (c.loop-at.invariant.paths are);
    }

pub returns-in-Err-clause-refused : goal.returns-in-Err-clause-refused
unfolding no_name
returns-in-Err-clause-refused g c =
    let names = c.args.drops.now in
    let at = c.loop-at.at in
    refused_before (plan_of c.args.parts).net (plan_of c.loop-at.changed).net names (get_or names at no_name) at c.in-Err.error
    c.loop-at.invariant.so_far.are_let_go.outline_stays (slice_get-get_or names at no_name c.loop-at-test.true) c.in-Err.ensures.refused

pub returns-clause-dropped : goal.returns-clause-dropped
returns-clause-dropped g c = all_gone (plan_of c.args.parts) (plan_of c.loop-at.changed) c.args.drops.now c.loop-at.at (omega arith) c.loop-at.invariant.so_far

pub returns-clause-unchanged : goal.returns-clause-unchanged
returns-clause-unchanged g c = λ none. let empty : length c.args.drops.now ≡ 0 = ap length none in c.loop-at.invariant.unchanged (omega (arith, empty))
