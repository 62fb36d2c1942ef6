use Rattle.std.proofs.Common.{ℕ, List, Some, sym, subst, ◌∙◌, ap}
use Rattle.std.specs.List.{AllByRecursion}
use Rattle.disk_files.specs.Disk.{Makes}
use Rattle.disk_files.specs.Moments.{now}
use Rattle.sink_series.specs.Events.{IsEvent, written_by}
use Rattle.sink_series.specs.Names.{sink_name}
use Rattle.sink_series.proofs.Kept.{keeps_new}
use Rattle.sink_series.proofs.series.Series.open.Goals as goal

pub invariant_of-result : goal.invariant_of-result
invariant_of-result g c =
    let e = c.in-Ok.ensures in
    let begun = ap written_by c.new.ensures in
    let number = c.in-Ok.field-0.number in
    record {
      sound = record {
        named = e.opened ∙ ap (λ (p : List ℕ). Some (sink_name p number)) (sym e.path);
        each = subst (AllByRecursion IsEvent) (sym begun) tt;
      };
      kept = λ opened.
          let honest = subst g.D.Dir.is_honest c.of-opening.ensures opened in
          let leaves = e.leaves honest in
          keeps_new g.D.Dir.is_honest g.D.Dir.history _ c.args.dir c.args.path.now c.of-opening.ensures leaves.honest begun c.new-in-Ok.ensures
          (subst (λ (p : List ℕ). Makes (sink_name p number) (now (g.D.Dir.history c.args.dir)) (now (g.D.Dir.history c.make_next.new.dir))) (sym e.path) (e.made honest)) leaves.moments leaves.safe;
    }

pub returns-in-Ok-clause-opens : goal.returns-in-Ok-clause-opens
returns-in-Ok-clause-opens g c honest =
    let e = c.in-Ok.ensures in
    let number = c.in-Ok.field-0.number in
    record {
      next = e.next honest;
      made = subst (λ (p : List ℕ). Makes (sink_name p number) (now (g.D.Dir.history c.args.dir)) (now (g.D.Dir.history c.make_next.new.dir))) (sym e.path) (e.made honest);
      kept = (invariant_of-result g c).kept (subst g.D.Dir.is_honest (sym c.of-opening.ensures) honest);
    }
