use Rattle.std.proofs.Common.{List, [], refl, subst, arith}
use Rattle.relay_conf.specs.declared.relay.Scope.{Scope}
use Rattle.std.proofs.lemmas.Option.{slice_get_read}
use Rattle.loss_rules.specs.Lines.{Adds, site_of, KeptInList, BrokenInList, KeptInRelay, BrokenInRelay}
use Rattle.loss_rules.proofs.Lines.{one_more, all_of, lines_are, kept_are}
use Rattle.loss_rules.proofs.requirement.relay_lines.Goals as goal

pub loop-scope-preserved : goal.loop-scope-preserved
loop-scope-preserved g c = one_more (λ scope found. KeptInList (λ rule m. g.R.Requirement.keeps c.args.asked.now (site_of c.args.place scope rule) m) found.matches.items) (λ scope found line. BrokenInList (λ rule m at. g.R.Requirement.breaks c.args.asked.now (site_of c.args.place scope rule) m at) found.matches.items line) c.deref-found-items.result.now c.loop-scope.scope c.found-item.result _ _ _ (slice_get_read c.deref-found-items.result.now _ c.loop-scope.scope c.found-item.result refl (omega arith) c.found-item.is) c.loop-scope.invariant (rw c.deref.ensures.value at c.in_ok-add_scope_lines.ensures)

pub returns-clause-lines : goal.returns-clause-lines
returns-clause-lines g c =
    let P : List (Scope g.row.A.Denot) → Type 0 = λ xs. Adds (KeptInList (λ scope found. KeptInList (λ rule m. g.R.Requirement.keeps c.args.asked.now (site_of c.args.place scope rule) m) found.matches.items) xs) (BrokenInList (λ scope found line. BrokenInList (λ rule m at. g.R.Requirement.breaks c.args.asked.now (site_of c.args.place scope rule) m at) found.matches.items line) xs) [] c.loop-scope.lines.items in
    let added : P c.args.relay.now.scopes.items = subst P c.deref-found-items.ensures.value (all_of (λ scope found. KeptInList (λ rule m. g.R.Requirement.keeps c.args.asked.now (site_of c.args.place scope rule) m) found.matches.items) (λ scope found line. BrokenInList (λ rule m at. g.R.Requirement.breaks c.args.asked.now (site_of c.args.place scope rule) m at) found.matches.items line) c.deref-found-items.result.now c.loop-scope.scope _ _ (omega arith) c.loop-scope.invariant) in
    lines_are (BrokenInRelay (λ scope rule found line. g.R.Requirement.breaks c.args.asked.now (site_of c.args.place scope rule) found line) c.args.relay.now) _ _ added.lines c.put_in_order.ensures.rise c.put_in_order.ensures.same

pub returns-clause-kept : goal.returns-clause-kept
returns-clause-kept g c none =
    let P : List (Scope g.row.A.Denot) → Type 0 = λ xs. Adds (KeptInList (λ scope found. KeptInList (λ rule m. g.R.Requirement.keeps c.args.asked.now (site_of c.args.place scope rule) m) found.matches.items) xs) (BrokenInList (λ scope found line. BrokenInList (λ rule m at. g.R.Requirement.breaks c.args.asked.now (site_of c.args.place scope rule) m at) found.matches.items line) xs) [] c.loop-scope.lines.items in
    let added : P c.args.relay.now.scopes.items = subst P c.deref-found-items.ensures.value (all_of (λ scope found. KeptInList (λ rule m. g.R.Requirement.keeps c.args.asked.now (site_of c.args.place scope rule) m) found.matches.items) (λ scope found line. BrokenInList (λ rule m at. g.R.Requirement.breaks c.args.asked.now (site_of c.args.place scope rule) m at) found.matches.items line) c.deref-found-items.result.now c.loop-scope.scope _ _ (omega arith) c.loop-scope.invariant) in
    let are = lines_are (BrokenInRelay (λ scope rule found line. g.R.Requirement.breaks c.args.asked.now (site_of c.args.place scope rule) found line) c.args.relay.now) _ _ added.lines c.put_in_order.ensures.rise c.put_in_order.ensures.same in
    kept_are (KeptInRelay (λ scope rule found. g.R.Requirement.keeps c.args.asked.now (site_of c.args.place scope rule) found) c.args.relay.now) _ _ added.decided are none
