use Rattle.std.proofs.Common.{◌≡◌, ◌∙◌, ℕ, List, [], map, get_or, sym, refl, arith, Bool, true, false}
use Rattle.std.specs.Borrow.{Bor}
use Rattle.std.specs.Prelude.{not}
use Rattle.std.specs.Str.{bytes_eq}
use Rattle.std.proofs.lemmas.Slice.Eq.{bytes_eq-Decides}
use Rattle.std.proofs.lemmas.List.{take_more_same, get_or-map, length-map}
use Rattle.label_plan.proofs.certificate.begin_with.Goals as goal

abbrev no_line : Bor (List ℕ)
no_line = record { ref_ptr = (0, 0); now = [] }

abbrev now : Bor (List ℕ) → List ℕ
now line = line.now

-- a test that isn't refused
not_refused : (b : Bool) → false ≡ not b → b ≡ true
not_refused true e = refl
not_refused false e = e

pub loop-at-preserved : goal.loop-at-preserved
loop-at-preserved c =
    let all = c.args.all.now in
    let own = c.args.own.now in
    let at = c.loop-at.at in
    let same : (get_or all at no_line).now ≡ (get_or own at no_line).now =
    (bytes_eq-Decides (get_or all at no_line).now (get_or own at no_line).now).0 (not_refused (bytes_eq (get_or all at no_line).now (get_or own at no_line).now) c.if-ne.ensures) in
    take_more_same (map now all) (map now own) at [] (simp length-map (omega arith)) (simp length-map (omega arith)) c.loop-at.invariant
    (get_or-map now all at no_line [] (omega arith) ∙ same ∙ sym (get_or-map now own at no_line [] (omega arith)))
