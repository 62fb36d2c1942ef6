use Rattle.std.proofs.Common.{ℕ, ◌≡◌, ◌+◌, List, [], ◌∷◌, ◌++◌, ◌⊎◌, take, ap, sym, subst, ◌∙◌, arith}
use Rattle.std.specs.Prelude.{◌↔◌, IsTrue}
use Rattle.std.specs.Ordering.{nat_cmp}
use Rattle.std.specs.BTreeSet.{contains}
use Rattle.std.proofs.lemmas.List.{take_more, take_all}
use Rattle.numbered_files.specs.Names.{IsNumber, IsNamed}
use Rattle.numbered_files.proofs.Found.{named_more}
use Rattle.numbered_files.proofs.folder.numbers_in.Goals as goal

pub loop-name-preserved : goal.loop-name-preserved
loop-name-preserved g c n =
    let names = c.args.names.now in
    let i = c.loop-name.name-index in
    let name = c.name-item.result in
    let grown : take (i + 1) names ≡ take i names ++ name ∷ [] = take_more names i name c.loop-name-test.true ∙ ap (λ x. take i names ++ x ∷ []) (sym c.name-item.is) in
    named_more c.args.family (take i names) (take (i + 1) names) name grown n (IsTrue (contains nat_cmp c.loop-name.found n)) (IsTrue (contains nat_cmp c.take_in.new.found n))
    (subst (λ (x : List ℕ). IsTrue (contains nat_cmp c.take_in.new.found n) ↔ (IsTrue (contains nat_cmp c.loop-name.found n) ⊎ IsNumber c.args.family x n)) c.as_bytes.ensures (c.in_ok-take_in.ensures n))
    (c.loop-name.invariant n)

pub returns : goal.returns
returns g c n =
    subst (λ l. IsTrue (contains nat_cmp c.loop-name.found n) ↔ IsNamed c.args.family l n)
    (take_all c.loop-name.name-index c.args.names.now (omega arith)) (c.loop-name.invariant n)
